-- `card_blocks::number::put_u32` meets its contract: the bytes that are copied in are the definition's.
use Prim.Native.Nat.{ℕ, ◌+◌, ◌/◌}
use mathlib.Core.Path.{◌≡◌, ◌∙◌}
use native.Mathlib.Omega.{arith}
use Rattle.card.proofs.BytesLaws.{lent-part, u32_length}
use Rattle.card.specs.Bytes.{u32_bytes}
use Rattle.std.specs.Int.{w32, to_le_bytes}
use Rattle.card_blocks.proofs.number.put_u32.Goals as goal

low_first : (n : ℕ) → to_le_bytes w32 n ≡ u32_bytes n
unfolding u32_bytes
low_first n =
    let second : n / 65536 ≡ n / 256 / 256 = omega arith in
    let third : n / 16777216 ≡ n / 256 / 256 / 256 = omega arith in
    rw (second, third)

pub returns : goal.returns
returns c =
    let a = c.args in
    let bytes : c.copy_from_slice.new.self ≡ u32_bytes a.n = c.copy_from_slice.ensures.after ∙ c.to_le_bytes.ensures ∙ low_first a.n in
    rw bytes (lent-part a.s.now (u32_bytes a.n) a.at (a.at + 4) (omega arith) (omega (arith, u32_length a.n)))
