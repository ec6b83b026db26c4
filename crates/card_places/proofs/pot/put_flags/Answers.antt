-- `card_places::pot::put_flags` meets its contract.
use Prim.Native.Nat.{◌+◌}
use native.Mathlib.Omega.{arith}
use Rattle.card.proofs.BytesLaws.{store1}
use Rattle.card.specs.Pot.{entry_at, put_flags}
use Rattle.card_places.proofs.pot.put_flags.Goals as goal

pub returns : goal.returns
unfolding put_flags
returns c =
    let a = c.args in
    rw c.entry_at.ensures (store1 a.pot.now (entry_at a.i + 4) a.flags (omega (arith, c.requires)))
