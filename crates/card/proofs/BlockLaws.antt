-- What a block write changes, and what it leaves.
-- Assumes nothing.
use Prim.Native.Nat.{ℕ, ◌+◌, ◌-◌, ◌*◌, ◌≤◌}
use lib.ListN.{length, take, drop, length-append}
use lib.Seq.{take_all, take_at, drop_at}
use mathlib.Core.List.{List, ◌++◌}
use mathlib.Core.Logic.{◌≢◌, ⊎_elim}
use mathlib.Core.Path.{◌≡◌, ap, ◌∙◌}
use native.Mathlib.Omega.{arith}
use Rattle.card.proofs.BytesLaws.{shared_part, lent-patch, part_length, patch-length, part-patch_same, part-patch_before, part-patch-after, patch_old, patch_on, patch_last}
use Rattle.card.proofs.Test.{apart}
use Rattle.card.specs.Block.{block_at, put_block}
use Rattle.card.specs.Bytes.{part}

module _ (c : List ℕ) (n : ℕ) (b : List ℕ) (long : length b ≡ 512) (fits : 512 * n + 512 ≤ length c) where
  pub put_length : length (put_block c n b) ≡ length c
  unfolding put_block
  put_length = patch-length c (512 * n) b (omega arith)

  pub put_same : block_at (put_block c n b) n ≡ b
  unfolding put_block block_at
  put_same = part-patch_same c (512 * n) b (omega arith) 512 long

  pub put_other : (m : ℕ) → m ≢ n → block_at (put_block c n b) m ≡ block_at c m
  unfolding put_block block_at
  put_other m ne = ⊎_elim
      (λ h. part-patch_before c (512 * n) b (omega arith) (512 * m) 512 (omega arith))
      (λ h. part-patch-after c (512 * n) b (omega arith) (512 * m) 512 (omega arith))
      (apart m n ne)

pub block_length : (c : List ℕ) (n : ℕ) → 512 * n + 512 ≤ length c → length (block_at c n) ≡ 512
unfolding block_at
block_length c n h = part_length c (512 * n) 512 h

-- a block put back as it was
pub put_old : (c : List ℕ) (n : ℕ) → put_block c n (block_at c n) ≡ c
unfolding put_block block_at
put_old c n = patch_old c (512 * n) 512

-- ---- two blocks, one after the other

pub block_first : (x y : List ℕ) → length x ≡ 512 → block_at (x ++ y) 0 ≡ x
unfolding block_at part
block_first x y h = let e : 512 * 0 ≡ 0 = omega arith in ap (λ (k : ℕ). take 512 (drop k (x ++ y))) e ∙ take_at x y 512 h

pub block_second : (x y : List ℕ) → length x ≡ 512 → length y ≡ 512 → block_at (x ++ y) 1 ≡ y
unfolding block_at part
block_second x y h k = ap (λ (z : List ℕ). take 512 z) (drop_at x y (512 * 1) (omega (arith, h))) ∙ take_all 512 y (omega (arith, k))

-- put as code puts them
pub put_both : (c b d x y : List ℕ) → length c ≡ 1024 → length x ≡ 512 → length y ≡ 512 → b ≡ put_block c 0 x → d ≡ put_block b 1 y → d ≡ x ++ y
unfolding put_block
put_both c b d x y h m n p q =
    let z : 512 * 0 ≡ 0 = omega arith in
    let o : 512 * 1 ≡ 512 = omega arith in
    let long : 0 + length (x ++ y) ≡ length c = simp length-append (omega (arith, h, m, n)) in
    rw (q, p, z, o) (patch_on c x y 512 m (omega (arith, h, n)) ∙ patch_last c 0 (x ++ y) long)

-- ---- what code leaves of a card

-- a block lent for reading
pub lent_block : (c : List ℕ) (n : ℕ) → take (512 * n + 512 - 512 * n) (drop (512 * n) c) ≡ block_at c n
unfolding block_at
lent_block c n = shared_part c (512 * n) (512 * n + 512) 512 (omega arith)

-- a block lent for writing, into which b was copied
pub lent_put : (c : List ℕ) (n : ℕ) (b y : List ℕ) → length b ≡ 512 → 512 * n + 512 ≤ length c
    → y ≡ take (length b) b ++ drop (length b) (take (512 * n + 512 - 512 * n) (drop (512 * n) c))
    → take (512 * n) c ++ (y ++ drop (512 * n + 512 - 512 * n) (drop (512 * n) c)) ≡ put_block c n b
unfolding put_block
lent_put c n b y long fits e = lent-patch c b y (512 * n) (512 * n + 512) (omega arith) fits (omega arith) e
