-- The record of zeros, which a refused start hands out, is refused 1, whatever memory and card it is lent with.
-- Assumes nothing.
use Prim.Native.Nat.{ℕ, ◌*◌}
use borrow.Author.Tests.{eqb-true}
use lib.Dec.{eqb}
use lib.ListN.{length}
use mathlib.Core.Bool.{Bool, true, false, ◌&&◌, and-false}
use mathlib.Core.List.{List}
use mathlib.Core.Path.{◌≡◌, refl}
use Rattle.card.proofs.QuestionLaws.{asked_no}
use Rattle.card.specs.Block.{whole}
use Rattle.card.specs.Question.{first_no}
use Rattle.frames.specs.Promise.{lent, common}
use Rattle.record.specs.Meaning.{zero_store}
use Rattle.recovery.specs.Questions.{held_asks}

-- no length is 4 to 64 whole frames and 0
no_frames : (n : ℕ) → whole 4 64 n && eqb n (512 * 0) ≡ false
unfolding whole
no_frames n = go (eqb n 0) refl
  where
    go : (t : Bool) → eqb n 0 ≡ t → whole 4 64 n && eqb n 0 ≡ false
    go true e = rw (eqb-true n 0 e) refl
    go false e = rw e (and-false (whole 4 64 n))

pub zeros-first : (m c : List ℕ) → first_no (common (lent zero_store m c)) ≡ 1
unfolding held_asks zero_store
zeros-first m c = asked_no 1 _ _ (no_frames (length m))
