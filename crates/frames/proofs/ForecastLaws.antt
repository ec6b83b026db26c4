-- The forecast by the record's numbers.
-- Assumes nothing.
use Prim.Native.Nat.{ℕ, ◌+◌, ◌-◌, ◌≤◌}
use borrow.Author.Tests.{ltb-true, ltb-false, ne_eqb}
use lib.Dec.{ltb}
use mathlib.Core.Bool.{Bool, true, cond}
use mathlib.Core.List.{List}
use mathlib.Core.Logic.{◌≢◌}
use mathlib.Core.Path.{◌≡◌, sym, ◌∙◌}
use native.Mathlib.Omega.{arith}
use Rattle.card.proofs.Test.{by_test}
use Rattle.card.specs.Ring.{dir_blocks}
use Rattle.frames.specs.Parts.{flush_owed, ends_left, Foretells}
use Rattle.record.proofs.Held.{held}
use Rattle.record.proofs.SoundLaws.{notes_length, queue_length}
use Rattle.record.specs.Holds.{tail_for, holds_together}
use Rattle.record.specs.Meaning.{waits, state_of}
use Rattle.record.specs.declared.store.Store.{Store}
use Rattle.recovery.proofs.ForecastLaws.{forecast_none, forecast-sum}
use Rattle.recovery.specs.Sums.{moves_left, forecast, commit_sum}

-- ---- by the record

-- directory and trailer blocks that are not down
behind_is : (d t : ℕ) → t ≤ d + 1 → d + 1 - t ≡ (d - t) + cond (ltb d t) 0 1
behind_is d t h = by_test (λ (n : ℕ). d + 1 - t ≡ (d - t) + n) (ltb d t) (λ e. omega (arith, h, ltb-true d t e)) (λ e. omega (arith, ltb-false d t e))

module _ (s : Store) (together : holds_together s ≡ true) where
  pub tail_few : s.pending.count ≢ 0 → s.tail ≤ dir_blocks s.pending.count + 1
  unfolding tail_for
  tail_few z = let h : s.tail ≤ tail_for s.pending.count = (held s together).tail_within in rw (ne_eqb s.pending.count 0 z) at h

  pub foretold_none : (moves n : ℕ) → s.pending.count ≡ 0 → n ≡ flush_owed s.phase → Foretells s moves n
  foretold_none moves n p q = λ over m h. q ∙ sym (forecast_none over (state_of s m) (notes_length s.pending ∙ p))

  pub foretold_some : (moves n : ℕ) → s.pending.count ≢ 0 → (ends : ℕ) → ends ≡ ends_left s.phase
      → n ≡ waits s.pending + (dir_blocks s.pending.count + 1 - s.tail) + moves + ends → Foretells s moves n
  foretold_some moves n z ends k e = λ over m h. e ∙ sum over m (h (omega (arith, z)))
    where
      sum : (over : ℕ → Bool) (m : List ℕ) → moves ≡ moves_left over (state_of s m)
          → waits s.pending + (dir_blocks s.pending.count + 1 - s.tail) + moves + ends ≡ forecast over (state_of s m)
      sum over m h = rw (forecast-sum over (state_of s m)) (unfold commit_sum in
          (rw (notes_length s.pending, ne_eqb s.pending.count 0 z, queue_length s m 0 (waits s.pending), ← h, k, behind_is (dir_blocks s.pending.count) s.tail (tail_few z)) (omega arith)))
