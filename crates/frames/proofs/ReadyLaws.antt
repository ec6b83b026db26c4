-- What questions 1 to 3 tell once they are passed.
-- Assumes nothing.
use Prim.Native.Nat.{ℕ, ◌+◌, ◌*◌, ◌/◌, ◌≤◌, ◌<◌}
use borrow.Author.Tests.{eqb-true, eqb-false, eq-eqb, ne_eqb}
use lib.Dec.{eqb}
use lib.ListN.{length}
use mathlib.Core.Bool.{Bool, true, false, ◌&&◌}
use mathlib.Core.List.{List, [], ◌++◌}
use mathlib.Core.Logic.{◌≢◌, ⊎_elim}
use mathlib.Core.Path.{◌≡◌, refl, ap, sym}
use native.Mathlib.Omega.{arith}
use Rattle.card.proofs.CheckpointLaws.{whole_tells}
use Rattle.card.proofs.QuestionLaws.{passed_both, group_yes, group_no, groups_passed}
use Rattle.card.proofs.RingLaws.{on_in, ring_high, size_above}
use Rattle.card.proofs.Test.{both, le_or_lt}
use Rattle.card.specs.Block.{whole}
use Rattle.card.specs.Bytes.{All}
use Rattle.card.specs.Question.{Question, first_no}
use Rattle.card.specs.Ring.{ring_at}
use Rattle.frames.specs.Promise.{Lent, common_asks, common}
use Rattle.frames.specs.Parts.{Writable, Readable}
use Rattle.record.proofs.Held.{Held, held, bounds}
use Rattle.record.specs.Holds.{holds_together}
use Rattle.record.specs.Meaning.{zero_store, size_of, committed_size_of, pending_first, current_first}
use Rattle.record.specs.declared.store.Store.{Store}
use Rattle.recovery.specs.Questions.{held_asks}

-- questions 1 to 3 as facts
pub record Ready (s : Store) (memory card : ℕ) : Type 0 where
  pub together : holds_together s ≡ true
  pub memory_is : memory ≡ 512 * s.frames
  pub frames_low : 4 ≤ s.frames
  pub frames_high : s.frames ≤ 64
  pub card_is : card ≡ 512 * s.geometry.blocks
  pub blocks_high : s.geometry.blocks ≤ 65536

-- whole blocks, as many as are said
pub whole_said : (low high n said : ℕ) → whole low high n ≡ true → eqb (n / 512) said ≡ whole low high n && eqb n (512 * said)
whole_said low high n said h = rw h (go (eqb (n / 512) said) refl)
  where
    go : (b : Bool) → eqb (n / 512) said ≡ b → b ≡ eqb n (512 * said)
    go true q = let k : n / 512 ≡ said = eqb-true (n / 512) said q in sym (eq-eqb n (512 * said) (omega (arith, (whole_tells low high n h).0, k)))
    go false q = sym (ne_eqb n (512 * said) (λ k. eqb-false (n / 512) said q (omega (arith, k))))

said_tells : (low high n said : ℕ) → whole low high n && eqb n (512 * said) ≡ true → (n ≡ 512 * said) × (low ≤ said) × (said ≤ high)
said_tells low high n said h =
    let q = both (whole low high n) (eqb n (512 * said)) h in
    let w = whole_tells low high n q.0 in
    let e : n ≡ 512 * said = eqb-true n (512 * said) q.1 in
    (e, omega (arith, e, w.1.0), omega (arith, e, w.1.1))

pub ready : (s : Store) (memory card : ℕ) → first_no (common_asks s memory card) ≡ 0 → Ready s memory card
unfolding held_asks
ready s memory card h =
    let a = passed_both 0 (whole 4 64 memory && eqb memory (512 * s.frames)) _ h in
    let b = passed_both 1 (holds_together s) _ a.1 in
    let d = passed_both 2 (whole 11 65536 card && eqb card (512 * s.geometry.blocks)) [] b.1 in
    let m = said_tells 4 64 memory s.frames a.0 in
    let c = said_tells 11 65536 card s.geometry.blocks d.0 in
    record { together = b.0; memory_is = m.0; frames_low = m.1; frames_high = m.2; card_is = c.0; blocks_high = c.2 }

-- a record that passes question 1 has memory frames, the record of zeros has none
pub has_frames : (l : Lent) → first_no (common l) ≡ 0 → 0 < l.store.frames
has_frames l h = omega (arith, (ready l.store (length l.memory) (length l.card) h).frames_low)

pub no_zeros : (s : Store) → 0 < s.frames → s ≡ zero_store → ⊥
unfolding zero_store
no_zeros s h z = omega (arith, h, ap (λ (t : Store). t.frames) z)

-- a call's own questions are asked after these
common-numbered : (s : Store) (memory card : ℕ) → All (λ (q : Question). 0 < q.number) (common_asks s memory card)
unfolding held_asks
common-numbered s memory card = (omega arith, (omega arith, (omega arith, tt)))

pub common_passed : (s : Store) (memory card : ℕ) (own : List Question) → first_no (common_asks s memory card) ≡ 0 → first_no (common_asks s memory card ++ own) ≡ first_no own
common_passed s memory card own h = group_yes (common_asks s memory card) own (common-numbered s memory card) h

pub common_both : (s : Store) (memory card : ℕ) (own : List Question) → first_no (common_asks s memory card ++ own) ≡ 0 → (first_no (common_asks s memory card) ≡ 0) × (first_no own ≡ 0)
common_both s memory card own h = groups_passed (common_asks s memory card) own (common-numbered s memory card) h

pub common_refused : (s : Store) (memory card : ℕ) (own : List Question) → first_no (common_asks s memory card) ≢ 0 → first_no (common_asks s memory card ++ own) ≡ first_no (common_asks s memory card)
common_refused s memory card own h = group_no (common_asks s memory card) own h

-- ---- the stretches lie in the area

pub record Firsts (s : Store) : Type 0 where
  pub pending_in : (1 ≤ pending_first s) × (pending_first s ≤ s.geometry.area)
  pub current_in : (1 ≤ current_first s) × (current_first s ≤ s.geometry.area)

pub firsts : (s : Store) → Held s → Firsts s
firsts s h = record {
  pending_in = on_in s.geometry.area s.first h.first_low h.first_high (committed_size_of s) (omega (arith, h.room));
  current_in = on_in s.geometry.area s.first h.first_low h.first_high (committed_size_of s + size_of s.pending) (omega (arith, h.room));
}

-- ---- every place lies in the area

-- so do all places of the pending generation
pub pending_short : (s : Store) → Held s → s.pending.taken ≤ s.geometry.area
pending_short s h = ⊎_elim
    (λ e. let n : s.pending.taken ≡ 0 = h.none_pending (omega (arith, e)) in omega (arith, n))
    (λ e. omega (arith, size_above s.pending.taken s.pending.count e, h.half_pending))
    (le_or_lt s.pending.count 0)

-- where one of the current generation waits
pub current_short : (s : Store) → Held s → s.current.down < s.current.taken → s.current.taken ≤ s.geometry.area
current_short s h l =
    let e = h.current.stands s.current.down (omega arith) l in
    omega (arith, size_above s.current.taken s.current.count (omega (arith, e.1)), h.half_current)

-- a block of the area lies on the card
pub area_block : (s : Store) (memory card : ℕ) → Ready s memory card → (first i to : ℕ) → first ≤ s.geometry.area → i ≤ s.geometry.area → to ≡ ring_at s.geometry.area first i
    → 512 * to + 512 ≤ card
area_block s memory card r first i to f l e =
    omega (arith, r.card_is, e, ring_high s.geometry.area first i f l, (bounds s (held s r.together)).area_inside)

pub readable : (s : Store) (memory : ℕ) (card : List ℕ) → Ready s memory (length card) → Readable s card
readable s memory card r = record { together = r.together; card_long = r.card_is; card_few = r.blocks_high }

pub writable : (s : Store) (memory : ℕ) (card : List ℕ) → Ready s memory (length card) → s.phase ≢ 2 → Writable s card
writable s memory card r calm = record { together = r.together; card_long = r.card_is; card_few = r.blocks_high; calm = calm }
