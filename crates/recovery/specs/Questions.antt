-- The frame layer's questions, in document 01's order: the first "no" gives the number.
-- Assumes nothing.
use Rattle.std.specs.Prelude.{ℕ, ◌+◌, ◌-◌, ◌*◌, leb, ltb, eqb, length, Bool, true, false, cond, ◌&&◌, not, List, [], ◌∷◌}
use Rattle.std.proofs.Math.Option.{Option, none, some}
use Rattle.card.specs.Block.{whole}
use Rattle.card.specs.Question.{Question, ask, card_asks}
use Rattle.card.specs.Ring.{half}
use Rattle.recovery.specs.Contents.{FrameBytes}
use Rattle.recovery.specs.State.{State, places, entry_count, size, committed_size, is_owed}
use Rattle.recovery.specs.Step.{after_change, Kind, advance_due}

-- ---- start: 1, 3 to 8

unfoldable pub start_asks : List ℕ → List ℕ → List Question
start_asks m c = ask 1 (whole 4 64 (length m)) ∷ card_asks c

-- ---- every call after start: 1 to 3

-- the record holds together or not, and says how many memory frames and blocks there are; so many bytes of memory and card are lent
unfoldable pub held_asks : Bool → ℕ → ℕ → ℕ → ℕ → List Question
held_asks together frames blocks memory card =
    ask 1 (whole 4 64 memory && eqb memory (512 * frames)) ∷ ask 2 together ∷ ask 3 (whole 11 65536 card && eqb card (512 * blocks)) ∷ []

-- ---- 12 to 14, once over all frames that a call changes

-- how many new places they need
unfoldable pub new_places : List FrameBytes → State → ℕ
new_places ws s = places (after_change ws s).current - places s.current

unfoldable pub room_asks : List FrameBytes → State → List Question
room_asks ws s =
    cond (eqb (new_places ws s) 0) []
    (ask 12 (leb (size (after_change ws s).current) (half s.area))
    ∷ ask 13 (leb (committed_size s.committed + size s.pending + size (after_change ws s).current) s.area)
    ∷ ask 14 (leb (length s.pending.waiting + length s.current.waiting + new_places ws s) s.memory_frames) ∷ [])

-- ---- snapshot, page-out, advance

unfoldable pub snapshot_asks : State → List Question
snapshot_asks s = ask 16 (eqb (entry_count s.pending) 0) ∷ ask 17 (ltb 0 (entry_count s.current)) ∷ ask 18 (ltb s.commit 4294967295) ∷ []

unfoldable pub page_out_asks : State → List Question
page_out_asks s = ask 28 (not (is_owed s.phase)) ∷ ask 19 (ltb 0 (length s.pending.waiting + length s.current.waiting)) ∷ []

abbrev pub given : Option Kind → Bool
given none = false
given (some k) = true

unfoldable pub advance_asks : State → List Question
advance_asks s = ask 20 (given (advance_due s)) ∷ []
