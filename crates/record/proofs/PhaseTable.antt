-- The record's phase: what its numbers mean, and question 2 of them beside the counts of what advance has done.
-- Assumes nothing.
use mathlib.Core.Bool.{Bool, true, false}
use mathlib.Core.List.{List, [], ◌∷◌}
use mathlib.Core.Path.{◌≡◌, refl}
use Rattle.record.specs.Holds.{tail_for, flushed_holds, phase_holds}
use Rattle.record.specs.Meaning.{phase_of}
use Rattle.recovery.specs.State.{writing, flushed, owed}

pub phase_numbers : (phase_of 0 ≡ writing) × (phase_of 1 ≡ flushed) × (phase_of 2 ≡ owed)
unfolding phase_of
phase_numbers = (refl, refl, refl)

-- phase; home or passed over of how many; blocks of directory and trailer down; entries of the pending generation
pub cases : List Bool
cases =
    phase_holds 0 1 2 0 0  -- writing, at any time
    ∷ phase_holds 1 2 2 2 3  -- flushed: the trailer is down behind one directory block, and none is left to migrate
    ∷ phase_holds 1 2 2 1 3  -- the trailer is not down
    ∷ phase_holds 1 1 2 2 3  -- a frame is left to migrate
    ∷ phase_holds 1 2 2 0 0  -- no snapshot is pending
    ∷ phase_holds 2 0 2 0 3  -- owed, a snapshot pending or not
    ∷ phase_holds 2 1 2 0 3  -- a frame is home or passed over
    ∷ phase_holds 2 0 2 1 3  -- a directory block is down
    ∷ phase_holds 3 0 2 0 0  -- no phase
    ∷ []

pub phase_table : cases ≡ true ∷ true ∷ false ∷ false ∷ false ∷ true ∷ false ∷ false ∷ false ∷ []
unfolding cases phase_holds flushed_holds tail_for
phase_table = refl
