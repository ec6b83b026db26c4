-- Questions 12 to 14 and 20 once more, as plain sums over the ledger: each number has a sum behind it, and this is what demand 2 holds it to.
-- And the forecast (#102), as a list and as a sum.
-- Assumes nothing.
use Rattle.std.specs.Prelude.{ℕ, suc, ◌+◌, ◌-◌, leb, ltb, eqb, length, replicate, drop, Bool, true, false, cond, List, [], ◌∷◌, ◌++◌}
use Rattle.std.proofs.Math.Option.{Option, none, some}
use Rattle.card.specs.Question.{Question, ask}
use Rattle.card.specs.Ring.{half, dir_blocks, generation_size}
use Rattle.card.specs.declared.directory.Entry.{Entry}
use Rattle.recovery.specs.Contents.{FrameBytes}
use Rattle.recovery.specs.Directory.{Note, turn_of}
use Rattle.recovery.specs.State.{Generation, State, places, entry_count, is_owed, is_flushed}
use Rattle.recovery.specs.Step.{Kind, page, directory, trailer, migration, header, flush, migrating}

abbrev pub is_some : Option ℕ → Bool
is_some none = false
is_some (some i) = true

-- does a frame wait in the current generation, and has it an entry there?
unfoldable pub waits_in : ℕ → Generation → Bool
waits_in f g = is_some (turn_of f g.pages_down g.entries)

unfoldable pub noted_in : ℕ → List Note → Bool
noted_in f [] = false
noted_in f (e ∷ es) = cond (eqb f e.frame) true (noted_in f es)

-- k, and how many entries come new
unfoldable pub places_needed : List FrameBytes → Generation → ℕ
places_needed [] g = 0
places_needed (w ∷ ws) g = cond (waits_in w.frame g) 0 1 + places_needed ws g

unfoldable pub entries_needed : List FrameBytes → Generation → ℕ
entries_needed [] g = 0
entries_needed (w ∷ ws) g = cond (noted_in w.frame g.entries) 0 1 + entries_needed ws g

-- the current size after the call
abbrev pub size_after : List FrameBytes → State → ℕ
size_after ws s = generation_size (places s.current + places_needed ws s.current) (entry_count s.current + entries_needed ws s.current)

-- Of entries that are not home yet: how many in front are passed over, and how many there are to copy. `over` tells
-- the frames that are passed over (#104).
unfoldable pub leading : (ℕ → Bool) → List Entry → ℕ
leading over [] = 0
leading over (e ∷ es) = cond (over e.frame) (suc (leading over es)) 0

unfoldable pub moves_of : (ℕ → Bool) → List Entry → ℕ
moves_of over [] = 0
moves_of over (e ∷ es) = cond (over e.frame) (moves_of over es) (suc (moves_of over es))

unfoldable pub moves_left : (ℕ → Bool) → State → ℕ
moves_left over s = moves_of over (drop s.migrated s.committed.entries)

-- how many entries are home or passed over once advance has come to migration; before that none is passed over
unfoldable pub passed_to : (ℕ → Bool) → State → ℕ
passed_to over s = s.migrated + cond (migrating s) (leading over (drop s.migrated s.committed.entries)) 0

-- What advance has still to make, in document 01's order, with document 02's flushes (#110): one that is owed first,
-- one before the header write unless it is made, one after it; frames that are passed over are not copied (#104).
unfoldable pub remaining_writes : (ℕ → Bool) → State → List Kind
remaining_writes over s =
    let e = entry_count s.pending in
    let m = replicate (moves_left over s) migration in
    cond (is_owed s.phase) (flush ∷ []) []
    ++ cond (eqb e 0) m
    (replicate (length s.pending.waiting) page
    ++ (replicate (dir_blocks e - s.tail_down) directory
    ++ (replicate (1 - (s.tail_down - dir_blocks e)) trailer ++ (m ++ (cond (is_flushed s.phase) [] (flush ∷ []) ++ (header ∷ flush ∷ []))))))

-- What advance has still to make until the pending snapshot is safe, which it is at the flush after its header write: all
-- of it. With none pending: the flush that is owed, if one is. The forecast is how many these are (#102).
unfoldable pub commit_writes : (ℕ → Bool) → State → List Kind
commit_writes over s = cond (eqb (entry_count s.pending) 0) (cond (is_owed s.phase) (flush ∷ []) []) (remaining_writes over s)

unfoldable pub forecast : (ℕ → Bool) → State → ℕ
forecast over s = length (commit_writes over s)

-- The same as document 02's sum: pending frames that wait, directory blocks that are not down, the trailer if it is not,
-- migration writes left, the header; and #110's flushes: one that is owed, the one before the header unless it is made,
-- the one after it.
unfoldable pub commit_sum : (ℕ → Bool) → State → ℕ
commit_sum over s =
    let e = entry_count s.pending in
    let owed : ℕ = cond (is_owed s.phase) 1 0 in
    let before : ℕ = cond (is_flushed s.phase) 0 1 in
    let trailing : ℕ = cond (ltb (dir_blocks e) s.tail_down) 0 1 in
    cond (eqb e 0) owed (owed + (length s.pending.waiting + (dir_blocks e - s.tail_down) + trailing + moves_left over s + 1) + before + 1)

unfoldable pub first_of : List Kind → Option Kind
first_of [] = none
first_of (k ∷ ks) = some k

-- 12 to 14: places taken and needed, entries with the new ones, half the area, the area, and memory
unfoldable pub room_sums : List FrameBytes → State → List Question
room_sums ws s =
    let k = places_needed ws s.current in
    cond (eqb k 0) []
    (ask 12 (leb (size_after ws s) (half s.area))
    ∷ ask 13 (leb (generation_size s.committed.places (length s.committed.entries) + generation_size (places s.pending) (entry_count s.pending) + size_after ws s) s.area)
    ∷ ask 14 (leb (length s.pending.waiting + length s.current.waiting + k) s.memory_frames) ∷ [])

-- 20: a write remains
unfoldable pub advance_sums : (ℕ → Bool) → State → List Question
advance_sums over s = ask 20 (ltb 0 (length (remaining_writes over s))) ∷ []
