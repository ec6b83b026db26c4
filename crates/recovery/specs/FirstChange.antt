-- The older form of a generation, with its entries in order of first change (document 01, 'A generation'), and that
-- the one by rising frame tells the same (document 02, #109). No call uses the older form.
-- Assumes nothing.
use Rattle.std.specs.Prelude.{ℕ, ◌≤◌, ◌<◌, ltb, eqb, length, set, cond, List, [], ◌∷◌, ◌++◌, ◌≡◌}
use Rattle.std.proofs.Math.Option.{Option, none, some}
use Rattle.card.specs.Directory.{dir_block}
use Rattle.recovery.specs.Contents.{Contents, FrameBytes, overlay, stored_frames}
use Rattle.recovery.specs.Directory.{Note, dir_of, frame_of, turn_of}
use Rattle.recovery.specs.State.{Generation, State, places, entry_count, empty, directory_of, waiting_frames, read_frame}
use Rattle.recovery.specs.Step.{change_frame, out_of, pending_to, current_to}
use Rattle.recovery.specs.Sums.{noted_in}

-- a frame's entry stays where it is, with its new place, or comes last
unfoldable pub note_first : Note → List Note → List Note
note_first e [] = e ∷ []
note_first e (x ∷ xs) = cond (eqb e.frame x.frame) (e ∷ xs) (x ∷ note_first e xs)

unfoldable pub queued_first : Option ℕ → FrameBytes → Generation → Generation
queued_first none w g = record {
  first = g.first;
  pages_down = g.pages_down;
  entries = note_first (record { frame = w.frame; place = places g }) g.entries;
  waiting = g.waiting ++ (w.bytes ∷ []);
}
queued_first (some i) w g = record { first = g.first; pages_down = g.pages_down; entries = g.entries; waiting = set g.waiting i w.bytes }

-- a frame changes, or the oldest that waits is put down, if any
pub data Change : Type 0 where
  changed : FrameBytes → Change
  down : Change

unfoldable pub down_if_any : Generation → Generation
down_if_any g = cond (ltb 0 (length g.waiting)) (out_of g) g

-- what is held after a list of changes and page-outs, the last one first: in order of first change, and by rising frame
unfoldable pub held_first : List Change → ℕ → Generation
held_first [] first = empty first
held_first (changed w ∷ cs) first = let g = held_first cs first in queued_first (turn_of w.frame g.pages_down g.entries) w g
held_first (down ∷ cs) first = down_if_any (held_first cs first)

unfoldable pub held_by_frame : List Change → ℕ → Generation
held_by_frame [] first = empty first
held_by_frame (changed w ∷ cs) first = change_frame w (held_by_frame cs first)
held_by_frame (down ∷ cs) first = down_if_any (held_by_frame cs first)

-- what a read shows of a generation, over what lies below it
abbrev pub shows : ℕ → Generation → List ℕ → Contents → Contents
shows area g c below = overlay (waiting_frames g) (overlay (stored_frames c (directory_of area g)) below)

-- every lookup and every directory block
pub record Alike (old new : Generation) : Type 0 where
  pub first_is : new.first ≡ old.first
  pub down_is : new.pages_down ≡ old.pages_down
  pub waiting_is : new.waiting ≡ old.waiting
  pub count_is : entry_count new ≡ entry_count old
  -- has a frame an entry, and what is its turn
  pub noted_is : (f : ℕ) → noted_in f new.entries ≡ noted_in f old.entries
  pub turn_is : (f put : ℕ) → turn_of f put new.entries ≡ turn_of f put old.entries
  -- whose is a waiting place
  pub frame_is : (k : ℕ) → old.pages_down ≤ k → k < places old → frame_of k new.entries ≡ frame_of k old.entries
  pub waits_is : waiting_frames new ≡ waiting_frames old
  -- the directory that goes to the card, whatever is down, and each of its blocks
  pub dir_is : (area first put : ℕ) → dir_of area first put new.entries ≡ dir_of area first put old.entries
  pub block_is : (area j : ℕ) → dir_block (directory_of area new) j ≡ dir_block (directory_of area old) j
  -- what a read shows of every frame
  pub shows_is : (area : ℕ) (c : List ℕ) (below : Contents) → shows area new c below ≡ shows area old c below

abbrev pub SameAsFirst : Type 0
SameAsFirst = (cs : List Change) (first : ℕ) → Alike (held_first cs first) (held_by_frame cs first)

-- the state with these generations current and pending
abbrev pub holding : Generation → Generation → State → State
holding current pending s = current_to current (pending_to pending s.tail_down s)

-- a read of a store shows the same of every frame, whatever its two generations have changed and put down
abbrev pub SameReads : Type 0
SameReads = (s : State) (c : List ℕ) (cs ps : List Change) (first next : ℕ)
    → read_frame (holding (held_by_frame cs first) (held_by_frame ps next) s) c ≡ read_frame (holding (held_first cs first) (held_first ps next) s) c
