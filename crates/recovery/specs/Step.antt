-- What each call makes of a state, and the block that it writes (document 01, 'The calls').
-- Assumes nothing.
use Rattle.std.specs.Prelude.{ℕ, suc, ◌+◌, ◌/◌, ltb, eqb, length, set, get_or, Bool, cond, not, ◌&&◌, ◌||◌}
use mathlib.Core.List.{List, [], ◌∷◌, ◌++◌, tail}
use Rattle.std.proofs.Math.Option.{Option, none, some}
use Rattle.card.specs.Block.{block_at}
use Rattle.card.specs.Directory.{dir_block}
use Rattle.card.specs.Header.{header_block, header_on}
use Rattle.card.specs.Question.{header_ranges, committed_on, entries_on}
use Rattle.card.specs.Ring.{ring_at, dir_blocks}
use Rattle.card.specs.Trailer.{trailer_block}
use Rattle.card.specs.declared.directory.Entry.{Entry}
use Rattle.recovery.specs.Contents.{FrameBytes}
use Rattle.recovery.specs.Directory.{note_change, turn_of}
use Rattle.recovery.specs.State.{Committed, Generation, State, places, entry_count, size, committed_size, directory_of, empty, Phase, writing, flushed, owed, is_owed, is_flushed}
use Rattle.recovery.specs.Write.{BlockWrite, Drive, seen, settled, written}

-- the state with another pending or current generation, or another phase
abbrev pub pending_to : Generation → ℕ → State → State
pending_to g n s = record {
  blocks = s.blocks;
  area = s.area;
  ranges = s.ranges;
  memory_frames = s.memory_frames;
  commit = s.commit;
  committed = s.committed;
  migrated = s.migrated;
  pending = g;
  tail_down = n;
  current = s.current;
  phase = s.phase;
}

abbrev pub current_to : Generation → State → State
current_to g s = record {
  blocks = s.blocks;
  area = s.area;
  ranges = s.ranges;
  memory_frames = s.memory_frames;
  commit = s.commit;
  committed = s.committed;
  migrated = s.migrated;
  pending = s.pending;
  tail_down = s.tail_down;
  current = g;
  phase = s.phase;
}

abbrev pub phase_to : Phase → State → State
phase_to p s = record {
  blocks = s.blocks;
  area = s.area;
  ranges = s.ranges;
  memory_frames = s.memory_frames;
  commit = s.commit;
  committed = s.committed;
  migrated = s.migrated;
  pending = s.pending;
  tail_down = s.tail_down;
  current = s.current;
  phase = p;
}

-- the state with its first n committed entries at home or passed over
abbrev pub pass_to : ℕ → State → State
pass_to n s = record {
  blocks = s.blocks;
  area = s.area;
  ranges = s.ranges;
  memory_frames = s.memory_frames;
  commit = s.commit;
  committed = s.committed;
  migrated = n;
  pending = s.pending;
  tail_down = s.tail_down;
  current = s.current;
  phase = s.phase;
}

-- ---- a change of frames

-- a frame that waits keeps its turn, with new bytes; any other takes the next place
unfoldable pub queued : Option ℕ → FrameBytes → Generation → Generation
queued none w g = record {
  first = g.first;
  pages_down = g.pages_down;
  entries = note_change (record { frame = w.frame; place = places g }) g.entries;
  waiting = g.waiting ++ (w.bytes ∷ []);
}
queued (some i) w g = record { first = g.first; pages_down = g.pages_down; entries = g.entries; waiting = set g.waiting i w.bytes }

unfoldable pub change_frame : FrameBytes → Generation → Generation
change_frame w g = queued (turn_of w.frame g.pages_down g.entries) w g

unfoldable pub change_frames : List FrameBytes → Generation → Generation
change_frames [] g = g
change_frames (w ∷ ws) g = change_frames ws (change_frame w g)

unfoldable pub after_change : List FrameBytes → State → State
after_change ws s = current_to (change_frames ws s.current) s

-- ---- a snapshot: the current generation is pending, and the next one starts above its mark

unfoldable pub after_snapshot : State → State
after_snapshot s = record {
  blocks = s.blocks;
  area = s.area;
  ranges = s.ranges;
  memory_frames = s.memory_frames;
  commit = s.commit;
  committed = s.committed;
  migrated = s.migrated;
  pending = s.current;
  tail_down = 0;
  current = empty (ring_at s.area s.current.first (size s.current));
  phase = s.phase;  -- a flush that is owed stays owed
}

-- ---- writes

-- the kinds that advance reports: P, D, T, M, H, F
pub data Kind : Type 0 where
  page directory trailer migration header flush : Kind

unfoldable pub oldest_bytes : List (List ℕ) → List ℕ
oldest_bytes [] = []
oldest_bytes (x ∷ xs) = x

-- the oldest waiting frame of a generation goes to the next block of its stretch
abbrev pub out_write : ℕ → Generation → BlockWrite
out_write area g = record { block = ring_at area g.first g.pages_down; bytes = oldest_bytes g.waiting }

unfoldable pub out_of : Generation → Generation
out_of g = record { first = g.first; pages_down = suc g.pages_down; entries = g.entries; waiting = tail g.waiting }

-- the j-th block behind the p pages of a generation: its directory, then its trailer
unfoldable pub tail_bytes : ℕ → ℕ → ℕ → List Entry → ℕ → List ℕ
tail_bytes commit first p es j = cond (ltb j (dir_blocks (length es))) (dir_block es j) (trailer_block (record { commit = commit; first = first; pages = p; entries = length es }))

-- of the pending generation, when none of its frames waits
abbrev pub tail_write : State → BlockWrite
tail_write s = record {
  block = ring_at s.area s.pending.first (s.pending.pages_down + s.tail_down);
  bytes = tail_bytes (suc s.commit) s.pending.first s.pending.pages_down (directory_of s.area s.pending) s.tail_down;
}

unfoldable pub trailer_block_no : State → ℕ
trailer_block_no s = ring_at s.area s.pending.first (s.pending.pages_down + dir_blocks (length (directory_of s.area s.pending)))

no_entry : Entry
no_entry = record { frame = 0; block = 0 }

-- the next committed entry to copy home
unfoldable pub next_migration : State → Entry
unfolding no_entry
next_migration s = get_or s.committed.entries s.migrated no_entry

-- the block that is reported, with the bytes that are written there; a flush reports block 0
unfoldable pub kind_write : Kind → State → List ℕ → BlockWrite
kind_write page s c = out_write s.area s.pending
kind_write directory s c = tail_write s
kind_write trailer s c = tail_write s
kind_write migration s c = record { block = (next_migration s).frame; bytes = block_at c (next_migration s).block }
kind_write header s c = record { block = 0; bytes = header_block (suc s.commit) (trailer_block_no s) s.area s.ranges }
kind_write flush s c = record { block = 0; bytes = [] }

-- every kind but a flush writes its block
unfoldable pub kind_put : Kind → BlockWrite → Option BlockWrite
kind_put page w = some w
kind_put directory w = some w
kind_put trailer w = some w
kind_put migration w = some w
kind_put header w = some w
kind_put flush w = none

-- a kind's write joins those that are not flushed; a flush puts all of them down
abbrev pub kind_drive : Kind → Option BlockWrite → Drive → Drive
kind_drive page o v = written o v
kind_drive directory o v = written o v
kind_drive trailer o v = written o v
kind_drive migration o v = written o v
kind_drive header o v = written o v
kind_drive flush o v = settled (seen v)

-- a flush that is owed leaves writing; the one just before a header write leaves that write next
abbrev pub after_flush : Phase → Phase
after_flush writing = flushed
after_flush flushed = flushed
after_flush owed = writing

unfoldable pub after_kind : Kind → State → State
after_kind page s = pending_to (out_of s.pending) s.tail_down s
after_kind directory s = pending_to s.pending (suc s.tail_down) s
after_kind trailer s = pending_to s.pending (suc s.tail_down) s
after_kind migration s = record {
  blocks = s.blocks;
  area = s.area;
  ranges = s.ranges;
  memory_frames = s.memory_frames;
  commit = s.commit;
  committed = s.committed;
  migrated = suc s.migrated;
  pending = s.pending;
  tail_down = s.tail_down;
  current = s.current;
  phase = s.phase;
}
after_kind header s = record {
  blocks = s.blocks;
  area = s.area;
  ranges = s.ranges;
  memory_frames = s.memory_frames;
  commit = suc s.commit;
  committed = record { first = s.pending.first; places = s.pending.pages_down; entries = directory_of s.area s.pending };
  migrated = 0;  -- the new committed generation is nowhere home yet
  pending = empty s.current.first;
  tail_down = 0;
  current = s.current;
  phase = owed;  -- the flush just after the header write
}
after_kind flush s = phase_to (after_flush s.phase) s

-- ---- which write is due

unfoldable pub migration_due : State → Option Kind → Option Kind
migration_due s other = cond (ltb s.migrated (length s.committed.entries)) (some migration) other

-- a flush that is owed comes before all else; the one before a header write comes once
unfoldable pub advance_due : State → Option Kind
advance_due s = cond (is_owed s.phase) (some flush) (cond (eqb (entry_count s.pending) 0) (migration_due s none)
    (cond (ltb 0 (length s.pending.waiting)) (some page)
    (cond (ltb s.tail_down (dir_blocks (entry_count s.pending))) (some directory)
    (cond (eqb s.tail_down (dir_blocks (entry_count s.pending))) (some trailer)
    (migration_due s (some (cond (is_flushed s.phase) header flush)))))))

-- has advance come to migration? no flush is owed, and of a pending snapshot all but the header is down
unfoldable pub migrating : State → Bool
migrating s = not (is_owed s.phase) && (eqb (entry_count s.pending) 0 || (not (ltb 0 (length s.pending.waiting)) && ltb (dir_blocks (entry_count s.pending)) s.tail_down))

-- page-out: pending before current
unfoldable pub page_out_write : State → BlockWrite
page_out_write s = cond (ltb 0 (length s.pending.waiting)) (out_write s.area s.pending) (out_write s.area s.current)

unfoldable pub after_page_out : State → State
after_page_out s = cond (ltb 0 (length s.pending.waiting)) (pending_to (out_of s.pending) s.tail_down s) (current_to (out_of s.current) s)

-- ---- start: the state that a card tells of

unfoldable pub start_committed : List ℕ → Committed
start_committed c = record { first = (committed_on c).first; places = (committed_on c).pages; entries = entries_on c }

unfoldable pub start_state : List ℕ → List ℕ → State
start_state m c =
    let h = header_on (block_at c 0) in
    let g = start_committed c in
    record {
      blocks = length c / 512;
      area = h.area;
      ranges = header_ranges h;
      memory_frames = length m / 512;
      commit = h.commit;
      committed = g;
      migrated = 0;  -- start begins migration anew
      pending = empty (ring_at h.area g.first (committed_size g));
      tail_down = 0;
      current = empty (ring_at h.area g.first (committed_size g));
      phase = owed;  -- what was written before the start may not be flushed
    }
