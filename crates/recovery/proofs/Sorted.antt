-- The state with its directories by rising frame: what the proofs speak of. A frame that waits has no entry here until it is put down.
-- Assumes nothing.
use Prim.Native.Nat.{ℕ, suc, ◌+◌}
use lib.Dec.{ltb, eqb}
use lib.ListN.{length, get_or}
use mathlib.Core.Bool.{cond}
use mathlib.Core.List.{List, [], ◌∷◌, tail}
use mathlib.Core.Logic.{◌≢◌}
use Rattle.card.specs.Block.{block_at, put_block}
use Rattle.card.specs.Bytes.{All}
use Rattle.card.specs.Directory.{dir_block}
use Rattle.card.specs.Header.{header_block, header_on}
use Rattle.card.specs.Question.{header_ranges}
use Rattle.card.specs.Range.{Range}
use Rattle.card.specs.Ring.{ring_at, dir_blocks, generation_size}
use Rattle.card.specs.Trailer.{trailer_block}
use Rattle.card.specs.declared.directory.Entry.{Entry}
use Rattle.card.specs.declared.trailer.Trailer.{Trailer}
use Rattle.recovery.specs.Contents.{Contents, FrameBytes, overlay, stored_frames}
use Rattle.recovery.specs.Directory.{insert_by_frame}
use Rattle.recovery.specs.State.{Committed, Generation, State, directory_of, waiting_frames}
use Rattle.recovery.specs.Step.{start_committed}
use Rattle.recovery.specs.Write.{BlockWrite}

-- ---- entries and queues

-- no entry of a frame: it waits again
unfoldable pub without_frame : ℕ → List Entry → List Entry
without_frame f [] = []
without_frame f (e ∷ es) = cond (eqb f e.frame) (without_frame f es) (e ∷ without_frame f es)

-- a change joins the queue, or takes the turn of the same frame's earlier change
unfoldable pub queue_change : FrameBytes → List FrameBytes → List FrameBytes
queue_change w [] = w ∷ []
queue_change w (x ∷ xs) = cond (eqb w.frame x.frame) (w ∷ xs) (x ∷ queue_change w xs)

-- no member is of frame f
abbrev pub Without : ℕ → List FrameBytes → Type 0
Without f ws = All (λ w. f ≢ w.frame) ws

-- every frame is named once
abbrev pub Once : List FrameBytes → Type 0
Once [] = Unit {0}
Once (w ∷ ws) = Without w.frame ws × Once ws

-- no entry is of frame f
abbrev pub Absent : ℕ → List Entry → Type 0
Absent f es = All (λ e. f ≢ e.frame) es

-- one more than the block that stands for a frame, 0 where none does
unfoldable pub lookup : ℕ → List Entry → ℕ
lookup f [] = 0
lookup f (e ∷ es) = cond (eqb f e.frame) (suc e.block) (lookup f es)

-- ---- generations

-- its directory by rising frame, and what waits, oldest first
pub record SortedGeneration : Type 0 where
  pub first : ℕ
  pub pages_down : ℕ
  pub dir : List Entry
  pub waiting : List FrameBytes

-- p and e
unfoldable pub places_of : SortedGeneration → ℕ
places_of g = g.pages_down + length g.waiting

unfoldable pub count_of : SortedGeneration → ℕ
count_of g = length g.dir + length g.waiting

unfoldable pub size_of : SortedGeneration → ℕ
size_of g = generation_size (places_of g) (count_of g)

pub record Sorted : Type 0 where
  pub area : ℕ
  pub ranges : List Range
  pub memory_frames : ℕ
  pub commit : ℕ
  pub committed : SortedGeneration
  pub migrated : ℕ
  pub pending : SortedGeneration
  pub tail_down : ℕ
  pub current : SortedGeneration

abbrev pub sorted_empty : ℕ → SortedGeneration
sorted_empty first = record { first = first; pages_down = 0; dir = []; waiting = [] }

-- ---- of a state

abbrev pub sorted_committed : Committed → SortedGeneration
sorted_committed g = record { first = g.first; pages_down = g.places; dir = g.entries; waiting = [] }

abbrev pub sorted_generation : ℕ → Generation → SortedGeneration
sorted_generation area g = record { first = g.first; pages_down = g.pages_down; dir = directory_of area g; waiting = waiting_frames g }

abbrev pub sorted : State → Sorted
sorted s = record {
  area = s.area;
  ranges = s.ranges;
  memory_frames = s.memory_frames;
  commit = s.commit;
  committed = sorted_committed s.committed;
  migrated = s.migrated;
  pending = sorted_generation s.area s.pending;
  tail_down = s.tail_down;
  current = sorted_generation s.area s.current;
}

-- ---- what stands behind a generation's pages

no_frame_bytes : FrameBytes
no_frame_bytes = record { frame = 0; bytes = [] }

unfoldable pub oldest : List FrameBytes → FrameBytes
unfolding no_frame_bytes
oldest [] = no_frame_bytes
oldest (w ∷ ws) = w

abbrev pub trailer_of : ℕ → SortedGeneration → Trailer
trailer_of commit g = record { commit = commit; first = g.first; pages = g.pages_down; entries = length g.dir }

unfoldable pub tail_block : ℕ → SortedGeneration → ℕ → List ℕ
tail_block commit g j = cond (ltb j (dir_blocks (length g.dir))) (dir_block g.dir j) (trailer_block (trailer_of commit g))

unfoldable pub trailer_at : ℕ → SortedGeneration → ℕ
trailer_at area g = ring_at area g.first (g.pages_down + dir_blocks (length g.dir))

-- ---- start

unfoldable pub sorted_committed_on : List ℕ → SortedGeneration
sorted_committed_on c = sorted_committed (start_committed c)

unfoldable pub sorted_start : ℕ → List ℕ → Sorted
sorted_start memory_frames c =
    let h = header_on (block_at c 0) in
    let g = sorted_committed_on c in
    record {
      area = h.area;
      ranges = header_ranges h;
      memory_frames = memory_frames;
      commit = h.commit;
      committed = g;
      migrated = 0;
      pending = sorted_empty (ring_at h.area g.first (size_of g));
      tail_down = 0;
      current = sorted_empty (ring_at h.area g.first (size_of g));
    }

-- what a store that was just started shows
unfoldable pub recovered : List ℕ → Contents
recovered c = overlay (stored_frames c (sorted_committed_on c).dir) (block_at c)

-- ---- read

unfoldable pub sorted_read : Sorted → List ℕ → Contents
sorted_read s c = overlay s.current.waiting (overlay (stored_frames c s.current.dir) (overlay s.pending.waiting (overlay (stored_frames c s.pending.dir) (overlay (stored_frames c s.committed.dir) (block_at c)))))

-- ---- one block write

pub data SortedWrite : Type 0 where
  pending_out directory_down trailer_down copy_home header_down current_out : SortedWrite

abbrev pub sorted_out : ℕ → SortedGeneration → BlockWrite
sorted_out area g = record { block = ring_at area g.first g.pages_down; bytes = (oldest g.waiting).bytes }

unfoldable pub paged_out : ℕ → SortedGeneration → SortedGeneration
paged_out area g = record {
  first = g.first;
  pages_down = suc g.pages_down;
  dir = insert_by_frame (record { frame = (oldest g.waiting).frame; block = ring_at area g.first g.pages_down }) g.dir;
  waiting = tail g.waiting;
}

none_left : Entry
none_left = record { frame = 0; block = 0 }

unfoldable pub next_home : Sorted → Entry
unfolding none_left
next_home s = get_or s.committed.dir s.migrated none_left

unfoldable pub sorted_write : SortedWrite → Sorted → List ℕ → BlockWrite
sorted_write pending_out s c = sorted_out s.area s.pending
sorted_write current_out s c = sorted_out s.area s.current
sorted_write directory_down s c = record { block = ring_at s.area s.pending.first (s.pending.pages_down + s.tail_down); bytes = tail_block (suc s.commit) s.pending s.tail_down }
sorted_write trailer_down s c = record { block = ring_at s.area s.pending.first (s.pending.pages_down + s.tail_down); bytes = tail_block (suc s.commit) s.pending s.tail_down }
sorted_write copy_home s c = record { block = (next_home s).frame; bytes = block_at c (next_home s).block }
sorted_write header_down s c = record { block = 0; bytes = header_block (suc s.commit) (trailer_at s.area s.pending) s.area s.ranges }

abbrev pub card_after : SortedWrite → Sorted → List ℕ → List ℕ
card_after k s c = put_block c (sorted_write k s c).block (sorted_write k s c).bytes

unfoldable pub sorted_after : SortedWrite → Sorted → Sorted
sorted_after pending_out s = record { area = s.area; ranges = s.ranges; memory_frames = s.memory_frames; commit = s.commit; committed = s.committed; migrated = s.migrated; pending = paged_out s.area s.pending; tail_down = s.tail_down; current = s.current }
sorted_after current_out s = record { area = s.area; ranges = s.ranges; memory_frames = s.memory_frames; commit = s.commit; committed = s.committed; migrated = s.migrated; pending = s.pending; tail_down = s.tail_down; current = paged_out s.area s.current }
sorted_after directory_down s = record { area = s.area; ranges = s.ranges; memory_frames = s.memory_frames; commit = s.commit; committed = s.committed; migrated = s.migrated; pending = s.pending; tail_down = suc s.tail_down; current = s.current }
sorted_after trailer_down s = record { area = s.area; ranges = s.ranges; memory_frames = s.memory_frames; commit = s.commit; committed = s.committed; migrated = s.migrated; pending = s.pending; tail_down = suc s.tail_down; current = s.current }
sorted_after copy_home s = record { area = s.area; ranges = s.ranges; memory_frames = s.memory_frames; commit = s.commit; committed = s.committed; migrated = suc s.migrated; pending = s.pending; tail_down = s.tail_down; current = s.current }
sorted_after header_down s = record { area = s.area; ranges = s.ranges; memory_frames = s.memory_frames; commit = suc s.commit; committed = s.pending; migrated = 0; pending = sorted_empty s.current.first; tail_down = 0; current = s.current }

-- ---- the calls that write nothing

unfoldable pub queue_all : List FrameBytes → List FrameBytes → List FrameBytes
queue_all [] q = q
queue_all (w ∷ ws) q = queue_all ws (queue_change w q)

unfoldable pub without_all : List FrameBytes → List Entry → List Entry
without_all [] es = es
without_all (w ∷ ws) es = without_all ws (without_frame w.frame es)

unfoldable pub sorted_change : List FrameBytes → Sorted → Sorted
sorted_change ws s = record {
  area = s.area;
  ranges = s.ranges;
  memory_frames = s.memory_frames;
  commit = s.commit;
  committed = s.committed;
  migrated = s.migrated;
  pending = s.pending;
  tail_down = s.tail_down;
  current = record { first = s.current.first; pages_down = s.current.pages_down; dir = without_all ws s.current.dir; waiting = queue_all ws s.current.waiting };
}

unfoldable pub sorted_snapshot : Sorted → Sorted
sorted_snapshot s = record {
  area = s.area;
  ranges = s.ranges;
  memory_frames = s.memory_frames;
  commit = s.commit;
  committed = s.committed;
  migrated = s.migrated;
  pending = s.current;
  tail_down = 0;
  current = sorted_empty (ring_at s.area s.current.first (size_of s.current));
}
