-- What a record means: record and memory bytes to a state of the store.
-- Assumes nothing.
use Rattle.std.specs.Prelude.{ℕ, ◌+◌, ◌-◌, ltb, eqb, get_or, replicate, cond, List}
use Rattle.card.specs.Block.{block_at}
use Rattle.card.specs.Bytes.{tabulate}
use Rattle.card.specs.Directory.{entries_of}
use Rattle.card.specs.Range.{ranges_of}
use Rattle.card.specs.Ring.{ring_at, generation_size}
use Rattle.record.specs.declared.store.Changes.{Changes}
use Rattle.record.specs.declared.store.Store.{Store}
use Rattle.recovery.specs.Directory.{Note}
use Rattle.recovery.specs.State.{Committed, Generation, State, Phase, writing, flushed, owed}

-- how many frames of a generation wait
abbrev pub waits : Changes → ℕ
waits g = g.taken - g.down

-- entries in memory: entry i of two arrays, the first `count`, and those of a generation
abbrev pub note_in : List ℕ → List ℕ → ℕ → Note
note_in frames places i = record { frame = get_or frames i 0; place = get_or places i 0 }

abbrev pub notes_in : List ℕ → List ℕ → ℕ → List Note
notes_in frames places count = tabulate (note_in frames places) 0 count

abbrev pub notes_of : Changes → List Note
notes_of g = notes_in g.frames g.places g.count

-- the sizes of the three generations
abbrev pub size_of : Changes → ℕ
size_of g = generation_size g.taken g.count

abbrev pub committed_size_of : Store → ℕ
committed_size_of s = generation_size s.pages s.committed.count

-- The waiting frames are one queue, the pending ones first. The i-th stands in the memory frame i on from head; after the last comes the first.
unfoldable pub seat_at : ℕ → ℕ → ℕ → ℕ
seat_at frames head i = cond (ltb (head + i) frames) (head + i) (head + i - frames)

-- the bytes of n that wait, from the i-th on
abbrev pub queue_of : Store → List ℕ → ℕ → ℕ → List (List ℕ)
queue_of s memory i n = tabulate (λ k. block_at memory (seat_at s.frames s.head k)) i n

abbrev pub generation_of : ℕ → List (List ℕ) → Changes → Generation
generation_of first waiting g = record { first = first; pages_down = g.down; entries = notes_of g; waiting = waiting }

abbrev pub committed_of : Store → Committed
committed_of s = record { first = s.first; places = s.pages; entries = entries_of s.geometry.area s.first s.committed.frames s.committed.places s.committed.count }

-- the stretches adjoin
abbrev pub pending_first : Store → ℕ
pending_first s = ring_at s.geometry.area s.first (committed_size_of s)

abbrev pub current_first : Store → ℕ
current_first s = ring_at s.geometry.area s.first (committed_size_of s + size_of s.pending)

-- how flushes stand
unfoldable pub phase_of : ℕ → Phase
phase_of n = cond (eqb n 0) writing (cond (eqb n 1) flushed owed)

abbrev pub state_of : Store → List ℕ → State
state_of s memory = record {
  blocks = s.geometry.blocks;
  area = s.geometry.area;
  ranges = ranges_of s.geometry.ranges s.geometry.count;
  memory_frames = s.frames;
  commit = s.commit;
  committed = committed_of s;
  migrated = s.migrated;
  pending = generation_of (pending_first s) (queue_of s memory 0 (waits s.pending)) s.pending;
  tail_down = s.tail;
  current = generation_of (current_first s) (queue_of s memory (waits s.pending) (waits s.current)) s.current;
  phase = phase_of s.phase;
}

-- ---- the record without content

-- a generation without a change
abbrev pub zero_changes : Changes
zero_changes = record { count = 0; taken = 0; down = 0; frames = replicate 256 0; places = replicate 256 0 }

-- the record that a refused start hands out: of zeros, so that its memory length 0 fails question 1
unfoldable pub zero_store : Store
zero_store = record {
  frames = 0;
  head = 0;
  geometry = record { blocks = 0; area = 0; count = 0; ranges = replicate 16 0 };
  commit = 0;
  first = 0;
  pages = 0;
  committed = record { count = 0; frames = replicate 256 0; places = replicate 256 0 };
  migrated = 0;
  pending = zero_changes;
  tail = 0;
  current = zero_changes;
  phase = 0;
}
