-- What question 2 tells of a state: the record holds together.
-- Assumes nothing.
use Rattle.std.specs.Prelude.{ℕ, ◌+◌, ◌≤◌, ◌<◌, length, get_or, true, List, [], ◌∷◌, ◌++◌, ◌≢◌, ◌≡◌}
use Rattle.card.specs.Block.{block_at}
use Rattle.card.specs.Bytes.{All}
use Rattle.card.specs.Range.{geometry_fits}
use Rattle.card.specs.Ring.{ring_at, ring_offset, half, dir_blocks}
use Rattle.card.specs.declared.directory.Entry.{Entry}
use Rattle.recovery.specs.Book.{WholeFrame}
use Rattle.recovery.specs.Directory.{Note, frame_of}
use Rattle.recovery.specs.State.{Generation, State, places, entry_count, size, committed_size, directory_of, waiting_frames, is_owed, is_flushed}

-- ---- what question 2 tells of a generation's entries

-- no entry is of frame f
abbrev pub Unnoted : ℕ → List Note → Type 0
Unnoted f es = All (λ e. f ≢ e.frame) es

-- by rising frame
abbrev pub Rises : List Note → Type 0
Rises [] = Unit {0}
Rises (e ∷ es) = All (λ x. e.frame < x.frame) es × Rises es

-- the place k is frame f's, and no other's
abbrev pub Holds : ℕ → ℕ → List Note → Type 0
Holds f k es = All (λ e. (e.frame ≡ f → e.place ≡ k) × (e.place ≡ k → e.frame ≡ f)) es

-- The entries rise and name only places that are taken; every place that is not down is the last one of exactly one
-- entry.
pub record Ordered (g : Generation) : Type 0 where
  pub rises : Rises g.entries
  pub taken : All (λ e. e.place < places g) g.entries
  pub waits : (k : ℕ) → g.pages_down ≤ k → k < places g → Holds (frame_of k g.entries) k g.entries × (Unnoted (frame_of k g.entries) g.entries → ⊥)

-- ---- what question 2 tells of a state

-- by rising frame
abbrev pub Rising : List Entry → Type 0
Rising [] = Unit {0}
Rising (e ∷ es) = All (λ x. e.frame < x.frame) es × Rising es

-- of a home frame
abbrev pub Home : ℕ → ℕ → Entry → Type 0
Home area blocks e = (area < e.frame) × (e.frame < blocks)

-- the entry's block lies in the area, from lo up to below hi places on from first
abbrev pub Between : ℕ → ℕ → ℕ → ℕ → Entry → Type 0
Between area first lo hi e = (1 ≤ e.block) × (e.block ≤ area) × (lo ≤ ring_offset area first e.block) × (ring_offset area first e.block < hi)

pub record Sound (s : State) : Type 0 where
  -- geometry passes 5; commit is 0 if and only if there is no committed generation, and below its limit if one is pending
  pub geometry : geometry_fits s.blocks s.area s.ranges ≡ true
  pub none_committed : s.commit ≡ 0 → (length s.committed.entries ≡ 0) × (s.committed.places ≡ 0) × (s.committed.first ≡ 1)
  pub some_committed : 0 < s.commit → 1 ≤ length s.committed.entries
  pub commit_limit : 0 < entry_count s.pending → s.commit < 4294967295
  -- each directory names home blocks, by rising frame, so none twice; its blocks lie in its own stretch
  pub committed_home : All (Home s.area s.blocks) s.committed.entries
  pub committed_rising : Rising s.committed.entries
  pub committed_inside : All (Between s.area s.committed.first 0 s.committed.places) s.committed.entries
  pub pending_home : All (Home s.area s.blocks) (directory_of s.area s.pending) × All (WholeFrame s.area s.blocks) (waiting_frames s.pending)
  pub current_home : All (Home s.area s.blocks) (directory_of s.area s.current) × All (WholeFrame s.area s.blocks) (waiting_frames s.current)
  pub pending_ordered : Ordered s.pending
  pub current_ordered : Ordered s.current
  -- the stretches adjoin, each at most H and together at most A
  pub pending_first_lem : s.pending.first ≡ ring_at s.area s.committed.first (committed_size s.committed)
  pub current_first_lem : s.current.first ≡ ring_at s.area s.committed.first (committed_size s.committed + size s.pending)
  pub halves : (committed_size s.committed ≤ half s.area) × (size s.pending ≤ half s.area) × (size s.current ≤ half s.area)
  pub together : committed_size s.committed + size s.pending + size s.current ≤ s.area
  -- all that waits fits memory
  pub seated : length s.pending.waiting + length s.current.waiting ≤ s.memory_frames
  -- what advance has put down or copied is within its count and in advance's order
  pub migrated_within : s.migrated ≤ length s.committed.entries
  pub tail_within : s.pending.pages_down + s.tail_down ≤ size s.pending
  pub tail_after : 0 < s.tail_down → length s.pending.waiting ≡ 0
  -- the flush before the header write comes after all of these, the one after a header write or a start before any of
  -- them
  pub flushed_after : is_flushed s.phase ≡ true
      → (0 < entry_count s.pending) × (length s.pending.waiting ≡ 0) × (dir_blocks (entry_count s.pending) < s.tail_down) × (length s.committed.entries ≤ s.migrated)
  pub owed_before : is_owed s.phase ≡ true → (s.migrated ≡ 0) × (s.tail_down ≡ 0)
  -- e ≤ p, and none pending has nothing
  pub committed_few : length s.committed.entries ≤ s.committed.places
  pub pending_few : entry_count s.pending ≤ places s.pending
  pub current_few : entry_count s.current ≤ places s.current
  pub none_pending : entry_count s.pending ≡ 0 → (places s.pending ≡ 0) × (s.tail_down ≡ 0)

-- Every waiting place has a memory frame apiece, `seat`, which the record tells, with its bytes; the pending ones are counted first. Which frame is free.
pub record Seated (s : State) (m : List ℕ) (seat : ℕ → ℕ) : Type 0 where
  pub below : (i : ℕ) → i < length s.pending.waiting + length s.current.waiting → seat i < s.memory_frames
  pub apiece : (i j : ℕ) → i < length s.pending.waiting + length s.current.waiting → j < length s.pending.waiting + length s.current.waiting → seat i ≡ seat j → i ≡ j
  pub bytes : (i : ℕ) → i < length s.pending.waiting + length s.current.waiting → get_or (s.pending.waiting ++ s.current.waiting) i [] ≡ block_at m (seat i)
