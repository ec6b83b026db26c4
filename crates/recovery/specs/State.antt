-- What a record means: the three generations that may live, and what a read shows (document 01, 'A generation').
-- Assumes nothing.
use Rattle.std.specs.Prelude.{ℕ, ◌+◌, length, Bool, true, false, List, []}
use Rattle.card.specs.Block.{block_at}
use Rattle.card.specs.Range.{Range}
use Rattle.card.specs.Ring.{generation_size}
use Rattle.card.specs.declared.directory.Entry.{Entry}
use Rattle.recovery.specs.Contents.{Contents, FrameBytes, overlay, stored_frames}
use Rattle.recovery.specs.Directory.{Note, dir_of, waiting_from}

-- The committed generation: its first block, its p, and its directory by rising frame. Without entries: there is none.
pub record Committed : Type 0 where
  pub first : ℕ
  pub places : ℕ
  pub entries : List Entry

-- The pending or the current generation: its first block, how many of its places are down, its entries by rising
-- frame, and the bytes of the places that are not down, oldest first. Place i is the block i places on from the
-- first, from the moment it is taken. Without entries: none is pending.
pub record Generation : Type 0 where
  pub first : ℕ
  pub pages_down : ℕ
  pub entries : List Note
  pub waiting : List (List ℕ)

-- How writes stand to flushes: `writing`, what advance puts down for the next header write is not flushed as a whole;
-- `flushed`, the flush just before the header write is made, and the header write is next; `owed`, the flush after a
-- header write or a start is still due (document 02's word).
pub data Phase : Type 0 where
  writing flushed owed : Phase

abbrev pub is_owed : Phase → Bool
is_owed writing = false
is_owed flushed = false
is_owed owed = true

abbrev pub is_flushed : Phase → Bool
is_flushed writing = false
is_flushed flushed = true
is_flushed owed = false

pub record State : Type 0 where
  pub blocks : ℕ
  pub area : ℕ
  pub ranges : List Range
  pub memory_frames : ℕ
  pub commit : ℕ
  pub committed : Committed
  pub migrated : ℕ  -- committed entries copied home or passed over
  pub pending : Generation
  pub tail_down : ℕ  -- blocks of the pending directory and trailer that are down
  pub current : Generation
  pub phase : Phase

-- p and e of a generation, waiting frames counted
unfoldable pub places : Generation → ℕ
places g = g.pages_down + length g.waiting

abbrev pub entry_count : Generation → ℕ
entry_count g = length g.entries

unfoldable pub size : Generation → ℕ
size g = generation_size (places g) (entry_count g)

unfoldable pub committed_size : Committed → ℕ
committed_size g = generation_size g.places (length g.entries)

-- the frames that do not wait, by rising frame, and those that wait, oldest first
unfoldable pub directory_of : ℕ → Generation → List Entry
directory_of area g = dir_of area g.first g.pages_down g.entries

unfoldable pub waiting_frames : Generation → List FrameBytes
waiting_frames g = waiting_from g.entries g.pages_down g.waiting

unfoldable pub empty : ℕ → Generation
empty first = record { first = first; pages_down = 0; entries = []; waiting = [] }

-- ---- what the committed generation shows: its entries over home

unfoldable pub committed_frame : State → List ℕ → Contents
committed_frame s c = overlay (stored_frames c s.committed.entries) (block_at c)

-- ---- read: the newest of current, pending, committed, home

unfoldable pub read_frame : State → List ℕ → Contents
read_frame s c =
    overlay (waiting_frames s.current) (overlay (stored_frames c (directory_of s.area s.current))
    (overlay (waiting_frames s.pending) (overlay (stored_frames c (directory_of s.area s.pending))
    (overlay (stored_frames c s.committed.entries) (block_at c)))))
