-- What the parts of calls promise.
-- Assumes nothing.
use Rattle.std.specs.Prelude.{ℕ, ◌+◌, ◌-◌, ◌*◌, ◌≤◌, ◌<◌, ltb, length, get_or, Bool, true, cond, List, [], ◌∷◌, ◌≢◌, ◌≡◌, Ok}
use Rattle.card.specs.Block.{block_at, put_block, whole}
use Rattle.card.specs.Bytes.{tabulate}
use Rattle.card.specs.Checkpoint.{Recovered}
use Rattle.card.specs.Question.{first_no}
use Rattle.card.specs.Ring.{ring_at}
use Rattle.card.specs.declared.checkpoint.Checkpoint.{Checkpoint}
use Rattle.card.specs.declared.directory.Directory.{Directory}
use Rattle.frames.specs.Promise.{lent, common_asks, change, FrameKept, numbered, LoadsCommitted}
use Rattle.frames.specs.declared.answer.Need.{Need}
use Rattle.frames.specs.declared.answer.Place.{Place}
use Rattle.frames.specs.declared.answer.Place.TheVariants.{Memory, Card}
use Rattle.record.specs.Holds.{holds_together}
use Rattle.record.specs.Lists.{once, all_within}
use Rattle.record.specs.Meaning.{committed_of, phase_of, seat_at, state_of}
use Rattle.record.specs.declared.store.Changes.{Changes}
use Rattle.record.specs.declared.store.Store.{Store}
use Rattle.recovery.specs.Book.{WholeFrame}
use Rattle.recovery.specs.Contents.{FrameBytes, overlay, stored_frames}
use Rattle.recovery.specs.Directory.{Note}
use Rattle.recovery.specs.Questions.{room_asks}
use Rattle.recovery.specs.State.{State, directory_of, waiting_frames, read_frame, is_owed, is_flushed}
use Rattle.recovery.specs.Step.{after_change, Kind, kind_write, after_kind, start_state, migrating}
use Rattle.recovery.specs.Sums.{places_needed, entries_needed, moves_left, forecast}
use Rattle.recovery.specs.Write.{BlockWrite}

-- a block write that is done: the block that is reported, the card after it, and a record that means the next state and holds together
pub record WriteDone (w : BlockWrite) (next : State) (memory card : List ℕ) (block : ℕ) (t : Store) (after : List ℕ) : Type 0 where
  pub block_is : block ≡ w.block
  pub card_is : after ≡ put_block card w.block w.bytes
  pub meaning : state_of t memory ≡ next
  pub together : holds_together t ≡ true

-- one that needs no memory
abbrev pub KindDone : Kind → Store → List ℕ → (block : ℕ) → Store → List ℕ → Type 0
KindDone k s card block t after = (memory : List ℕ) → WriteDone (kind_write k (state_of s memory) card) (after_kind k (state_of s memory)) memory card block t after

-- what a write of advance may rest on: no flush is owed
pub record Writable (s : Store) (card : List ℕ) : Type 0 where
  pub together : holds_together s ≡ true
  pub card_long : length card ≡ 512 * s.geometry.blocks
  pub card_few : s.geometry.blocks ≤ 65536
  pub calm : s.phase ≢ 2

-- the same without a word on flushes, for what only reads
pub record Readable (s : Store) (card : List ℕ) : Type 0 where
  pub together : holds_together s ≡ true
  pub card_long : length card ≡ 512 * s.geometry.blocks
  pub card_few : s.geometry.blocks ≤ 65536

-- whether advance has come to migration; memory does not matter
abbrev pub MigratingIs : Store → Bool → Type 0
MigratingIs s r = (memory : List ℕ) → r ≡ migrating (state_of s memory)

-- of a phase: the flush that is owed, and with it the header write and its flushes that are not made
abbrev pub flush_owed : ℕ → ℕ
flush_owed phase = cond (is_owed (phase_of phase)) 1 0

abbrev pub ends_left : ℕ → ℕ
ends_left phase = flush_owed phase + (cond (is_flushed (phase_of phase)) 0 1 + 2)

-- the forecast, where with a snapshot pending so many entries are to be copied; memory does not matter
abbrev pub Foretells : Store → ℕ → ℕ → Type 0
Foretells s moves n = (over : ℕ → Bool) (memory : List ℕ) → (0 < s.pending.count → moves ≡ moves_left over (state_of s memory)) → n ≡ forecast over (state_of s memory)

-- a step on the record alone
pub record StepDone (next : State → State) (s t : Store) : Type 0 where
  pub meaning : (memory : List ℕ) → state_of t memory ≡ next (state_of s memory)
  pub together : holds_together t ≡ true

-- ---- load

-- the bytes at a memory frame or at a block of the card
abbrev pub found_bytes : Place → List ℕ → List ℕ → List ℕ
found_bytes (Memory n) card memory = block_at memory n
found_bytes (Card n) card memory = block_at card n

-- it is one of the record's memory frames, or one of its card's blocks
abbrev pub Inside : Store → Place → Type 0
Inside s (Memory n) = n < s.frames
Inside s (Card n) = n < s.geometry.blocks

-- where the bytes of a frame are, whatever card and memory hold
pub record Located (s : Store) (bytes : List ℕ → List ℕ → List ℕ) (p : Place) : Type 0 where
  pub there : (card memory : List ℕ) → found_bytes p card memory ≡ bytes card memory
  pub inside : Inside s p

-- where a place's bytes are, in a generation from `first` on of which `down` places are down and before whose waiting
-- frames `ahead` others wait
abbrev pub placed_at : Store → (area first down ahead place : ℕ) → Place
placed_at s area first down ahead place = cond (ltb place down) (Card (ring_at area first place)) (Memory (seat_at s.frames s.head (ahead + (place - down))))

-- a record's committed generation in parts: the area, the generation's first block, its directory
pub record CommittedParts (s : Store) (area first : ℕ) (d : Directory) : Type 0 where
  pub area_is : area ≡ s.geometry.area
  pub first_is : first ≡ s.first
  pub directory_is : d ≡ s.committed

-- some record has these parts, and holds together, or is lent with a card on which the frame lies
pub record PartsHeld (area first : ℕ) (d : Directory) : Type 0 where
  pub store : Store
  pub parts : CommittedParts store area first d
  pub together : holds_together store ≡ true

pub record PartsLent (area first : ℕ) (d : Directory) (card : List ℕ) (frame : ℕ) : Type 0 where
  pub store : Store
  pub parts : CommittedParts store area first d
  pub readable : Readable store card
  pub inside : frame < store.geometry.blocks

-- committed over home, and pending over these
abbrev pub committed_bytes : Store → ℕ → List ℕ → List ℕ → List ℕ
committed_bytes s f card memory = overlay (stored_frames card (committed_of s).entries) (block_at card) f

abbrev pub pending_bytes : Store → ℕ → List ℕ → List ℕ → List ℕ
pending_bytes s f card memory =
    overlay (waiting_frames (state_of s memory).pending) (overlay (stored_frames card (directory_of s.geometry.area (state_of s memory).pending))
    (overlay (stored_frames card (committed_of s).entries) (block_at card))) f

abbrev pub newest_bytes : Store → ℕ → List ℕ → List ℕ → List ℕ
newest_bytes s f card memory = read_frame (state_of s memory) card f

-- what the committed generation shows of a frame; memory does not matter
abbrev pub CommittedShows : Store → List ℕ → ℕ → List ℕ → Type 0
CommittedShows s card frame bytes = (memory : List ℕ) → LoadsCommitted (lent s memory card) frame bytes

-- the block that has a frame, and its bytes, of every record with these parts
abbrev pub CommittedBlock : (area first : ℕ) → Directory → (frame block : ℕ) → Type 0
CommittedBlock area first d frame block = (s : Store) → CommittedParts s area first d → holds_together s ≡ true → frame < s.geometry.blocks → Located s (committed_bytes s frame) (Card block)

abbrev pub PartsShow : (area first : ℕ) → Directory → List ℕ → ℕ → List ℕ → Type 0
PartsShow area first d card frame bytes = (s : Store) → CommittedParts s area first d → Readable s card → frame < s.geometry.blocks → (memory : List ℕ) → LoadsCommitted (lent s memory card) frame bytes

-- ---- room and change

abbrev pub frames_of : List FrameBytes → List ℕ
frames_of [] = []
frames_of (w ∷ ws) = w.frame ∷ frames_of ws

-- new places and entries, of frames that are named once each, in a generation with these entries and `down` places put down
pub record NeedIs (down : ℕ) (notes : List Note) (frames : List ℕ) (r : Need) : Type 0 where
  pub places : (first : ℕ) (waiting : List (List ℕ)) (ws : List FrameBytes) → frames_of ws ≡ frames → r.places ≡ places_needed ws (record { first = first; pages_down = down; entries = notes; waiting = waiting })
  pub entries : (first : ℕ) (waiting : List (List ℕ)) (ws : List FrameBytes) → frames_of ws ≡ frames → r.entries ≡ entries_needed ws (record { first = first; pages_down = down; entries = notes; waiting = waiting })
  pub most : (r.places ≤ length frames) × (r.entries ≤ length frames)

-- the number of 12 to 14 for frames that are named once each
abbrev pub RoomIs : Store → List ℕ → ℕ → Type 0
RoomIs s frames n = (memory : List ℕ) (ws : List FrameBytes) → frames_of ws ≡ frames → n ≡ first_no (room_asks ws (state_of s memory))

-- the record with g as its current generation
abbrev pub with_current : Store → Changes → Store
with_current s g = record {
  frames = s.frames;
  head = s.head;
  geometry = s.geometry;
  commit = s.commit;
  first = s.first;
  pages = s.pages;
  committed = s.committed;
  migrated = s.migrated;
  pending = s.pending;
  tail = s.tail;
  current = g;
  phase = s.phase;
}

-- what a change of one frame may rest on
pub record Changeable (s : Store) (memory : List ℕ) (w : FrameBytes) : Type 0 where
  pub together : holds_together s ≡ true
  pub memory_long : length memory ≡ 512 * s.frames
  pub memory_few : s.frames ≤ 64
  pub card_few : s.geometry.blocks ≤ 65536
  pub frame_whole : WholeFrame s.geometry.area s.geometry.blocks w
  pub room : first_no (room_asks (w ∷ []) (state_of s memory)) ≡ 0

-- frames changed: what the record then means, and that it holds together
pub record ChangeDone (s : Store) (memory : List ℕ) (ws : List FrameBytes) (t : Store) (after : List ℕ) : Type 0 where
  pub meaning : state_of t after ≡ after_change ws (state_of s memory)
  pub together : holds_together t ≡ true
  pub long : length after ≡ length memory

-- of n elements those from the i-th on stand one place higher, and x stands at i
pub record Inserted (l : List ℕ) (n i x : ℕ) (r : List ℕ) : Type 0 where
  pub lower : (j : ℕ) → j < i → get_or r j 0 ≡ get_or l j 0
  pub here : get_or r i 0 ≡ x
  pub higher : (j : ℕ) → i ≤ j → j < n → get_or r (j + 1) 0 ≡ get_or l j 0
  pub long : length r ≡ 256

-- the i-th entry is a frame's, with the next place, and those that stood from there on are one higher
pub record Entered (g : Changes) (i frame : ℕ) (g' : Changes) : Type 0 where
  pub frames : Inserted g.frames g.count i frame g'.frames
  pub places : Inserted g.places g.count i g.taken g'.places
  pub whole : g' ≡ record { count = g.count + 1; taken = g.taken + 1; down = g.down; frames = g'.frames; places = g'.places }

-- frames with their bytes: their names, and 512 bytes for each in turn
abbrev pub frames_with : List ℕ → List ℕ → List FrameBytes
frames_with names bytes = tabulate (λ k. record { frame = get_or names k 0; bytes = block_at bytes k }) 0 (length names)

-- what a change of several frames may rest on: questions 1 to 3 are passed, and home frames are named, each once
pub record Changing (s : Store) (memory names bytes : List ℕ) : Type 0 where
  pub together : holds_together s ≡ true
  pub memory_long : length memory ≡ 512 * s.frames
  pub memory_few : s.frames ≤ 64
  pub card_few : s.geometry.blocks ≤ 65536
  pub few : length names ≤ 256
  pub named_once : once names ≡ true
  pub home : all_within (s.geometry.area + 1) s.geometry.blocks names ≡ true
  pub bytes_long : length bytes ≡ 512 * length names

-- the promise of a change that answers n and leaves the record t, whatever card the record is lent with
abbrev pub ChangeKept : Store → List ℕ → List ℕ → List ℕ → ℕ → Store → List ℕ → Type 0
ChangeKept s memory names bytes n t after = (card : List ℕ) → first_no (common_asks s (length memory) (length card)) ≡ 0
    → FrameKept (change (frames_with names bytes)) (lent s memory card) (numbered n) (lent t after card)

-- ---- start

-- a card and memory that start accepts, with what was read of the card
pub record Startable (memory card : List ℕ) (c : Checkpoint) : Type 0 where
  pub memory_whole : whole 4 64 (length memory) ≡ true
  pub read : Recovered card (Ok c)

pub record Started (memory card : List ℕ) (t : Store) : Type 0 where
  pub meaning : state_of t memory ≡ start_state memory card
  pub together : holds_together t ≡ true
