-- Lists of the frame layer's calls with cuts, and what the layer above may rest on: after any of them a start accepts, writes nothing, and loads show what
-- the book keeps; between a start and the next start or cut, loads show what is present.
-- Assumes nothing.
use Prim.Native.Nat.{ℕ, ◌/◌, ◌<◌}
use lib.ListN.{length}
use mathlib.Core.Bool.{Bool, true}
use mathlib.Core.List.{List}
use mathlib.Core.Logic.{◌⊎◌}
use mathlib.Core.Option.{Option, none, some}
use mathlib.Core.Path.{◌≡◌}
use Rattle.card.specs.Block.{block_at, whole}
use Rattle.card.specs.Bytes.{All}
use Rattle.card.specs.Header.{header_on}
use Rattle.card.specs.Question.{first_no, header_ranges}
use Rattle.frames.specs.Promise.{Lent, lent, meaning_of, common, FrameCall, start, change, snapshot, page_out, advance, FrameAnswer, refused, done, wrote, outcome, FrameKept, Loads, LoadsCommitted}
use Rattle.record.specs.Meaning.{zero_store}
use Rattle.recovery.proofs.Follows.{Passed}
use Rattle.recovery.specs.Book.{FrameBook, book_change, book_snapshot, book_start, book_wrote, kept_before, book_cut, WholeFrame, Needs, Brings}
use Rattle.recovery.specs.Contents.{Contents}
use Rattle.recovery.specs.Questions.{start_asks}
use Rattle.recovery.specs.Sound.{Sound}
use Rattle.recovery.specs.State.{read_frame}
use Rattle.recovery.specs.Step.{kind_drive, start_state}
use Rattle.recovery.specs.Write.{BlockWrite, Drive, seen, settled, written, Spoilt, Cut, ReachedIs}

-- the drive, what is held between calls (nothing before the first start and after a cut), the book of frames, and
-- what was kept before a header write that is not flushed
pub record FrameWorld : Type 0 where
  pub drive : Drive
  pub held : Option Lent
  pub book : FrameBook
  pub before : Option Contents

-- ---- the book, fed by each call's arguments and answer

-- the second book where the answer is done, else the third
abbrev pub on_done : FrameAnswer → FrameBook → FrameBook → FrameBook
on_done done b' b = b'
on_done (refused n) b' b = b
on_done (wrote k n) b' b = b

abbrev pub on_wrote : FrameAnswer → FrameBook → FrameBook
on_wrote (wrote k n) b = book_wrote k b
on_wrote done b = b
on_wrote (refused n) b = b

unfoldable pub told : FrameCall → FrameAnswer → FrameBook → FrameBook
told (start m) a b = on_done a (book_start b) b
told (change ws) a b = on_done a (book_change ws b) b
told snapshot a b = on_done a (book_snapshot b) b
told page_out a b = b
told (advance n) a b = on_wrote a b

-- what was kept before a header write that is not flushed
abbrev pub before_told : FrameAnswer → FrameBook → Option Contents → Option Contents
before_told (wrote k n) b o = kept_before k b o
before_told done b o = o
before_told (refused n) b o = o

-- a call's write joins those that are not flushed; where a flush is reported, the program flushes them
abbrev pub drive_told : FrameAnswer → Option BlockWrite → Drive → Drive
drive_told (wrote k n) o v = kind_drive k o v
drive_told done o v = written o v
drive_told (refused n) o v = written o v

-- ---- steps

-- start takes no earlier record; every other call is lent what is held
abbrev pub start_lent : List ℕ → List ℕ → Lent
start_lent m c = lent zero_store m c

abbrev pub lent_to : FrameCall → FrameWorld → Option Lent
lent_to (start m) w = some (start_lent m (seen w.drive))
lent_to (change ws) w = w.held
lent_to snapshot w = w.held
lent_to page_out w = w.held
lent_to (advance n) w = w.held

-- The layer above changes home frames only, each with a whole block of bytes, and hands down every frame that a
-- change makes needed. It passes over committed entries only of frames that are not needed.
abbrev pub Asked : Needs → FrameCall → Lent → FrameBook → Type 0
Asked needed (start m) l b = Unit {0}
Asked needed (change ws) l b = All (WholeFrame l.store.geometry.area l.store.geometry.blocks) ws × Brings needed l.store.geometry.area l.store.geometry.blocks ws b.present
Asked needed snapshot l b = Unit {0}
Asked needed page_out l b = Unit {0}
Asked needed (advance n) l b = Passed needed b.kept n (meaning_of l)

-- a call, done or refused, by its own promise; a cut in a call, whose write is then one of those that are not
-- flushed; a cut between calls. After a cut nothing is unflushed, and the book is told whether the header write being
-- made or not flushed, if any, reached the card.
pub data FrameStep (needed : Needs) : FrameWorld → FrameWorld → Type 0 where
  called : (c : FrameCall) (w : FrameWorld) (l l' : Lent) (a : FrameAnswer) → lent_to c w ≡ some l → Asked needed c l w.book → FrameKept c l a l'
      → FrameStep needed w (record { drive = drive_told a (outcome c l).write w.drive; held = some l'; book = told c a w.book; before = before_told a w.book w.before })
  cut_within : (c : FrameCall) (w : FrameWorld) (l : Lent) (card' : List ℕ) (reached : Bool) → lent_to c w ≡ some l → Asked needed c l w.book
      → Cut Spoilt w.drive (outcome c l).write card' → ReachedIs (written (outcome c l).write w.drive).since card' reached
      → FrameStep needed w (record { drive = settled card'; held = none; book = book_cut w.before reached w.book; before = none })
  cut_between : (w : FrameWorld) (card' : List ℕ) (reached : Bool) → Cut Spoilt w.drive none card' → ReachedIs w.drive.since card' reached
      → FrameStep needed w (record { drive = settled card'; held = none; book = book_cut w.before reached w.book; before = none })

pub data FrameRun (needed : Needs) : FrameWorld → FrameWorld → Type 0 where
  stays : (w : FrameWorld) → FrameRun needed w w
  goes : (u v w : FrameWorld) → FrameRun needed u v → FrameStep needed v w → FrameRun needed u w

-- ---- the claims

-- a card that a start accepts, all of it flushed, with what that start shows as its book
abbrev pub first_world : List ℕ → List ℕ → FrameWorld
first_world m card = record {
  drive = settled card;
  held = none;
  book = record { present = read_frame (start_state m card) card; marked = none; kept = read_frame (start_state m card) card };
  before = none;
}

-- a home frame of a card
abbrev pub HomeFrame : List ℕ → ℕ → Type 0
HomeFrame card f = ((header_on (block_at card 0)).area < f) × (f < length card / 512)

-- A record that an accepted start or a later call handed back: it passes questions 1 to 3, its meaning is sound, and its geometry is the first card's.
pub record Serves (card : List ℕ) (l : Lent) : Type 0 where
  pub passes : first_no (common l) ≡ 0
  pub sound : Sound (meaning_of l)
  pub blocks_is : (meaning_of l).blocks ≡ length card / 512
  pub area_is : (meaning_of l).area ≡ (header_on (block_at card 0)).area
  pub ranges_is : (meaning_of l).ranges ≡ header_ranges (header_on (block_at card 0))

-- after any list of calls and cuts a start accepts, writes nothing, and loads of needed frames show what the book
-- keeps
abbrev pub FramesRecover : Needs → Type 0
FramesRecover needed = (m₀ card : List ℕ) → first_no (start_asks m₀ card) ≡ 0 → (w : FrameWorld) → FrameRun needed (first_world m₀ card) w
    → (m : List ℕ) → whole 4 64 (length m) ≡ true → (a : FrameAnswer) (l : Lent) → FrameKept (start m) (start_lent m (seen w.drive)) a l
    → (a ≡ done) × (l.card ≡ seen w.drive) × Serves card l × ((f : ℕ) (x : List ℕ) → HomeFrame card f → needed w.book.kept f ≡ true → Loads l f x → x ≡ w.book.kept f)

-- where a record is held that passes questions 1 to 3, loads of needed frames show what is present, and those of
-- the committed generation what is kept
abbrev pub FramesPresent : Needs → Type 0
FramesPresent needed = (m₀ card : List ℕ) → first_no (start_asks m₀ card) ≡ 0 → (w : FrameWorld) → FrameRun needed (first_world m₀ card) w
    → (l : Lent) → w.held ≡ some l → first_no (common l) ≡ 0 → (f : ℕ) (x : List ℕ) → HomeFrame card f → needed w.book.present f ≡ true → Loads l f x → x ≡ w.book.present f

abbrev pub FramesCommitted : Needs → Type 0
FramesCommitted needed = (m₀ card : List ℕ) → first_no (start_asks m₀ card) ≡ 0 → (w : FrameWorld) → FrameRun needed (first_world m₀ card) w
    → (l : Lent) → w.held ≡ some l → first_no (common l) ≡ 0 → (f : ℕ) (x : List ℕ) → HomeFrame card f → needed w.book.kept f ≡ true → LoadsCommitted l f x → x ≡ w.book.kept f

-- what is held serves, unless it is the record of zeros that a refused start handed out; its card is the world's
abbrev pub FramesHold : Needs → Type 0
FramesHold needed = (m₀ card : List ℕ) → first_no (start_asks m₀ card) ≡ 0 → (w : FrameWorld) → FrameRun needed (first_world m₀ card) w
    → (l : Lent) → w.held ≡ some l → ((l.store ≡ zero_store) ⊎ Serves card l) × (l.card ≡ seen w.drive)
