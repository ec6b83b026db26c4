-- DEMAND 3, the statement.
--
-- Take any card, with any bytes, on which format reports done, and a drive that puts writes down in an order of its
-- own (document 02, #110). Let any list of events follow: the nine calls with any arguments, done or refused by
-- their own promises; a start with any memory, first, after a cut or at any time; a cut between two calls; a cut in a
-- call. The program flushes where advance reports F. A cut leaves any of the writes since the last flush, the one
-- being made included, put down in any order, and at most one of them torn, with any bytes; block 0 is found whole.
-- There is no cut before the first F is done. Any number of each, in any order. Each call is lent what the last one
-- left; nobody else touches drive, record or memory.
--
-- Then a start that is lent any 4 to 64 whole frames is done and writes nothing, and for every OID of the ranges key
-- gives the count that the book keeps, and read with that key the bytes that it keeps: those of the last snapshot
-- whose header write reached the card, or of format.
--
-- The same is claimed of a stronger drive, which may leave any bytes in every block written since the last flush, and
-- block 0 old or new (`Demand3Spoilt`): a device layer may hand a drive many blocks in one command.
-- Assumes nothing.
use Rattle.std.specs.Prelude.{ℕ, ◌+◌, ◌/◌, ◌≤◌, ◌<◌, length, Bool, true, false, cond, ◌||◌, List, [], ◌∷◌, ◌≡◌}
use Rattle.std.proofs.Math.Option.{Option, none, some}
use Rattle.card.specs.Block.{whole}
use Rattle.card.specs.Range.{range_in}
use Rattle.frames.specs.Promise.{Lent, lent}
use Rattle.pages.specs.Book.{Event, called, cut_in, cut, is_flush, format_book, book_after}
use Rattle.pages.specs.Call.{key, read, Call, start, on, snapshot, page_out, advance, forecast, Answer, done, counted, filled}
use Rattle.pages.specs.Page.{Page}
use Rattle.pages.specs.Promise.{outcome, Kept, FormatKept}
use Rattle.record.specs.Meaning.{zero_store}
use Rattle.recovery.specs.Write.{BlockWrite, Drive, seen, settled, written, Adversary, Left, Spoilt, Cut, ReachedIs}

-- the drive; what is held between calls: nothing before the first start and after a cut; and whether the format is
-- complete, which it is at the first F after it
pub record World : Type 0 where
  pub drive : Drive
  pub held : Option Lent
  pub complete : Bool

-- start takes no earlier record; every other call is lent what is held
abbrev pub lent_to : Call → World → Option Lent
lent_to (start m) w = some (lent zero_store m (seen w.drive))
lent_to (on o c) w = w.held
lent_to snapshot w = w.held
lent_to page_out w = w.held
lent_to advance w = w.held
lent_to forecast w = w.held

-- a call's write joins those that are not flushed; where F is reported the program flushes all of them
abbrev pub drive_after : Answer → Option BlockWrite → Drive → Drive
drive_after a o v = cond (is_flush a) (settled (seen v)) (written o v)

-- a call, done or refused, by its own promise; a cut in a call, whose write is then one of those that are not
-- flushed; a cut between calls. A cut leaves what the drive may leave, and nothing unflushed.
pub data Step (A : Adversary) : Event → World → World → Type 0 where
  calls : (c : Call) (a : Answer) (w : World) (l l' : Lent) → lent_to c w ≡ some l → Kept c l a l'
      → Step A (called c a) w (record { drive = drive_after a (outcome c l).write w.drive; held = some l'; complete = w.complete || is_flush a })
  cut_within : (c : Call) (reached : Bool) (w : World) (l : Lent) (card : List ℕ) → w.complete ≡ true → lent_to c w ≡ some l → Cut A w.drive (outcome c l).write card
      → ReachedIs (written (outcome c l).write w.drive).since card reached → Step A (cut_in c reached) w (record { drive = settled card; held = none; complete = true })
  cut_between : (reached : Bool) (w : World) (card : List ℕ) → w.complete ≡ true → Cut A w.drive none card → ReachedIs w.drive.since card reached
      → Step A (cut reached) w (record { drive = settled card; held = none; complete = true })

-- a whole list of events
pub data Run (A : Adversary) : List Event → World → World → Type 0 where
  ended : (w : World) → Run A [] w w
  then : (e : Event) (es : List Event) (u v w : World) → Step A e u v → Run A es v w → Run A (e ∷ es) u w

-- an OID of the ranges that format was given as numbers: of range i, for some i
abbrev pub OfRanges : List ℕ → ℕ → Type 0
OfRanges numbers oid = (i : ℕ) × (i < length numbers / 2) × ((range_in numbers i).oid ≤ oid) × (oid < (range_in numbers i).oid + (range_in numbers i).pages)

-- key gives the page's count, and read with that key its bytes
abbrev pub Shows : Lent → ℕ → Page → Type 0
Shows l oid p = (a b : Answer) (l₁ l₂ : Lent) (buffer : List ℕ) → length buffer ≡ 512 → Kept (on oid key) l a l₁ → Kept (on oid (read p.count buffer)) l₁ b l₂
    → (a ≡ counted p.count) × (b ≡ filled 0 p.bytes)

-- the drive after a format: any of which the card that is seen is the formatted one
abbrev pub Recovers : Adversary → Type 0
Recovers A = (area : ℕ) (numbers before card : List ℕ) → FormatKept area numbers before done card
    → (v : Drive) → seen v ≡ card → (es : List Event) (w : World) → Run A es (record { drive = v; held = none; complete = false }) w
    → (m : List ℕ) → whole 4 64 (length m) ≡ true
    → (a : Answer) (l : Lent) → Kept (start m) (lent zero_store m (seen w.drive)) a l
    → (a ≡ done) × (l.card ≡ seen w.drive)
    × ((oid : ℕ) → OfRanges numbers oid → Shows l oid ((book_after es format_book).kept oid))

-- of document 02's drive, and of the stronger one
abbrev pub Demand3 : Type 0
Demand3 = Recovers Left

abbrev pub Demand3Spoilt : Type 0
Demand3Spoilt = Recovers Spoilt
