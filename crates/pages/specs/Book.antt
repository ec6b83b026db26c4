-- The book (document 01, 'The book'): ONE function from what is told of an event to the next book.
-- Assumes nothing.
use Rattle.std.specs.Prelude.{eqb, Bool, true, false, cond, List, [], ◌∷◌}
use Rattle.std.proofs.Math.Option.{Option, none, some, get_or}
use Rattle.pages.specs.Call.{Call, start, on, snapshot, page_out, advance, forecast, Answer, refused, done, counted, filled, wrote, foretold, edits}
use Rattle.pages.specs.Change.{Table, applied}
use Rattle.pages.specs.Page.{empty_page}
use Rattle.recovery.specs.Step.{page, directory, trailer, migration, header, flush}

-- what is present; what the last snapshot marked, until a header write reaches the card or a start empties it; what
-- is kept; what was kept before the last header write, while that is not flushed
pub record Book : Type 0 where
  pub present : Table
  pub marked : Option Table
  pub kept : Table
  pub before : Option Table

-- what the book is fed: a call with its answer; a cut in a call and a cut between calls, each with whether the header
-- write being made or not flushed, if any, reached the card
pub data Event : Type 0 where
  called : Call → Answer → Event
  cut_in : Call → (reached : Bool) → Event
  cut : (reached : Bool) → Event

-- format: present and kept all zeros, marked empty
abbrev pub format_book : Book
format_book = record { present = λ o. empty_page; marked = none; kept = λ o. empty_page; before = none }

abbrev pub present_to : Table → Book → Book
present_to t b = record { present = t; marked = b.marked; kept = b.kept; before = b.before }

-- a header write reached the card: kept becomes marked, unless that is empty; until it is flushed, a cut may still
-- find it old
abbrev pub header_reached : Book → Book
header_reached b = record { present = b.present; marked = none; kept = get_or b.marked b.kept; before = some b.kept }

-- it is flushed
abbrev pub flushed_book : Book → Book
flushed_book b = record { present = b.present; marked = b.marked; kept = b.kept; before = none }

-- A cut. A header write that was not flushed is found, or is found old, and kept is as before it. Without one, the
-- header write being made, if any, has reached the card or not.
abbrev pub cut_book : Option Table → Bool → Book → Book
cut_book none reached b = cond reached (flushed_book (header_reached b)) b
cut_book (some k) reached b = record { present = b.present; marked = b.marked; kept = cond reached b.kept k; before = none }

-- is a call done; is a header reported; is a flush
unfoldable pub is_done : Answer → Bool
is_done (refused n) = false
is_done done = true
is_done (counted n) = true
is_done (filled n x) = eqb n 0
is_done (wrote k n) = true
is_done (foretold n) = true

unfoldable pub is_header : Answer → Bool
is_header (refused n) = false
is_header done = false
is_header (counted n) = false
is_header (filled n x) = false
is_header (wrote page n) = false
is_header (wrote directory n) = false
is_header (wrote trailer n) = false
is_header (wrote migration n) = false
is_header (wrote header n) = true
is_header (wrote flush n) = false
is_header (foretold n) = false

unfoldable pub is_flush : Answer → Bool
is_flush (refused n) = false
is_flush done = false
is_flush (counted n) = false
is_flush (filled n x) = false
is_flush (wrote page n) = false
is_flush (wrote directory n) = false
is_flush (wrote trailer n) = false
is_flush (wrote migration n) = false
is_flush (wrote header n) = false
is_flush (wrote flush n) = true
is_flush (foretold n) = false

-- the book after an event; a call on a page that is done makes its changes in present
unfoldable pub told : Event → Book → Book
told (called (start m) a) b = cond (is_done a) (record { present = b.kept; marked = none; kept = b.kept; before = b.before }) b
told (called (on o c) a) b = cond (is_done a) (present_to (applied (edits o c) b.present) b) b
told (called snapshot a) b = cond (is_done a) (record { present = b.present; marked = some b.present; kept = b.kept; before = b.before }) b
told (called page_out a) b = b
told (called advance a) b = cond (is_header a) (header_reached b) (cond (is_flush a) (flushed_book b) b)
told (called forecast a) b = b
told (cut_in c reached) b = cut_book b.before reached b
told (cut reached) b = cut_book b.before reached b

unfoldable pub book_after : List Event → Book → Book
book_after [] b = b
book_after (e ∷ es) b = book_after es (told e b)
