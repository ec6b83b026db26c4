-- The plain machine of demand 2: tables of pages and counts, and a ledger of numbers. It begins with what a start
-- shows; after that it sees no card, no memory and no record.
--
-- It shares with the calls, of pages: the place of an OID, which changes a call makes (Call: edits), the frames behind
-- them (Change: edit_frames), and the form of a refusal. Of generations (recovery's Step, here without bytes): what a
-- change, a snapshot, a page-out and each kind of advance make of them, which entry M copies next, where the trailer
-- stands, the blocks of directory and trailer, and which kinds write a block. Of the card: the ring, and how a header is
-- laid out. Of migration: which frames of a table are empty pages (Needed), and how many entries count as passed over
-- (Sums: passed_to). With the book it shares what a change makes of a page (Change: changed).
--
-- Its own are: its questions, 21 and 9 by the ranges alone (between, beyond), 10, 11 and 15 by a row (row_asks), and k by
-- the frames that a change touches; its answers; the flags; when a flush is due; which kind is next and whether one is
-- (Sums: remaining_writes); the forecast (Sums: commit_sum); the bytes of pages; by which table pages are empty.
-- Assumes nothing.
use Rattle.std.specs.Prelude.{ℕ, ◌+◌, leb, ltb, eqb, length, replicate, Bool, true, false, cond, ◌&&◌, ◌||◌, not, List, [], ◌∷◌, ◌++◌}
use Rattle.std.proofs.Math.Option.{Option, none, some}
use Rattle.card.specs.Header.{header_block}
use Rattle.card.specs.Question.{Question, ask, first_no}
use Rattle.card.specs.Range.{Range, locate, last_end, Lookup}
use Rattle.card.specs.Ring.{ring_at}
use Rattle.card.specs.declared.range.Address.{Address}
use Rattle.frames.specs.Promise.{advanced}
use Rattle.pages.specs.Call.{PageCall, key, read, write, rescind, Call, start, on, snapshot, page_out, advance, forecast, Answer, refused, done, counted, filled, wrote, foretold, edits}
use Rattle.pages.specs.Change.{Change, put, empty, Edit, update, changed, at_place, edit_frames}
use Rattle.pages.specs.Needed.{needed}
use Rattle.pages.specs.Page.{Page, flagged, page_of}
use Rattle.pages.specs.Promise.{refusal}
use Rattle.recovery.specs.Book.{FrameBook, marked_or, book_change, book_snapshot, book_wrote}
use Rattle.recovery.specs.Contents.{Contents, FrameBytes}
use Rattle.recovery.specs.Directory.{frame_of}
use Rattle.recovery.specs.State.{Generation, State, read_frame, Phase, writing, flushed, owed, is_owed}
use Rattle.recovery.specs.Step.{pending_to, current_to, phase_to, after_change, after_snapshot, Kind, page, directory, trailer, migration, header, flush, kind_put, tail_write, trailer_block_no, next_migration, after_page_out, pass_to}
use Rattle.recovery.specs.Sums.{room_sums, advance_sums, remaining_writes, first_of, passed_to, commit_sum}
use Rattle.recovery.specs.Write.{BlockWrite}

-- a page with bit 0 of its flags: a page of zeros may have it clear, and k of a write depends on it
pub record Row : Type 0 where
  pub page : Page
  pub zero : Bool

unfoldable pub row_of : Contents → Address → Row
row_of v p = record { page = page_of v p; zero = flagged v p }

-- rows by OID, whether a page has changed since the last snapshot or start, how flushes stand by the answers alone, the
-- ledger, and what frames hold: present, marked, kept
pub record Plain : Type 0 where
  pub rows : ℕ → Row
  pub changed : Bool
  pub phase : Phase
  pub ledger : State
  pub frames : FrameBook

-- the ledger is the state without its bytes: of what waits it tells how many
unfoldable pub blank_generation : Generation → Generation
blank_generation g = record { first = g.first; pages_down = g.pages_down; entries = g.entries; waiting = replicate (length g.waiting) [] }

unfoldable pub blank : State → State
blank s = current_to (blank_generation s.current) (pending_to (blank_generation s.pending) s.tail_down s)

-- as a start leaves it
unfoldable pub plain_of : State → List ℕ → Plain
plain_of s c = record {
  rows = λ o. at_place (record { page = record { bytes = []; count = 0 }; zero = false }) (locate s.ranges (1 + s.area) o) (row_of (read_frame s c));
  changed = false;
  phase = owed;
  ledger = blank s;
  frames = record { present = read_frame s c; marked = none; kept = read_frame s c };
}

-- how flushes stand after an answer: after H one is due; F is the one that was due, or else the one just before an H
unfoldable pub phase_after : Kind → Phase → Phase
phase_after page p = p
phase_after directory p = p
phase_after trailer p = p
phase_after migration p = p
phase_after header p = owed
phase_after flush owed = writing
phase_after flush writing = flushed
phase_after flush flushed = flushed

-- the ledger, with the machine's own account of flushes
abbrev pub ledger_of : Plain → State
ledger_of t = phase_to t.phase t.ledger

abbrev pub plain_address : Plain → ℕ → Lookup
plain_address t o = locate t.ledger.ranges (1 + t.ledger.area) o

-- ---- changes in the rows, and the frames that they touch, by their numbers

abbrev pub touched : ℕ → FrameBytes
touched f = record { frame = f; bytes = [] }

-- a write touches its page, and its pot if the flag was set; a rescind its pot
unfoldable pub touches : Change → Row → Address → List FrameBytes
touches (put at new) r p = touched p.page ∷ cond r.zero (touched p.pot ∷ []) []
touches empty r p = touched p.pot ∷ []

-- the flag afterwards, and the row
unfoldable pub zero_after : Change → Bool
zero_after (put at new) = false
zero_after empty = true

abbrev pub row_after : Change → Row → Row
row_after c r = record { page = changed c r.page; zero = zero_after c }

-- the rows after one change, and after a list of them
abbrev pub row_changed : Edit → (ℕ → Row) → ℕ → Row
row_changed e rows = update e.oid (row_after e.change (rows e.oid)) rows

unfoldable pub rows_after : List Edit → (ℕ → Row) → ℕ → Row
rows_after [] rows = rows
rows_after (e ∷ es) rows = rows_after es (row_changed e rows)

unfoldable pub edit_touches : (ℕ → Lookup) → List Edit → (ℕ → Row) → List FrameBytes
edit_touches place [] rows = []
edit_touches place (e ∷ es) rows = at_place [] (place e.oid) (touches e.change (rows e.oid)) ++ edit_touches place es (row_changed e rows)

-- ---- migration passes over pages whose flag is set in what is kept

abbrev pub plain_over : Plain → ℕ → Bool
plain_over t f = not (needed t.ledger.ranges t.ledger.area t.frames.kept f)

-- with the next of them counted as if they were home
abbrev pub plain_past : Plain → Plain
plain_past t = record { rows = t.rows; changed = t.changed; phase = t.phase; ledger = pass_to (passed_to (plain_over t) (ledger_of t)) t.ledger; frames = t.frames }

-- ---- questions: 21 and 9 by the ranges, 10, 11, 15 and k by the rows, 12 to 14 and 20 by sums over the ledger, 16 to
-- 19 and 28 by what is marked, changed, committed, waiting and flushed; never 1, 2 or 3

abbrev pub is_none : Option Contents → Bool
is_none none = true
is_none (some v) = false

-- of an OID: does one range end at or below it, and the next begin above it? Is it below the first range, or at or above
-- the last one's end?
unfoldable pub between : List Range → ℕ → Bool
between [] o = false
between (r ∷ []) o = false
between (r ∷ x ∷ xs) o = (leb (r.oid + r.pages) o && ltb o x.oid) || between (x ∷ xs) o

unfoldable pub beyond : List Range → ℕ → Bool
beyond [] o = true
beyond (r ∷ rs) o = ltb o r.oid || leb (last_end r rs) o

-- of a page, by its row
unfoldable pub row_asks : PageCall → Row → List Question
row_asks key r = []
row_asks (read n b) r = ask 10 (eqb r.page.count n) ∷ ask 11 (eqb (length b) 512) ∷ []
row_asks (write n at new) r = ask 10 (eqb r.page.count n) ∷ ask 11 (leb (at + length new) 512) ∷ []
row_asks (rescind n) r = ask 10 (eqb r.page.count n) ∷ ask 15 (ltb n 4294967295) ∷ []

unfoldable pub plain_asks : Call → Plain → List Question
plain_asks (start m) t = []  -- the list has no start
plain_asks (on o c) t =
    ask 21 (not (between t.ledger.ranges o)) ∷ ask 9 (not (beyond t.ledger.ranges o))
    ∷ row_asks c (t.rows o) ++ room_sums (edit_touches (plain_address t) (edits o c) t.rows) t.ledger
plain_asks snapshot t = ask 16 (is_none t.frames.marked) ∷ ask 17 t.changed ∷ ask 18 (ltb t.ledger.commit 4294967295) ∷ []
plain_asks page_out t = ask 28 (not (is_owed t.phase)) ∷ ask 19 (ltb 0 (length t.ledger.pending.waiting) || ltb 0 (length t.ledger.current.waiting)) ∷ []
plain_asks advance t = advance_sums (plain_over t) (ledger_of t)
plain_asks forecast t = []

-- ---- blocks written: a page-out's is the next place, with what was marked or is present of its frame; M's is the
-- frame's home, with what is kept of it; a flush reports block 0 and writes none

abbrev pub plain_out : Generation → ℕ → Contents → BlockWrite
plain_out g area v = record { block = ring_at area g.first g.pages_down; bytes = v (frame_of g.pages_down g.entries) }

unfoldable pub plain_kind : Kind → Plain → BlockWrite
plain_kind page t = plain_out t.ledger.pending t.ledger.area (marked_or t.frames)
plain_kind directory t = tail_write t.ledger
plain_kind trailer t = tail_write t.ledger
plain_kind migration t = record { block = (next_migration t.ledger).frame; bytes = t.frames.kept (next_migration t.ledger).frame }
plain_kind header t = record { block = 0; bytes = header_block (1 + t.ledger.commit) (trailer_block_no t.ledger) t.ledger.area t.ledger.ranges }
plain_kind flush t = record { block = 0; bytes = [] }

unfoldable pub plain_page_out : Plain → BlockWrite
plain_page_out t = cond (ltb 0 (length t.ledger.pending.waiting)) (plain_kind page t) (plain_out t.ledger.current t.ledger.area t.frames.present)

-- ---- what a call does: its answer, the block that it writes, the tables after it

pub record PlainOutcome : Type 0 where
  pub answer : Answer
  pub write : Option BlockWrite
  pub next : Plain

-- an answer, and nothing else
abbrev pub answers : Answer → Plain → PlainOutcome
answers a t = record { answer = a; write = none; next = t }

-- the answer of a call on a page, by its row
unfoldable pub row_answer : PageCall → Row → Answer
row_answer key r = counted r.page.count
row_answer (read n b) r = filled 0 r.page.bytes
row_answer (write n at new) r = done
row_answer (rescind n) r = done

-- the tables after a list of changes
unfoldable pub plain_edits : List Edit → Plain → Plain
plain_edits [] t = t
plain_edits (e ∷ es) t = record {
  rows = rows_after (e ∷ es) t.rows;
  changed = true;
  phase = t.phase;
  ledger = after_change (edit_touches (plain_address t) (e ∷ es) t.rows) t.ledger;
  frames = book_change (edit_frames (plain_address t) (e ∷ es) t.frames.present) t.frames;
}

unfoldable pub plain_advance : Option Kind → Plain → PlainOutcome
plain_advance none t = answers (refused 20) t
plain_advance (some k) t = record {
  answer = wrote k (plain_kind k t).block;
  write = kind_put k (plain_kind k t);
  next = record {
    rows = t.rows;
    changed = t.changed;
    phase = phase_after k t.phase;
    ledger = advanced (some k) t.ledger;
    frames = book_wrote k t.frames;
  };
}

unfoldable pub plain_done : Call → Plain → PlainOutcome
plain_done (start m) t = answers done t  -- the list has no start
plain_done (on o c) t = answers (row_answer c (t.rows o)) (plain_edits (edits o c) t)
plain_done snapshot t = answers done (record {
  rows = t.rows;
  changed = false;
  phase = t.phase;
  ledger = after_snapshot t.ledger;
  frames = book_snapshot t.frames;
})
plain_done page_out t = record {
  answer = wrote page (plain_page_out t).block;
  write = some (plain_page_out t);
  next = record { rows = t.rows; changed = t.changed; phase = t.phase; ledger = after_page_out t.ledger; frames = t.frames };
}
plain_done advance t = plain_advance (first_of (remaining_writes (plain_over t) (ledger_of t))) (plain_past t)
plain_done forecast t = answers (foretold (commit_sum (plain_over t) (ledger_of t))) t  -- document 02's sum

unfoldable pub plain_does : Call → Plain → PlainOutcome
plain_does c t = cond (eqb (first_no (plain_asks c t)) 0) (plain_done c t) (answers (refusal c (first_no (plain_asks c t))) t)
