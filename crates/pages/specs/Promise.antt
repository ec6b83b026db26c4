-- The promise of the ten calls: what each is to do with what it is lent, refusals included (document 01, 'The calls' and 'Questions asked').
-- Assumes nothing.
use Rattle.std.specs.Prelude.{ℕ, ◌+◌, ◌/◌, ◌%◌, ◌<◌, eqb, length, Bool, true, false, cond, not, ◌&&◌, List, [], ◌∷◌, ◌++◌, ◌≡◌, Result, Ok, Err, IfOk}
use Rattle.card.specs.Block.{whole}
use Rattle.card.specs.Question.{Question, ask, first_no}
use Rattle.card.specs.Range.{Range, ranges_of, geometry_fits, Lookup, Located, Gap, Outside, locate}
use Rattle.card.specs.Refusal.{number, told}
use Rattle.card.specs.declared.range.Address.{Address}
use Rattle.card.specs.declared.refusal.Refusal.{Refusal}
use Rattle.frames.specs.Promise as frames
use Rattle.frames.specs.Promise.{Lent, meaning_of, common, Outcome, outcome_of, Keeps, FrameCall, FrameAnswer, numbered, past}
use Rattle.pages.specs.Call.{PageCall, Call, start, on, snapshot, page_out, advance, forecast, Answer, refused, done, counted, wrote, foretold, page_asks, edits, page_answer, page_refusal}
use Rattle.pages.specs.Change.{at_place, edit_frames}
use Rattle.pages.specs.Needed.{needed}
use Rattle.pages.specs.Page.{Page, page_of, format_card}
use Rattle.record.specs.declared.store.Geometry.{Geometry}
use Rattle.record.specs.declared.store.Store.{Store}
use Rattle.recovery.specs.Contents.{Contents, FrameBytes}
use Rattle.recovery.specs.Questions.{start_asks, room_asks, snapshot_asks, page_out_asks, advance_asks}
use Rattle.recovery.specs.State.{read_frame, committed_frame}
use Rattle.recovery.specs.Sums as sums
use Rattle.recovery.specs.Sums.{moves_left, passed_to}

-- what the code answers: as the frame layer does, a count, or a forecast
unfoldable pub answered : FrameAnswer → Answer
answered (frames.refused n) = refused n
answered frames.done = done
answered (frames.wrote k n) = wrote k n

unfoldable pub counted_as : Result ℕ Refusal → Answer
counted_as (Ok n) = counted n
counted_as (Err r) = refused (number r)

unfoldable pub foretold_as : Result ℕ Refusal → Answer
foretold_as (Ok n) = foretold n
foretold_as (Err r) = refused (number r)

-- ---- pages

-- the place of an OID by what the record that is lent means
abbrev pub address_of : Lent → ℕ → Lookup
address_of l oid = locate (meaning_of l).ranges (1 + (meaning_of l).area) oid

-- the newest bytes of each frame: of current, pending, committed, home; and the page that they show at a place
abbrev pub present_frames : Lent → Contents
present_frames l = read_frame (meaning_of l) l.card

abbrev pub present_page : Lent → Address → Page
present_page l p = page_of (present_frames l) p

-- what the committed generation shows, and the frames that migration passes over: pages whose flag is set there
abbrev pub committed_frames : Lent → Contents
committed_frames l = committed_frame (meaning_of l) l.card

abbrev pub over : Lent → ℕ → Bool
over l f = not (needed (meaning_of l).ranges (meaning_of l).area (committed_frames l) f)

-- how many committed entries are home or passed over when advance is called
unfoldable pub passed_of : Lent → ℕ
passed_of l = passed_to (over l) (meaning_of l)

-- the frames that a call on a page changes
unfoldable pub call_frames : ℕ → PageCall → Lent → List FrameBytes
call_frames o c l = edit_frames (address_of l) (edits o c) (present_frames l)

-- ---- questions

abbrev pub is_gap : Lookup → Bool
is_gap (Located p) = false
is_gap Gap = true
is_gap Outside = false

abbrev pub is_outside : Lookup → Bool
is_outside (Located p) = false
is_outside Gap = false
is_outside Outside = true

-- 21: does the OID lie in no gap between two ranges? 9: is it neither below the first nor above the last? Then the rest
unfoldable pub placed : Lookup → (Address → List Question) → List Question
placed a rest = ask 21 (not (is_gap a)) ∷ ask 9 (not (is_outside a)) ∷ at_place [] a rest

-- document 01's questions, in its order; 12 to 14 once over all frames that a call changes: one that changes none passes
-- them
unfoldable pub asks : Call → Lent → List Question
asks (start m) l = start_asks m l.card
asks (on o c) l = common l ++ placed (address_of l o) (λ p. page_asks c (present_page l p) ++ room_asks (call_frames o c l) (meaning_of l))
asks snapshot l = common l ++ snapshot_asks (meaning_of l)
asks page_out l = common l ++ page_out_asks (meaning_of l)
asks advance l = common l ++ advance_asks (meaning_of (past (passed_of l) l))
asks forecast l = common l

-- ---- what a call does

-- the frame layer's call that it comes to; key, read, forecast and a write of length 0 change no frame
unfoldable pub frame_call : Call → Lent → FrameCall
frame_call (start m) l = frames.start m
frame_call (on o c) l = frames.change (call_frames o c l)
frame_call snapshot l = frames.snapshot
frame_call page_out l = frames.page_out
frame_call advance l = frames.advance (passed_of l)
frame_call forecast l = frames.change []

-- what it answers where it is done (without a place, 21 or 9 has refused it), and where it is refused
unfoldable pub done_answer : Call → Lent → Answer
done_answer (start m) l = done
done_answer (on o c) l = at_place (page_refusal c 9) (address_of l o) (λ p. page_answer c (present_page l p))
done_answer snapshot l = done
done_answer page_out l = answered (frames.done_answer frames.page_out l)
done_answer advance l = answered (frames.done_answer (frames.advance (passed_of l)) l)
done_answer forecast l = foretold (sums.forecast (over l) (meaning_of l))

unfoldable pub refusal : Call → ℕ → Answer
refusal (start m) k = refused k
refusal (on o c) k = page_refusal c k
refusal snapshot k = refused k
refusal page_out k = refused k
refusal advance k = refused k
refusal forecast k = refused k

-- number, answer, the block that it writes and the state that it leaves
abbrev pub outcome : Call → Lent → Outcome Answer
outcome c l = outcome_of (first_no (asks c l)) (done_answer c l) (refusal c (first_no (asks c l))) (frames.done_write (frame_call c l) l) (frames.after (frame_call c l) l)

-- THE PROMISE of the calls but format: of a call c that was lent l, answers a and leaves l'. Refused, it leaves all as lent, start the record of zeros.
abbrev pub Kept : Call → Lent → Answer → Lent → Type 0
Kept c l a l' = Keeps (outcome c l) (frames.handed_back (frame_call c l) l) l a l'

-- ---- format, which takes no record

-- its ranges come as numbers, first OID and n of each in turn; a number left over is no range
abbrev pub ranges_in : List ℕ → List Range
ranges_in numbers = ranges_of numbers (length numbers / 2)

unfoldable pub format_asks : ℕ → List ℕ → List ℕ → List Question
format_asks area numbers c = ask 3 (whole 11 65536 (length c)) ∷ ask 5 (eqb (length numbers % 2) 0 && geometry_fits (length c / 512) area (ranges_in numbers)) ∷ []

-- THE PROMISE of format: done, or refused and the card as it was
pub record FormatKept (area : ℕ) (numbers before : List ℕ) (a : Answer) (card : List ℕ) : Type 0 where
  pub answer_is : a ≡ answered (numbered (first_no (format_asks area numbers before)))
  pub card_is : card ≡ cond (eqb (first_no (format_asks area numbers before)) 0) (format_card area (ranges_in numbers) before) before

-- ---- what the parts of the calls promise

-- the place of an OID by a record's area and ranges
abbrev pub place_in : Geometry → ℕ → Lookup
place_in g oid = locate (ranges_of g.ranges g.count) (1 + g.area) oid

-- whether migration passes over a frame; how many entries are home or passed over; with a snapshot pending, how many are
-- to be copied. Memory does not matter
abbrev pub OverIs : Store → List ℕ → ℕ → Bool → Type 0
OverIs s card f r = (memory : List ℕ) → r ≡ over (frames.lent s memory card) f

abbrev pub PassedIs : Store → List ℕ → ℕ → Type 0
PassedIs s card n = (memory : List ℕ) → n ≡ passed_of (frames.lent s memory card)

abbrev pub MovesIs : Store → List ℕ → ℕ → Type 0
MovesIs s card n = (memory : List ℕ) → 0 < s.pending.count → n ≡ moves_left (over (frames.lent s memory card)) (meaning_of (frames.lent s memory card))

-- a page that a call names by its OID: the number of question 21 or 9, or its place
pub record NamedIs (g : Geometry) (oid : ℕ) (r : Result Address Refusal) : Type 0 where
  pub refusal_is : told r ≡ first_no (placed (place_in g oid) (λ p. []))
  pub place_is : IfOk r (λ p. place_in g oid ≡ Located p)
  pub entry_high : IfOk r (λ p. p.entry < 102)

-- 1 to 3, 21 and 9 are passed: the page's place, and the bytes of its pot
pub record PotFound (l : Lent) (oid : ℕ) (p : Address) (pot : List ℕ) : Type 0 where
  pub passed : first_no (common l) ≡ 0
  pub place_is : address_of l oid ≡ Located p
  pub pot_is : pot ≡ present_frames l p.pot
  pub entry_high : p.entry < 102
