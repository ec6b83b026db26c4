-- What C gets, number by number. The definitions stand in the contracts and in demands 2 and 3 of the linked calls, so
-- that fields told in each other's place would be so on both sides; here they are refused.
-- Assumes nothing.
use Prim.Native.Nat.{ℕ}
use mathlib.Core.List.{List}
use mathlib.Core.Path.{◌≡◌, refl}
use Rattle.std.specs.Prelude.{Ok, Err}
use Rattle.card.specs.declared.refusal.Refusal.TheVariants.{Card, Outside, NoneDue}
use Rattle.frames.specs.declared.answer.Advance.TheVariants.{P, D, T, M, H, F}
use Rattle.linked.specs.Demands.{refusal_of}
use Rattle.linked.specs.Linked.{filling, present, foretelling, report, present_of, foretold_of, report_of, kind_number, number_of, count_of, advances_of, bytes_of, kind_of, block_of, page_reply, reply_of}
use Rattle.linked.specs.declared.answer.Foretold.{Foretold}
use Rattle.linked.specs.declared.answer.Present.{Present}
use Rattle.linked.specs.declared.answer.Report.{Report}
use Rattle.pages.specs.Call.{PageCall, key, read, write, rescind, Call, start, on, snapshot, page_out, advance, forecast, refused, counted, filled, wrote, foretold, page_answer, page_refusal}
use Rattle.pages.specs.Page.{Page}
use Rattle.pages.specs.Promise.{refusal}
use Rattle.recovery.specs.Step.{page, header, flush}

abbrev reported : (kind refusal block : ℕ) → Report
reported k r b = record { kind = k; refusal = r; block = b }

abbrev told : (refusal count : ℕ) → Present
told r c = record { refusal = r; count = c }

abbrev ahead : (refusal advances : ℕ) → Foretold
ahead r n = record { refusal = r; advances = n }

-- the structs: each kind with block 9, F with block 0, a refusal; a count and a refused key; a forecast and a refused one
pub report_fields : (report_of (Ok (P 9)) ≡ reported 1 0 9) × (report_of (Ok (D 9)) ≡ reported 2 0 9) × (report_of (Ok (T 9)) ≡ reported 3 0 9)
    × (report_of (Ok (M 9)) ≡ reported 4 0 9) × (report_of (Ok (H 0)) ≡ reported 5 0 0) × (report_of (Ok (F 0)) ≡ reported 6 0 0)
    × (report_of (Err NoneDue) ≡ reported 0 20 0)
report_fields = (refl, refl, refl, refl, refl, refl, refl)

pub present_fields : (present_of (Ok 7) ≡ told 0 7) × (present_of (Err Outside) ≡ told 9 0)
present_fields = (refl, refl)

pub foretold_fields : (foretold_of (Ok 8) ≡ ahead 0 8) × (foretold_of (Err Card) ≡ ahead 3 0)
foretold_fields = (refl, refl)

-- the replies of the two demands
pub replies-told : (reply_of page_out (wrote page 9) ≡ report 1 0 9) × (reply_of advance (wrote header 0) ≡ report 5 0 0)
    × (reply_of advance (wrote flush 0) ≡ report 6 0 0) × (reply_of advance (refused 20) ≡ report 0 20 0)
    × (reply_of (on 100 key) (counted 7) ≡ present 0 7) × (reply_of (on 100 key) (refused 9) ≡ present 9 0)
    × (reply_of forecast (foretold 8) ≡ foretelling 0 8) × (reply_of forecast (refused 3) ≡ foretelling 3 0)
unfolding reply_of page_reply kind_of kind_number number_of count_of advances_of block_of
replies-told = (refl, refl, refl, refl, refl, refl, refl, refl)

-- ---- of every call

-- refused, it replies the number of the first "no"
page_refused : (c : PageCall) (n : ℕ) → refusal_of (page_reply c (page_refusal c n)) ≡ n
unfolding page_reply page_refusal number_of
page_refused key n = refl
page_refused (read k x) n = refl
page_refused (write k at new) n = refl
page_refused (rescind k) n = refl

pub refused_number : (c : Call) (n : ℕ) → refusal_of (reply_of c (refusal c n)) ≡ n
unfolding reply_of refusal number_of
refused_number (start m) n = refl
refused_number (on o c) n = page_refused c n
refused_number snapshot n = refl
refused_number page_out n = refl
refused_number advance n = refl
refused_number forecast n = refl

-- done, a call on a page replies 0
pub page_done : (c : PageCall) (x : Page) → refusal_of (page_reply c (page_answer c x)) ≡ 0
unfolding page_reply page_answer number_of
page_done key x = refl
page_done (read k y) x = refl
page_done (write k at new) x = refl
page_done (rescind k) x = refl

-- a read that is refused leaves its buffer, one that is done has its bytes there
pub read_replies : (o k n : ℕ) (x y : List ℕ) → (reply_of (on o (read k x)) (refusal (on o (read k x)) n) ≡ filling n x) × (reply_of (on o (read k x)) (filled 0 y) ≡ filling 0 y)
unfolding reply_of page_reply refusal page_refusal number_of bytes_of
read_replies o k n x y = (refl, refl)
