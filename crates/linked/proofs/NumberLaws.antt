-- The answers of the by-value calls in numbers.
-- Assumes nothing.
use Prim.Native.Nat.{ℕ}
use borrow.Author.Tests.{eqb-true}
use lib.Dec.{eqb}
use mathlib.Core.List.{List}
use mathlib.Core.Path.{◌≡◌, refl, ap, sym, ◌∙◌}
use Rattle.std.specs.Prelude.{Result, Ok, Err}
use Rattle.card.proofs.Test.{by_test}
use Rattle.card.specs.declared.refusal.Refusal.{Refusal}
use Rattle.frames.specs.Promise.{Lent, FrameAnswer, numbered, written, reported}
use Rattle.frames.specs.declared.answer.Advance.{Advance}
use Rattle.frames.specs.declared.answer.Advance.TheVariants.{P, D, T, M, H, F}
use Rattle.linked.specs.Linked.{number, filling, present, foretelling, report, present_of, foretold_of, report_of, kind_number, number_of, count_of, advances_of, bytes_of, kind_of, block_of, page_reply, reply_of, Linked}
use Rattle.linked.specs.declared.answer.Foretold.{Foretold}
use Rattle.linked.specs.declared.answer.Present.{Present}
use Rattle.linked.specs.declared.answer.Report.{Report}
use Rattle.pages.specs.Call.{key, read, write, rescind, Call, start, on, snapshot, page_out, advance, forecast, filled}
use Rattle.pages.specs.Promise.{answered, counted_as, foretold_as, Kept}

-- ---- each kind of answer

as_number : (n : ℕ) → n ≡ number_of (answered (numbered n))
unfolding answered numbered number_of
as_number n = by_test (λ (a : FrameAnswer). n ≡ number_of (answered a)) (eqb n 0) (λ e. eqb-true n 0 e) (λ e. refl)

as_present : (c : Result ℕ Refusal) → present (present_of c).refusal (present_of c).count ≡ present (number_of (counted_as c)) (count_of (counted_as c))
unfolding counted_as number_of count_of
as_present (Ok n) = refl
as_present (Err n) = refl

as_foretold : (f : Result ℕ Refusal) → foretelling (foretold_of f).refusal (foretold_of f).advances ≡ foretelling (number_of (foretold_as f)) (advances_of (foretold_as f))
unfolding foretold_as number_of advances_of
as_foretold (Ok n) = refl
as_foretold (Err n) = refl

as_report : (a : Result Advance Refusal) → report (report_of a).kind (report_of a).refusal (report_of a).block ≡ reply_of advance (answered (reported a))
unfolding reply_of reported written answered kind_of kind_number number_of block_of
as_report (Ok (P b)) = refl
as_report (Ok (D b)) = refl
as_report (Ok (T b)) = refl
as_report (Ok (M b)) = refl
as_report (Ok (H b)) = refl
as_report (Ok (F b)) = refl
as_report (Err n) = refl

-- ---- a kept promise, linked

-- of a call that replies a number alone
linked_number : (c : Call) (l l' : Lent) (n : ℕ) → reply_of c (answered (numbered n)) ≡ number (number_of (answered (numbered n))) → Kept c l (answered (numbered n)) l' → Linked c l (number n) l'
linked_number c l l' n alone k = record { answer = _; in_numbers = ap number (as_number n) ∙ sym alone; kept = k }

module _ (l l' : Lent) (n : ℕ) where
  pub linked_start : (m : List ℕ) → Kept (start m) l (answered (numbered n)) l' → Linked (start m) l (number n) l'
  unfolding reply_of
  linked_start m k = linked_number (start m) l l' n refl k

  pub linked_write : (o c at : ℕ) (new : List ℕ) → Kept (on o (write c at new)) l (answered (numbered n)) l' → Linked (on o (write c at new)) l (number n) l'
  unfolding reply_of page_reply
  linked_write o c at new k = linked_number (on o (write c at new)) l l' n refl k

  pub linked_rescind : (o c : ℕ) → Kept (on o (rescind c)) l (answered (numbered n)) l' → Linked (on o (rescind c)) l (number n) l'
  unfolding reply_of page_reply
  linked_rescind o c k = linked_number (on o (rescind c)) l l' n refl k

  pub linked_snapshot : Kept snapshot l (answered (numbered n)) l' → Linked snapshot l (number n) l'
  unfolding reply_of
  linked_snapshot k = linked_number snapshot l l' n refl k

pub linked_read : (o k : ℕ) (x : List ℕ) (l l' : Lent) (n : ℕ) (b : List ℕ) → Kept (on o (read k x)) l (filled n b) l' → Linked (on o (read k x)) l (filling n b) l'
unfolding reply_of page_reply number_of bytes_of
linked_read o k x l l' n b p = record { answer = _; in_numbers = refl; kept = p }

pub linked_key : (o : ℕ) (l l' : Lent) (a : Result ℕ Refusal) (r : Present) → r ≡ present_of a → Kept (on o key) l (counted_as a) l' → Linked (on o key) l (present r.refusal r.count) l'
unfolding reply_of page_reply
linked_key o l l' a r e k = record { answer = _; in_numbers = ap (λ (x : Present). present x.refusal x.count) e ∙ as_present a; kept = k }

pub linked_forecast : (l l' : Lent) (f : Result ℕ Refusal) (r : Foretold) → r ≡ foretold_of f → Kept forecast l (foretold_as f) l' → Linked forecast l (foretelling r.refusal r.advances) l'
unfolding reply_of
linked_forecast l l' f r e k = record { answer = _; in_numbers = ap (λ (x : Foretold). foretelling x.refusal x.advances) e ∙ as_foretold f; kept = k }

-- of a call that reports a block
linked_report : (c : Call) (l l' : Lent) (a : Result Advance Refusal) (r : Report) → reply_of c (answered (reported a)) ≡ reply_of advance (answered (reported a)) → r ≡ report_of a
    → Kept c l (answered (reported a)) l' → Linked c l (report r.kind r.refusal r.block) l'
linked_report c l l' a r writes e k = record { answer = _; in_numbers = ap (λ (x : Report). report x.kind x.refusal x.block) e ∙ (as_report a ∙ sym writes); kept = k }

module _ (l l' : Lent) (a : Result Advance Refusal) (r : Report) (e : r ≡ report_of a) where
  pub linked_page_out : Kept page_out l (answered (reported a)) l' → Linked page_out l (report r.kind r.refusal r.block) l'
  unfolding reply_of
  linked_page_out k = linked_report page_out l l' a r refl e k

  pub linked_advance : Kept advance l (answered (reported a)) l' → Linked advance l (report r.kind r.refusal r.block) l'
  unfolding reply_of
  linked_advance k = linked_report advance l l' a r refl e k
