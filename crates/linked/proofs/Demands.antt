-- DEMANDS 2 AND 3 of the linked calls, and that their forecast holds, carried over from the by-value ones: a linked call
-- keeps the by-value call's promise.
-- Assumes nothing.
use Prim.Native.Nat.{ℕ, zero, suc, ◌-◌, ◌<◌}
use borrow.Author.Tests.{eqb-true, eqb-false, ne_eqb}
use lib.Dec.{eqb}
use lib.ListN.{length, get_or}
use mathlib.Core.Bool.{true, false, cond, false≢true}
use mathlib.Core.List.{List, [], ◌∷◌}
use mathlib.Core.Logic.{◌≢◌}
use mathlib.Core.Path.{◌≡◌, refl, ap, sym, subst, ◌∙◌}
use native.Mathlib.Omega.{arith}
use Rattle.card.proofs.Test.{by_test}
use Rattle.card.specs.Question.{first_no}
use Rattle.frames.specs.Promise.{Lent, lent, numbered}
use Rattle.linked.specs.Demands.{LinkedCalls, finished, next, replies, LinkedDemand2, LinkedRun, ended, calls, cuts, LinkedRecovers, LinkedDemand3, LinkedDemand3Spoilt, refusal_of, LinkedMayStand, LinkedUndisturbed, LinkedForeseen, LinkedForecastHolds}
use Rattle.linked.specs.Linked.{Reply, number, filling, present, foretelling, report, kind_number, number_of, count_of, advances_of, bytes_of, kind_of, block_of, page_reply, reply_of}
use Rattle.pages.proofs.AnswerLaws.{Later}
use Rattle.pages.proofs.Demand2.{demand_2}
use Rattle.pages.proofs.Demand3.{demand_3, demand_3_spoilt}
use Rattle.pages.proofs.ForecastHolds.{forecast_holds}
use Rattle.pages.specs.Book.{Event, is_done, is_header, is_flush}
use Rattle.pages.specs.Call.{key, read, write, rescind, Call, start, on, snapshot, page_out, advance, forecast, Answer, refused, done, counted, filled, wrote, foretold}
use Rattle.pages.specs.Demand2 as by_value_2
use Rattle.pages.specs.Demand3 as by_value
use Rattle.pages.specs.Demand3.{World, Run}
use Rattle.pages.specs.ForecastHolds.{MayStand, Undisturbed, of_advance, advances, Foreseen}
use Rattle.pages.specs.Promise.{asks, done_answer, refusal, answered, Kept}
use Rattle.record.specs.Meaning.{zero_store}
use Rattle.recovery.specs.Step.{page, directory, trailer, migration, header, flush}
use Rattle.recovery.specs.Write.{Adversary, Left, Spoilt}

-- ---- the parts of a reply

abbrev first_of : Reply → ℕ
first_of (number n) = n
first_of (filling n b) = n
first_of (present r c) = r
first_of (report k r b) = k
first_of (foretelling r n) = r

abbrev second_of : Reply → ℕ
second_of (number n) = 0
second_of (filling n b) = 0
second_of (present r c) = c
second_of (report k r b) = r
second_of (foretelling r n) = n

abbrev buffer_of : Reply → List ℕ
buffer_of (number n) = []
buffer_of (filling n b) = b
buffer_of (present r c) = []
buffer_of (report k r b) = []
buffer_of (foretelling r n) = []

-- a start that replies 0 is done
started : (m : List ℕ) (l l' : Lent) (a : Answer) → number 0 ≡ reply_of (start m) a → Kept (start m) l a l' → a ≡ done
unfolding reply_of number_of done_answer refusal
started m l l' a e k =
    let n = first_no (asks (start m) l) in
    let zero : 0 ≡ number_of (cond (eqb n 0) done (refused n)) = ap first_of e ∙ ap number_of k.answer_is in
    k.answer_is ∙ by_test (λ (x : Answer). 0 ≡ number_of x → x ≡ done) (eqb n 0) (λ y z. refl) (λ y z. absurd (eqb-false n 0 y (sym z))) zero

-- ---- demand 2

abbrev answers : (cs : List Call) (rs : List Reply) (l l' : Lent) → LinkedCalls cs l rs l' → List Answer
answers _ _ _ _ (finished l) = []
answers _ _ _ _ (next c cs r rs l l₁ l₂ k ks) = k.answer ∷ answers cs rs l₁ l₂ ks

promised : (cs : List Call) (rs : List Reply) (l l' : Lent) (ks : LinkedCalls cs l rs l') → by_value_2.Calls cs l (answers cs rs l l' ks) l'
promised _ _ _ _ (finished l) = by_value_2.finished l
promised _ _ _ _ (next c cs r rs l l₁ l₂ k ks) = by_value_2.next c cs _ _ l l₁ l₂ k.kept (promised cs rs l₁ l₂ ks)

replied : (cs : List Call) (rs : List Reply) (l l' : Lent) (ks : LinkedCalls cs l rs l') → rs ≡ replies cs (answers cs rs l l' ks)
unfolding replies
replied _ _ _ _ (finished l) = refl
replied _ _ _ _ (next c cs r rs l l₁ l₂ k ks) = λ i. k.in_numbers i ∷ replied cs rs l₁ l₂ ks i

pub linked_demand_2 : LinkedDemand2
linked_demand_2 m card l₀ k cs later rs l ks =
    let from = subst (λ (a : Answer). Kept (start m) (lent zero_store m card) a l₀) (started m _ l₀ k.answer k.in_numbers k.kept) k.kept in
    let p = demand_2 m card l₀ from cs later (answers cs rs l₀ l ks) l (promised cs rs l₀ l ks) in
    (replied cs rs l₀ l ks ∙ ap (replies cs) p.0, p.1)

-- ---- demand 3

run : (A : Adversary) (es : List Event) (u w : World) → LinkedRun A es u w → Run A es u w
run A _ _ _ (ended w) = by_value.ended w
run A _ _ _ (calls c r es u w l l' e k ks) = by_value.then _ es u _ w (by_value.calls c k.answer u l l' e k.kept) (run A es _ w ks)
run A _ _ _ (cuts e es u v w is s ks) = by_value.then e es u v w s (run A es v w ks)

-- of any drive of which the by-value calls recover
linked_recovers : (A : Adversary) → by_value.Recovers A → LinkedRecovers A
unfolding numbered answered reply_of page_reply number_of count_of bytes_of
linked_recovers A recovers area numbers before card f v e es w ks m long n l k =
    let d = recovers area numbers before card f v e es w (run A es _ w ks) m long k.answer l k.kept in (
      ap first_of k.in_numbers ∙ ap number_of d.0,
      d.1,
      λ oid of refusal count number before after l₁ l₂ full key read.
          let s = d.2 oid of key.answer read.answer l₁ l₂ before full key.kept read.kept in (
            ap first_of key.in_numbers ∙ ap number_of s.0,
            ap second_of key.in_numbers ∙ ap count_of s.0,
            ap first_of read.in_numbers ∙ ap number_of s.1,
            ap buffer_of read.in_numbers ∙ ap bytes_of s.1,
          ),
    )

pub linked_demand_3 : LinkedDemand3
linked_demand_3 = linked_recovers Left demand_3

pub linked_demand_3_spoilt : LinkedDemand3Spoilt
linked_demand_3_spoilt = linked_recovers Spoilt demand_3_spoilt

-- ---- the forecast holds

-- what numbers tell of an answer: refused; H; F
refused_told : (a : Answer) → number_of a ≢ 0 → is_done a ≡ false
unfolding number_of is_done
refused_told (refused n) z = refl
refused_told done z = absurd (z refl)
refused_told (counted n) z = absurd (z refl)
refused_told (filled n x) z = ne_eqb n 0 z
refused_told (wrote k n) z = absurd (z refl)
refused_told (foretold n) z = absurd (z refl)

done-told : (a : Answer) → is_done a ≡ true → number_of a ≡ 0
unfolding number_of is_done
done-told (refused n) e = absurd (false≢true e)
done-told done e = refl
done-told (counted n) e = refl
done-told (filled n x) e = eqb-true n 0 e
done-told (wrote k n) e = refl
done-told (foretold n) e = refl

header_told : (a : Answer) → is_header a ≡ eqb (kind_of a) 5
unfolding is_header kind_of kind_number
header_told (refused n) = refl
header_told done = refl
header_told (counted n) = refl
header_told (filled n x) = refl
header_told (wrote page n) = refl
header_told (wrote directory n) = refl
header_told (wrote trailer n) = refl
header_told (wrote migration n) = refl
header_told (wrote header n) = refl
header_told (wrote flush n) = refl
header_told (foretold n) = refl

flush_told : (a : Answer) → is_flush a ≡ true → kind_of a ≡ 6
unfolding is_flush kind_of kind_number
flush_told (refused n) e = absurd (false≢true e)
flush_told done e = absurd (false≢true e)
flush_told (counted n) e = absurd (false≢true e)
flush_told (filled n x) e = absurd (false≢true e)
flush_told (wrote page n) e = absurd (false≢true e)
flush_told (wrote directory n) e = absurd (false≢true e)
flush_told (wrote trailer n) e = absurd (false≢true e)
flush_told (wrote migration n) e = absurd (false≢true e)
flush_told (wrote header n) e = absurd (false≢true e)
flush_told (wrote flush n) e = refl
flush_told (foretold n) e = absurd (false≢true e)

foreseen-told : (n i : ℕ) (a : Answer) → Foreseen n i a → LinkedForeseen n i (reply_of advance a)
unfolding reply_of
foreseen-told n i a f = (
  kind_of a,
  block_of a,
  ap (λ (r : ℕ). report (kind_of a) r (block_of a)) (done-told a f.is_done_lem),
  sym (header_told a) ∙ f.is_header_lem,
  λ e. flush_told a (f.is_flush_lem e),
)

-- a forecast that replies 0 is done, and a snapshot that replies 16 is refused it
forecasts : (l l' : Lent) (a : Answer) → Kept forecast l a l' → number_of a ≡ 0 → a ≡ foretold (advances_of a)
unfolding done_answer refusal number_of advances_of
forecasts l l' a k = subst (λ (x : Answer). number_of x ≡ 0 → x ≡ foretold (advances_of x)) (sym k.answer_is)
    (by_test (λ (x : Answer). number_of x ≡ 0 → x ≡ foretold (advances_of x)) (eqb (first_no (asks forecast l)) 0) (λ y z. refl) (λ y z. absurd (eqb-false _ 0 y z)))

marks : (l l' : Lent) (a : Answer) → Kept snapshot l a l' → number_of a ≡ 16 → a ≡ refused 16
unfolding done_answer refusal number_of
marks l l' a k = subst (λ (x : Answer). number_of x ≡ 16 → x ≡ refused 16) (sym k.answer_is)
    (by_test (λ (x : Answer). number_of x ≡ 16 → x ≡ refused 16) (eqb (first_no (asks snapshot l)) 0) (λ y z. absurd (omega (arith, z))) (λ y z. ap refused z))

-- what stands among the advances
stands_told : (c : Call) (a : Answer) → LinkedMayStand c (reply_of c a) → MayStand c a
unfolding reply_of
stands_told (start m) a k = k
stands_told (on o c) a k = tt
stands_told snapshot a k = refused_told a k
stands_told page_out a k = refused_told a k
stands_told advance a k = tt
stands_told forecast a k = tt

-- and no less than is said: every refused call but a start, and six calls whatever they reply
pub linked_refused_stands : (c : Call) (r : Reply) → Later c → refusal_of r ≢ 0 → LinkedMayStand c r
linked_refused_stands (start m) r l z = absurd l
linked_refused_stands (on o c) r l z = tt
linked_refused_stands snapshot r l z = z
linked_refused_stands page_out r l z = z
linked_refused_stands advance r l z = tt
linked_refused_stands forecast r l z = tt

pub linked_six_stand : (o n at : ℕ) (x new : List ℕ) (r : Reply)
    → LinkedMayStand (on o key) r × LinkedMayStand (on o (read n x)) r × LinkedMayStand (on o (write n at new)) r × LinkedMayStand (on o (rescind n)) r × LinkedMayStand advance r × LinkedMayStand forecast r
linked_six_stand o n at x new r = (tt, tt, tt, tt, tt, tt)

undisturbed : (ds : List Call) (rs : List Reply) (l l' : Lent) (ks : LinkedCalls ds l rs l') → LinkedUndisturbed ds rs → Undisturbed ds (answers ds rs l l' ks)
undisturbed _ _ _ _ (finished l) q = tt
undisturbed _ _ _ _ (next c cs r rs l l₁ l₂ k ks) q = (stands_told c k.answer (subst (LinkedMayStand c) k.in_numbers q.0), undisturbed cs rs l₁ l₂ ks q.1)

-- the advances alone, in numbers
abbrev reports : List Answer → List Reply
reports [] = []
reports (a ∷ as') = reply_of advance a ∷ reports as'

one_report : (c : Call) (a : Answer) (as' : List Answer) → of_advance c (reply_of c a) (reports as') ≡ reports (of_advance c a as')
one_report (start m) a as' = refl
one_report (on o c) a as' = refl
one_report snapshot a as' = refl
one_report page_out a as' = refl
one_report advance a as' = refl
one_report forecast a as' = refl

reports_are : (ds : List Call) (as' : List Answer) → advances ds (replies ds as') ≡ reports (advances ds as')
unfolding advances replies
reports_are [] as' = refl
reports_are (c ∷ cs) [] = refl
reports_are (c ∷ cs) (a ∷ as') = ap (of_advance c (reply_of c a)) (reports_are cs as') ∙ one_report c a (advances cs as')

reports_long : (as' : List Answer) → length (reports as') ≡ length as'
reports_long [] = refl
reports_long (a ∷ as') = ap suc (reports_long as')

report_at : (as' : List Answer) (i : ℕ) → i < length as' → get_or (reports as') i (number 0) ≡ reply_of advance (get_or as' i done)
report_at [] i h = absurd (omega (arith, h))
report_at (a ∷ as') zero h = refl
report_at (a ∷ as') (suc i) h = report_at as' i (omega (arith, h))

module _ (ds : List Call) (rs : List Reply) (l l' : Lent) (ks : LinkedCalls ds l rs l') where
  all_reports : advances ds rs ≡ reports (advances ds (answers ds rs l l' ks))
  all_reports = ap (advances ds) (replied ds rs l l' ks) ∙ reports_are ds (answers ds rs l l' ks)

  all_long : length (advances ds rs) ≡ length (advances ds (answers ds rs l l' ks))
  all_long = ap length all_reports ∙ reports_long (advances ds (answers ds rs l l' ks))

  all_foreseen : (n i : ℕ) → i < length (advances ds (answers ds rs l l' ks)) → Foreseen n i (get_or (advances ds (answers ds rs l l' ks)) i done) → LinkedForeseen n i (get_or (advances ds rs) i (number 0))
  all_foreseen n i h f = subst (LinkedForeseen n i) (sym (ap (λ (x : List Reply). get_or x i (number 0)) all_reports ∙ report_at (advances ds (answers ds rs l l' ks)) i h)) (foreseen-told n i _ f)

pub linked_forecast_holds : LinkedForecastHolds
unfolding reply_of
linked_forecast_holds m card l₀ k cs late rs₁ l ks n l₁ f =
    let from = subst (λ (a : Answer). Kept (start m) (lent zero_store m card) a l₀) (started m _ l₀ k.answer k.in_numbers k.kept) k.kept in
    let told : f.answer ≡ foretold n = forecasts l l₁ f.answer f.kept (sym (ap first_of f.in_numbers)) ∙ ap foretold (sym (ap second_of f.in_numbers)) in
    let h = forecast_holds m card l₀ from cs late (answers cs rs₁ l₀ l ks) l (promised cs rs₁ l₀ l ks) n l₁ (subst (λ (a : Answer). Kept forecast l a l₁) told f.kept) in (
      (λ r l' s. (
        (λ two. ap first_of s.in_numbers ∙ ap number_of ((h.0 s.answer l' s.kept).0 two) ∙ sixteen),
        (λ e. (h.0 s.answer l' s.kept).1 (marks l₁ l' s.answer s.kept (sym (ap first_of s.in_numbers) ∙ e))),
      )),
      (λ ds rs₂ l₂ js q.
          let as₂ = answers ds rs₂ l₁ l₂ js in
          let u = h.1 ds as₂ l₂ (promised ds rs₂ l₁ l₂ js) (undisturbed ds rs₂ l₁ l₂ js q) in (
            (λ i low there.
                let inside : i < length (advances ds as₂) = omega (arith, there, all_long ds rs₂ l₁ l₂ js) in
                all_foreseen ds rs₂ l₁ l₂ js n i inside (u.0 i low inside)),
            (λ few r j l' g.
                let a-is = u.1 (omega (arith, few, all_long ds rs₂ l₁ l₂ js)) g.answer l' g.kept in (
                  ap first_of g.in_numbers ∙ ap number_of a-is ∙ zero_told _,
                  ap second_of g.in_numbers ∙ ap advances_of a-is ∙ told_is _ ∙ ap (λ (x : ℕ). n - x) (sym (all_long ds rs₂ l₁ l₂ js)),
                )),
          )),
    )
  where
    sixteen : number_of (refused 16) ≡ 16
    sixteen = unfold number_of in refl

    zero_told : (x : ℕ) → number_of (foretold x) ≡ 0
    zero_told x = unfold number_of in refl

    told_is : (x : ℕ) → advances_of (foretold x) ≡ x
    told_is x = unfold advances_of in refl
