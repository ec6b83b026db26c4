-- THE FORECAST HOLDS, by demand 2's machine: what it has still to make until the pending snapshot is safe is a list; an
-- advance reports its first kind and leaves the rest, and every other call of the claim leaves it.
-- Assumes nothing.
use Prim.Native.Nat.{ℕ, zero, suc, ◌+◌, ◌≤◌, ◌<◌}
use borrow.Author.Tests.{eq-eqb, ne_eqb}
use lib.Dec.{eqb}
use lib.ListN.{length, get_or}
use mathlib.Core.Bool.{Bool, true, false, cond, false≢true}
use mathlib.Core.List.{List, [], ◌∷◌}
use mathlib.Core.Logic.{◌≢◌}
use mathlib.Core.Option.{some}
use mathlib.Core.Path.{◌≡◌, refl, ap, sym, ◌∙◌, subst}
use native.Mathlib.Decide.{ℕ_discrete}
use native.Mathlib.Omega.{arith}
use Rattle.card.proofs.QuestionLaws.{none_asked, asked_yes, asked_no}
use Rattle.card.proofs.Test.{by_test}
use Rattle.card.specs.Question.{ask, first_no}
use Rattle.card.specs.Range.{Range, all_blocks}
use Rattle.frames.specs.Promise.{Lent, advanced}
use Rattle.pages.proofs.AnswerLaws.{Later}
use Rattle.pages.proofs.Demand2 as demand
use Rattle.pages.proofs.LedgerLaws.{none_pending, kind_phase}
use Rattle.pages.proofs.PlainLaws.{InStep}
use Rattle.pages.specs.Book.{is_done, is_header, is_flush}
use Rattle.pages.specs.Call.{key, read, write, rescind, Call, start, on, snapshot, page_out, advance, forecast, Answer, refused, done, wrote, foretold, edits}
use Rattle.pages.specs.Change.{Edit}
use Rattle.pages.specs.Demand2.{NoStart, Calls, finished, next}
use Rattle.pages.specs.ForecastHolds.{MayStand, Undisturbed, of_advance, advances, Foreseen, ForecastHolds}
use Rattle.pages.specs.Plain.{Plain, blank_generation, blank, phase_after, ledger_of, is_none, plain_over, plain_past, plain_asks, PlainOutcome, plain_edits, plain_advance, plain_kind, plain_done, plain_does}
use Rattle.pages.specs.Promise.{refusal, Kept}
use Rattle.recovery.proofs.ForecastLaws as laws
use Rattle.recovery.proofs.SumLaws.{same_due, given-first}
use Rattle.recovery.specs.Questions.{given}
use Rattle.recovery.specs.State.{entry_count, empty, is_owed}
use Rattle.recovery.specs.Step.{Kind, page, directory, trailer, migration, header, flush, after_change, after_kind, advance_due}
use Rattle.recovery.specs.Sums as sums

-- what the machine has still to make until the pending snapshot is safe, and how many that are
abbrev listed : Plain → List Kind
listed t = sums.commit_writes (plain_over t) (ledger_of t)

abbrev foreseen : Plain → ℕ
foreseen t = sums.forecast (plain_over t) (ledger_of t)

long_is : (t : Plain) → foreseen t ≡ length (listed t)
unfolding sums.forecast
long_is t = refl

same_foreseen : (t u : Plain) → listed t ≡ listed u → foreseen t ≡ foreseen u
same_foreseen t u e = long_is t ∙ ap length e ∙ sym (long_is u)

-- ---- kinds and answers

done_kind : (k : Kind) (b : ℕ) → is_done (wrote k b) ≡ true
unfolding is_done
done_kind k b = refl

header_kind : (k : Kind) (b : ℕ) → k ≡ header → is_header (wrote k b) ≡ true
unfolding is_header
header_kind k b e = rw e refl

other_kind : (k : Kind) (b : ℕ) → (k ≡ header → ⊥) → is_header (wrote k b) ≡ false
unfolding is_header
other_kind page b d = refl
other_kind directory b d = refl
other_kind trailer b d = refl
other_kind migration b d = refl
other_kind header b d = absurd (d refl)
other_kind flush b d = refl

flush_kind : (k : Kind) (b : ℕ) → k ≡ flush → is_flush (wrote k b) ≡ true
unfolding is_flush
flush_kind k b e = rw e refl

module _ (t : Plain) where
  -- ---- a call that is no advance

  edits_same : (es : List Edit) → listed t ≡ listed (plain_edits es t)
  unfolding plain_edits after_change
  edits_same [] = refl
  edits_same (e ∷ es) = sym (laws.commit_change (plain_over t) _ (ledger_of t))

  -- every call but advance
  abbrev Other : Call → Type 0
  Other (start m) = Unit {0}
  Other (on u c) = Unit {0}
  Other snapshot = Unit {0}
  Other page_out = Unit {0}
  Other advance = ⊥
  Other forecast = Unit {0}

  done_same : (c : Call) → Other c → MayStand c (plain_done c t).answer → listed t ≡ listed (plain_done c t).next
  unfolding plain_done is_done
  done_same (start m) o k = absurd k
  done_same (on u c) o k = edits_same (edits u c)
  done_same snapshot o k = absurd (false≢true (sym k))
  done_same page_out o k = absurd (false≢true (sym k))
  done_same advance o k = absurd o
  done_same forecast o k = refl

  other_same : (c : Call) → Other c → MayStand c (plain_does c t).answer → listed t ≡ listed (plain_does c t).next
  unfolding plain_does
  other_same c o = by_test (λ (d : PlainOutcome). MayStand c d.answer → listed t ≡ listed d.next) (eqb (first_no (plain_asks c t)) 0) (λ e k. done_same c o k) (λ e k. refl)

  -- ---- an advance, while the forecast is above 0

  module _ (above : 0 < foreseen t) where
    due : (k : Kind) × (advance_due (laws.settled (plain_over t) (ledger_of t)) ≡ some k)
    due = laws.commit_due (plain_over t) (ledger_of t) above

    first_is : sums.first_of (sums.remaining_writes (plain_over t) (ledger_of t)) ≡ some due.0
    first_is = same_due (plain_over t) (ledger_of t) ∙ due.1

    asked : first_no (plain_asks advance t) ≡ 0
    unfolding plain_asks sums.advance_sums
    asked = asked_yes 20 _ [] (sym (given-first (sums.remaining_writes (plain_over t) (ledger_of t))) ∙ ap given first_is) ∙ none_asked

    does_is : plain_does advance t ≡ plain_advance (some due.0) (plain_past t)
    unfolding plain_does plain_done
    does_is = rw (asked, first_is) refl

    -- the same is passed over; behind the header write only a flush is left, whatever is
    same_list : (k : Kind) → sums.commit_writes (plain_over t) (after_kind k (laws.settled (plain_over t) (ledger_of t))) ≡ listed (plain_advance (some k) (plain_past t)).next
    unfolding plain_advance advanced after_kind phase_after
    same_list page = refl
    same_list directory = refl
    same_list trailer = refl
    same_list migration = refl
    same_list header = unfold sums.commit_writes empty in refl
    same_list flush = rw (kind_phase flush (ledger_of t)) refl

    next_is : listed t ≡ due.0 ∷ listed (plain_does advance t).next
    next_is = laws.commit_step (plain_over t) (ledger_of t) above due.0 due.1
        ∙ ap (λ (ks : List Kind). due.0 ∷ ks) (same_list due.0 ∙ ap (λ (d : PlainOutcome). listed d.next) (sym does_is))

    advance_less : foreseen t ≡ suc (foreseen (plain_does advance t).next)
    advance_less = long_is t ∙ ap length next_is ∙ ap suc (sym (long_is (plain_does advance t).next))

    answer_is : (plain_does advance t).answer ≡ wrote due.0 (plain_kind due.0 (plain_past t)).block
    unfolding plain_advance
    answer_is = ap (λ (d : PlainOutcome). d.answer) does_is

    -- it is the first of those foretold
    advance_foreseen : Foreseen (foreseen t) 0 (plain_does advance t).answer
    advance_foreseen = rw answer_is (record {
      is_done_lem = done_kind due.0 _;
      is_header_lem = at_header (ℕ_discrete (foreseen t) 2);
      is_flush_lem = λ e. flush_kind due.0 _ (laws.last_flush (plain_over t) (ledger_of t) above due.0 due.1 (sym e));
    })
      where
        at_header : Dec (foreseen t ≡ 2) → is_header (wrote due.0 (plain_kind due.0 (plain_past t)).block) ≡ eqb 2 (foreseen t)
        at_header (yes e) = header_kind due.0 _ (laws.last_header (plain_over t) (ledger_of t) above due.0 due.1 e) ∙ sym (eq-eqb 2 (foreseen t) (sym e))
        at_header (no d) = other_kind due.0 _ (λ h. d (laws.only_header (plain_over t) (ledger_of t) above due.0 due.1 h)) ∙ sym (ne_eqb 2 (foreseen t) (λ e. d (sym e)))

-- one advance on
foreseen_later : (n i : ℕ) (a : Answer) → Foreseen n i a → Foreseen (suc n) (suc i) a
foreseen_later n i a f = record {
  is_done_lem = f.is_done_lem;
  is_header_lem = f.is_header_lem ∙ shifted (ℕ_discrete (i + 2) n);
  is_flush_lem = λ e. f.is_flush_lem (omega (arith, e));
}
  where
    shifted : Dec (i + 2 ≡ n) → eqb (i + 2) n ≡ eqb (suc i + 2) (suc n)
    shifted (yes e) = eq-eqb (i + 2) n e ∙ sym (eq-eqb (suc i + 2) (suc n) (omega (arith, e)))
    shifted (no d) = ne_eqb (i + 2) n d ∙ sym (ne_eqb (suc i + 2) (suc n) (λ e. d (omega (arith, e))))

-- what may stand is no less than is said: every refused call but a start, and six calls whatever they answer
pub refused_stands : (c : Call) (a : Answer) → Later c → is_done a ≡ false → MayStand c a
refused_stands (start m) a l e = absurd l
refused_stands (on o c) a l e = tt
refused_stands snapshot a l e = e
refused_stands page_out a l e = e
refused_stands advance a l e = tt
refused_stands forecast a l e = tt

pub six_stand : (o n at : ℕ) (x new : List ℕ) (a : Answer)
    → MayStand (on o key) a × MayStand (on o (read n x)) a × MayStand (on o (write n at new)) a × MayStand (on o (rescind n)) a × MayStand advance a × MayStand forecast a
six_stand o n at x new a = (tt, tt, tt, tt, tt, tt)

stands_later : (c : Call) (a : Answer) → MayStand c a → Later c
stands_later (start m) a k = absurd k
stands_later (on o c) a k = tt
stands_later snapshot a k = tt
stands_later page_out a k = tt
stands_later advance a k = tt
stands_later forecast a k = tt

-- ---- lists, with the machine beside what is lent

module _ (rs : List Range) (blocks area : ℕ) (full : blocks ≡ 1 + area + all_blocks rs) where
  abbrev Beside : Lent → Plain → Type 0
  Beside l t = InStep rs blocks area full l t

  beside : (cs : List Call) (l : Lent) (bs : List Answer) (l' : Lent) → Calls cs l bs l' → NoStart cs → (t : Plain) → Beside l t → (u : Plain) × Beside l' u
  beside cs l bs l' (finished x) n t b = (t, b)
  beside cs l bs l' (next c ds a more x y z p rest) n t b =
      let q = demand.one_call rs blocks area full c (demand.later c n.0) x y a p t b in
      beside ds y more z rest n.1 (plain_does c t).next q.2

  -- what is claimed of a list whose advances answer bs
  pub record Holds (t : Plain) (bs : List Answer) (l' : Lent) : Type 0 where
    pub each : (i : ℕ) → i < foreseen t → i < length bs → Foreseen (foreseen t) i (get_or bs i done)
    pub rest : length bs ≤ foreseen t → (u : Plain) × Beside l' u × (foreseen t ≡ length bs + foreseen u)

  -- a call that is no advance before it
  holds_same : (t u : Plain) (bs : List Answer) (l' : Lent) → listed t ≡ listed u → Holds u bs l' → Holds t bs l'
  holds_same t u bs l' e h = record {
    each = λ i low there. subst (λ (n : ℕ). Foreseen n i (get_or bs i done)) (sym (same_foreseen t u e)) (h.each i (omega (arith, low, same_foreseen t u e)) there);
    rest = λ few. let r = h.rest (omega (arith, few, same_foreseen t u e)) in (r.0, r.1, same_foreseen t u e ∙ r.2);
  }

  -- an advance before it
  holds_advance : (t : Plain) (a : Answer) (bs : List Answer) (l' : Lent) → a ≡ (plain_does advance t).answer → Holds (plain_does advance t).next bs l' → Holds t (a ∷ bs) l'
  holds_advance t a bs l' e h = go (ℕ_discrete (foreseen t) 0)
    where
      go : Dec (foreseen t ≡ 0) → Holds t (a ∷ bs) l'
      go (yes z) = record { each = λ i low there. absurd (omega (arith, low, z)); rest = λ few. absurd (omega (arith, few, z)) }
      go (no d) =
          let above : 0 < foreseen t = omega (arith, d) in
          let less = advance_less t above in
          let each : (i : ℕ) → i < foreseen t → i < suc (length bs) → Foreseen (foreseen t) i (get_or (a ∷ bs) i done) = at above less in
          record { each = each; rest = λ few. let r = h.rest (omega (arith, few, less)) in (r.0, r.1, omega (arith, less, r.2)) }
        where
          at : (above : 0 < foreseen t) → foreseen t ≡ suc (foreseen (plain_does advance t).next) → (i : ℕ) → i < foreseen t → i < suc (length bs) → Foreseen (foreseen t) i (get_or (a ∷ bs) i done)
          at above less zero low there = subst (Foreseen (foreseen t) 0) (sym e) (advance_foreseen t above)
          at above less (suc i) low there = subst (λ (n : ℕ). Foreseen n (suc i) (get_or bs i done)) (sym less) (foreseen_later (foreseen (plain_does advance t).next) i (get_or bs i done) (h.each i (omega (arith, low, less)) (omega (arith, there))))

  holds : (ds : List Call) (l : Lent) (bs : List Answer) (l' : Lent) → Calls ds l bs l' → Undisturbed ds bs → (t : Plain) → Beside l t → Holds t (advances ds bs) l'
  unfolding advances
  holds ds l bs l' (finished x) q t b = record { each = λ i low there. absurd (omega (arith, there)); rest = λ few. (t, b, omega arith) }
  holds ds l bs l' (next c es a more x y z p rest) q t b =
      let r = demand.one_call rs blocks area full c (stands_later c a q.0) x y a p t b in
      let h = holds es y more z rest q.1 (plain_does c t).next r.2 in
      let k : MayStand c (plain_does c t).answer = subst (MayStand c) r.0 q.0 in
      one c k r.0 h
    where
      one : (c : Call) → MayStand c (plain_does c t).answer → a ≡ (plain_does c t).answer → Holds (plain_does c t).next (advances es more) z → Holds t (of_advance c a (advances es more)) z
      one (start m) k e h = absurd k
      one (on o c) k e h = holds_same t _ _ z (other_same t (on o c) tt k) h
      one snapshot k e h = holds_same t _ _ z (other_same t snapshot tt k) h
      one page_out k e h = holds_same t _ _ z (other_same t page_out tt k) h
      one advance k e h = holds_advance t a _ z e h
      one forecast k e h = holds_same t _ _ z (other_same t forecast tt k) h

  -- what forecast answers
  does_forecast : (t : Plain) → (plain_does forecast t).answer ≡ foretold (sums.commit_sum (plain_over t) (ledger_of t))
  unfolding plain_does plain_asks plain_done
  does_forecast t = rw none_asked refl

  leaves_forecast : (t : Plain) → (plain_does forecast t).next ≡ t
  unfolding plain_does plain_asks plain_done
  leaves_forecast t = rw none_asked refl

  foretells : (l l' : Lent) (a : Answer) (t : Plain) → Beside l t → Kept forecast l a l' → (a ≡ foretold (foreseen t)) × Beside l' t
  foretells l l' a t b k =
      let q = demand.one_call rs blocks area full forecast tt l l' a k t b in
      (q.0 ∙ does_forecast t ∙ ap foretold (sym (laws.forecast-sum (plain_over t) (ledger_of t))), subst (Beside l') (leaves_forecast t) q.2)

  -- a further snapshot is refused 16 exactly where it is 2 or more
  module _ (l l' : Lent) (a : Answer) (t : Plain) (b : Beside l t) (k : Kept snapshot l a l') where
    abbrev entries : ℕ
    entries = entry_count (ledger_of t).pending

    none_marked : is_none t.frames.marked ≡ eqb entries 0
    unfolding blank blank_generation
    none_marked = b.marked_is ∙ sym (ap none_pending b.ledger_is)

    asked_16 : entries ≢ 0 → first_no (plain_asks snapshot t) ≡ 16
    unfolding plain_asks
    asked_16 z = asked_no 16 (is_none t.frames.marked) _ (none_marked ∙ ne_eqb entries 0 z)

    answer_16 : first_no (plain_asks snapshot t) ≡ 16 → (plain_does snapshot t).answer ≡ refused 16
    unfolding plain_does refusal
    answer_16 e = rw e refl

    number_16 : (plain_does snapshot t).answer ≡ refused 16 → first_no (plain_asks snapshot t) ≡ 16
    unfolding plain_does plain_done refusal
    number_16 = by_test (λ (d : PlainOutcome). d.answer ≡ refused 16 → first_no (plain_asks snapshot t) ≡ 16) (eqb (first_no (plain_asks snapshot t)) 0)
        (λ e h. let y : ◌≡◌ {A = ℕ} 0 1 = cc in absurd (omega (arith, y))) (λ e h. cc)

    passed_16 : entries ≡ 0 → first_no (plain_asks snapshot t) ≡ 16 → ⊥
    unfolding plain_asks
    passed_16 z e = late _ _ (sym (asked_yes 16 (is_none t.frames.marked) _ (none_marked ∙ eq-eqb entries 0 z)) ∙ e)
      where
        late : (x y : Bool) → first_no (ask 17 x ∷ ask 18 y ∷ []) ≡ 16 → ⊥
        late true true h = unfold first_no in (omega (arith, h))
        late true false h = unfold first_no in (omega (arith, h))
        late false y h = unfold first_no in (omega (arith, h))

    answered_is : a ≡ (plain_does snapshot t).answer
    answered_is = (demand.one_call rs blocks area full snapshot tt l l' a k t b).0

    pending_refused : 2 ≤ foreseen t → a ≡ refused 16
    pending_refused two = answered_is ∙ answer_16 (asked_16 (λ z. absurd (omega (arith, two, laws.forecast_none (plain_over t) (ledger_of t) z, few (is_owed t.phase)))))
      where
        few : (x : Bool) → cond x 1 0 ≤ 1
        few true = omega arith
        few false = omega arith

    refused_pending : a ≡ refused 16 → 2 ≤ foreseen t
    refused_pending e = go (ℕ_discrete entries 0)
      where
        go : Dec (entries ≡ 0) → 2 ≤ foreseen t
        go (yes z) = absurd (passed_16 z (number_16 (sym answered_is ∙ e)))
        go (no z) = laws.forecast_two (plain_over t) (ledger_of t) (omega (arith, z))

pub forecast_holds : ForecastHolds
forecast_holds m card l₀ p cs late as₁ l calls n l₁ k =
    let rs = demand.rs m card l₀ p in
    let blocks = demand.blocks m card l₀ p in
    let area = demand.area m card l₀ p in
    let full = demand.full m card l₀ p in
    let at = beside rs blocks area full cs l₀ as₁ l calls late _ (demand.first_step m card l₀ p) in
    let f = foretells rs blocks area full l l₁ (foretold n) at.0 at.1 k in
    let n-is : n ≡ foreseen at.0 = number_is f.0 in (
      (λ a l' s. (
        (λ two. pending_refused rs blocks area full l₁ l' a at.0 f.1 s (omega (arith, two, n-is))),
        (λ e. omega (arith, n-is, refused_pending rs blocks area full l₁ l' a at.0 f.1 s e)),
      )),
      (λ ds as₂ l₂ later q.
          let h = holds rs blocks area full ds l₁ as₂ l₂ later q at.0 f.1 in (
            (λ i low there. subst (λ (j : ℕ). Foreseen j i (get_or (advances ds as₂) i done)) (sym n-is) (h.each i (omega (arith, low, n-is)) there)),
            (λ few a l' r.
                let u = h.rest (omega (arith, few, n-is)) in
                (foretells rs blocks area full l₂ l' a u.0 u.1 r).0 ∙ ap foretold (omega (arith, n-is, u.2))),
          )),
    )
  where
    number_is : {x y : ℕ} → foretold x ≡ foretold y → x ≡ y
    number_is e = cc
