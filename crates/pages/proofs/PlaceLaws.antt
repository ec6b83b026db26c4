-- 21 and 9 (document 02, #101), of every call that names an OID: once 1 to 3 are passed it is refused 21 exactly where
-- the OID lies between two ranges, and 9 exactly where it is below the first or above the last; and the plain machine
-- asks the same in its own words.
-- Assumes nothing.
use Prim.Native.Nat.{ℕ, ◌+◌, ◌≤◌, ◌<◌}
use borrow.Author.Tests.{leb-true, ltb-true, le-leb, lt-ltb}
use lib.Dec.{leb, ltb}
use lib.ListN.{length}
use mathlib.Core.Bool.{true, false, not, ◌&&◌, false≢true, or-true}
use mathlib.Core.List.{List, [], ◌∷◌, ◌++◌}
use mathlib.Core.Logic.{◌≢◌, inl, inr, ⊎_elim}
use mathlib.Core.Path.{◌≡◌, refl, ap, sym, ◌∙◌, subst}
use native.Mathlib.Omega.{arith}
use Rattle.card.proofs.AllLaws.{all_join, all_map}
use Rattle.card.proofs.LookupLaws.{Between, Beyond, Claim, lookup_tells, lookup_is, Touching, touching_no_gap}
use Rattle.card.proofs.QuestionLaws.{asked_yes, asked_no, first_among}
use Rattle.card.proofs.Test.{both, either}
use Rattle.card.specs.Question.{Question, ask, first_no}
use Rattle.card.specs.Range.{Range, geometry_fits, locate, last_end, Lookup, Located, Gap, Outside}
use Rattle.card.specs.declared.range.Address.{Address}
use Rattle.frames.proofs.ReadyLaws.{ready}
use Rattle.frames.specs.Promise.{Lent, meaning_of, common}
use Rattle.pages.proofs.AnswerLaws.{asked_own, placed_located, placed_gap, placed_outside, on_located, on_gap, on_outside, Behind9, asks_behind, room_behind}
use Rattle.pages.specs.Call.{PageCall, on, page_asks}
use Rattle.pages.specs.Plain.{between, beyond}
use Rattle.pages.specs.Promise.{address_of, present_page, call_frames, is_gap, is_outside, placed, asks}
use Rattle.record.proofs.Held.{held}
use Rattle.record.proofs.Tests.{same_answer}
use Rattle.recovery.specs.Questions.{room_asks}

-- ---- what the calls answer

-- the ranges pass question 5, which question 2 asks again
pub fits : (l : Lent) → first_no (common l) ≡ 0 → geometry_fits (meaning_of l).blocks (meaning_of l).area (meaning_of l).ranges ≡ true
fits l passes = (held l.store (ready l.store (length l.memory) (length l.card) passes).together).geometry

abbrev Neither : ℕ → Type 0
Neither n = (n ≢ 21) × (n ≢ 9)

module _ (o : ℕ) (c : PageCall) (l : Lent) (passes : first_no (common l) ≡ 0) where
  tells : (x : Lookup) → address_of l o ≡ x → Claim (meaning_of l).ranges (1 + (meaning_of l).area) o x
  tells = lookup_tells (meaning_of l).blocks (meaning_of l).area (meaning_of l).ranges (fits l passes) (1 + (meaning_of l).area) o

  is : (x : Lookup) → Claim (meaning_of l).ranges (1 + (meaning_of l).area) o x → address_of l o ≡ x
  is = lookup_is (meaning_of l).blocks (meaning_of l).area (meaning_of l).ranges (fits l passes) (1 + (meaning_of l).area) o

  number_gap : address_of l o ≡ Gap → first_no (asks (on o c) l) ≡ 21
  number_gap e = asked_own (on o c) l tt passes ∙ on_gap o c l e

  number_outside : address_of l o ≡ Outside → first_no (asks (on o c) l) ≡ 9
  number_outside e = asked_own (on o c) l tt passes ∙ on_outside o c l e

  -- of a place neither is answered
  number_located : (p : Address) → address_of l o ≡ Located p → Neither (first_no (asks (on o c) l))
  number_located p e =
      let page = page_asks c (present_page l p) in
      let room = room_asks (call_frames o c l) (meaning_of l) in
      let behind = all_join (λ (q : Question). Behind9 q.number) page room (asks_behind c (present_page l p)) (room_behind (call_frames o c l) (meaning_of l)) in
      let neither = all_map (λ (q : Question). Behind9 q.number) (λ (q : Question). Neither q.number) (page ++ room) (λ q h. (h.1, λ k. omega (arith, h.0, k))) behind in
      subst Neither (sym (asked_own (on o c) l tt passes ∙ on_located o c l p e)) (first_among Neither (page ++ room) (omega arith, omega arith) neither)

  pub gap_refused : Between (meaning_of l).ranges o → first_no (asks (on o c) l) ≡ 21
  gap_refused q = number_gap (is Gap q)

  pub outside_refused : Beyond (meaning_of l).ranges o → first_no (asks (on o c) l) ≡ 9
  outside_refused q = number_outside (is Outside q)

  pub refused_21 : first_no (asks (on o c) l) ≡ 21 → Between (meaning_of l).ranges o
  refused_21 n = go (address_of l o) refl
    where
      go : (x : Lookup) → address_of l o ≡ x → Between (meaning_of l).ranges o
      go (Located p) e = absurd ((number_located p e).0 n)
      go Gap e = tells Gap e
      go Outside e = absurd (omega (arith, n, number_outside e))

  -- so not where the ranges touch
  pub touching_never : Touching (meaning_of l).ranges → first_no (asks (on o c) l) ≢ 21
  touching_never t n = touching_no_gap (meaning_of l).ranges o t (refused_21 n)

  pub refused_9 : first_no (asks (on o c) l) ≡ 9 → Beyond (meaning_of l).ranges o
  refused_9 n = go (address_of l o) refl
    where
      go : (x : Lookup) → address_of l o ≡ x → Beyond (meaning_of l).ranges o
      go (Located p) e = absurd ((number_located p e).1 n)
      go Gap e = absurd (omega (arith, n, number_gap e))
      go Outside e = tells Outside e

-- ---- the machine's tests

between_tells : (rs : List Range) (o : ℕ) → between rs o ≡ true → Between rs o
unfolding between
between_tells [] o e = absurd (false≢true e)
between_tells (r ∷ []) o e = absurd (false≢true e)
between_tells (r ∷ x ∷ xs) o e = ⊎_elim
    (λ h. let t = both (leb (r.oid + r.pages) o) _ h in inl (leb-true _ _ t.0, ltb-true _ _ t.1))
    (λ k. inr (between_tells (x ∷ xs) o k))
    (either (leb (r.oid + r.pages) o && ltb o x.oid) (between (x ∷ xs) o) e)

between_is : (rs : List Range) (o : ℕ) → Between rs o → between rs o ≡ true
unfolding between
between_is [] o q = absurd q
between_is (r ∷ []) o q = absurd q
between_is (r ∷ x ∷ xs) o q = ⊎_elim
    (λ (h : (r.oid + r.pages ≤ o) × (o < x.oid)). rw (le-leb (r.oid + r.pages) o h.0, lt-ltb o x.oid h.1))
    (λ k. rw (between_is (x ∷ xs) o k) (or-true (leb (r.oid + r.pages) o && ltb o x.oid)))
    q

beyond_tells : (rs : List Range) (o : ℕ) → beyond rs o ≡ true → Beyond rs o
unfolding beyond
beyond_tells [] o e = tt
beyond_tells (r ∷ rs) o e = ⊎_elim (λ h. inl (ltb-true _ _ h)) (λ k. inr (leb-true _ _ k)) (either (ltb o r.oid) (leb (last_end r rs) o) e)

beyond_is : (rs : List Range) (o : ℕ) → Beyond rs o → beyond rs o ≡ true
unfolding beyond
beyond_is [] o q = refl
beyond_is (r ∷ rs) o q = ⊎_elim (λ h. rw (lt-ltb o r.oid h)) (λ k. rw (le-leb (last_end r rs) o k) (or-true (ltb o r.oid))) q

gap_only : (x : Lookup) → is_gap x ≡ true → x ≡ Gap
gap_only (Located p) e = absurd (false≢true e)
gap_only Gap e = refl
gap_only Outside e = absurd (false≢true e)

outside_only : (x : Lookup) → is_outside x ≡ true → x ≡ Outside
outside_only (Located p) e = absurd (false≢true e)
outside_only Gap e = absurd (false≢true e)
outside_only Outside e = refl

module _ (blocks area : ℕ) (rs : List Range) (g : geometry_fits blocks area rs ≡ true) (start o : ℕ) where
  pub gap_same : is_gap (locate rs start o) ≡ between rs o
  gap_same = same_answer (is_gap (locate rs start o)) (between rs o)
      (λ t. between_is rs o (lookup_tells blocks area rs g start o Gap (gap_only (locate rs start o) t)))
      (λ t. ap is_gap (lookup_is blocks area rs g start o Gap (between_tells rs o t)))

  pub outside_same : is_outside (locate rs start o) ≡ beyond rs o
  outside_same = same_answer (is_outside (locate rs start o)) (beyond rs o)
      (λ t. beyond_is rs o (lookup_tells blocks area rs g start o Outside (outside_only (locate rs start o) t)))
      (λ t. ap is_outside (lookup_is blocks area rs g start o Outside (beyond_tells rs o t)))

-- questions of a place begin as those of an OID that passes the same two tests
pub placed_as : (a : Lookup) (rest : Address → List Question) (qs : List Question) → ((p : Address) → a ≡ Located p → first_no (rest p) ≡ first_no qs)
    → first_no (placed a rest) ≡ first_no (ask 21 (not (is_gap a)) ∷ ask 9 (not (is_outside a)) ∷ qs)
placed_as (Located p) rest qs h = placed_located p rest ∙ h p refl ∙ sym (asked_yes 21 true _ refl ∙ asked_yes 9 true _ refl)
placed_as Gap rest qs h = placed_gap rest ∙ sym (asked_no 21 false _ refl)
placed_as Outside rest qs h = placed_outside rest ∙ sym (asked_yes 21 true _ refl ∙ asked_no 9 false _ refl)
