-- Laws of the first "no", of question 8 asked entry by entry, and what questions 4 to 7 tell.
-- Assumes nothing.
use Prim.Native.Nat.{ℕ, suc, ◌+◌, ◌-◌, ◌≤◌, ◌<◌}
use borrow.Author.Tests.{leb-true, ltb-true, eqb-true, ne_eqb}
use lib.Dec.{leb, ltb, eqb}
use mathlib.Core.Bool.{Bool, true, false, cond, ◌&&◌}
use mathlib.Core.List.{List, [], ◌∷◌, ◌++◌}
use mathlib.Core.Logic.{◌≢◌}
use mathlib.Core.Path.{◌≡◌, refl, ap, sym, ◌∙◌}
use native.Mathlib.Decide.{ℕ_discrete}
use native.Mathlib.Omega.{arith}
use Rattle.card.proofs.RingLaws.{size_some}
use Rattle.card.proofs.Test.{both, by_test}
use Rattle.card.specs.Bytes.{All}
use Rattle.card.specs.Question.{Question, ask, first_no, header_ranges, commit_fits, header_asks, ends_at, trailer_fits, entry_fits, entries_fit}
use Rattle.card.specs.Range.{geometry_fits}
use Rattle.card.specs.Ring.{ring_at, ring_offset, half, dir_blocks, generation_size}
use Rattle.card.specs.declared.directory.Entry.{Entry}
use Rattle.card.specs.declared.header.Header.{Header}
use Rattle.card.specs.declared.trailer.Trailer.{Trailer}

-- ---- the first "no"

pub none_asked : first_no [] ≡ 0
unfolding first_no
none_asked = refl

-- a question that is passed, and one that is not
pub asked_yes : (n : ℕ) (b : Bool) (qs : List Question) → b ≡ true → first_no (ask n b ∷ qs) ≡ first_no qs
unfolding first_no
asked_yes n b qs e = rw e

pub asked_no : (n : ℕ) (b : Bool) (qs : List Question) → b ≡ false → first_no (ask n b ∷ qs) ≡ n
unfolding first_no
asked_no n b qs e = rw e

pub passed_both : (n : ℕ) (b : Bool) (qs : List Question) → first_no (ask (suc n) b ∷ qs) ≡ 0 → (b ≡ true) × (first_no qs ≡ 0)
unfolding first_no
passed_both n true qs h = (refl, h)
passed_both n false qs h = absurd (omega arith)

-- a group of questions that is passed, and one that is not
pub group_yes : (ps qs : List Question) → All (λ (q : Question). 0 < q.number) ps → first_no ps ≡ 0 → first_no (ps ++ qs) ≡ first_no qs
unfolding first_no
group_yes [] qs = λ n h. refl
group_yes (p ∷ ps) qs = go p.yes (group_yes ps qs)
  where
    go : (b : Bool) → (All (λ (q : Question). 0 < q.number) ps → first_no ps ≡ 0 → first_no (ps ++ qs) ≡ first_no qs) → All (λ (q : Question). 0 < q.number) (p ∷ ps)
        → cond b (first_no ps) p.number ≡ 0 → cond b (first_no (ps ++ qs)) p.number ≡ first_no qs
    go true rec n h = rec n.1 h
    go false rec n h = absurd (omega (arith, n.0))

pub group_no : (ps qs : List Question) → first_no ps ≢ 0 → first_no (ps ++ qs) ≡ first_no ps
unfolding first_no
group_no [] qs = λ h. absurd (h refl)
group_no (p ∷ ps) qs = go p.yes (group_no ps qs)
  where
    go : (b : Bool) → (first_no ps ≢ 0 → first_no (ps ++ qs) ≡ first_no ps) → cond b (first_no ps) p.number ≢ 0 → cond b (first_no (ps ++ qs)) p.number ≡ cond b (first_no ps) p.number
    go true rec h = rec h
    go false rec h = refl

-- both groups are passed
pub groups_passed : (ps qs : List Question) → All (λ (q : Question). 0 < q.number) ps → first_no (ps ++ qs) ≡ 0 → (first_no ps ≡ 0) × (first_no qs ≡ 0)
groups_passed ps qs n h = go (ℕ_discrete (first_no ps) 0)
  where
    go : Dec (first_no ps ≡ 0) → (first_no ps ≡ 0) × (first_no qs ≡ 0)
    go (yes z) = (z, sym (group_yes ps qs n z) ∙ h)
    go (no d) = absurd (d (sym (group_no ps qs d) ∙ h))

-- what holds of 0 and of every question's number holds of the first "no"
pub first_among : (P : ℕ → Type 0) (qs : List Question) → P 0 → All (λ (q : Question). P q.number) qs → P (first_no qs)
unfolding first_no
first_among P [] z h = z
first_among P (q ∷ qs) z h = by_test P q.yes (λ _. first_among P qs z h.1) (λ _. h.0)

-- ---- question 8

module _ (blocks area first p low : ℕ) (e : Entry) (es l : List Entry) (n : l ≡ e ∷ es) where
  pub fit_more : entry_fits blocks area first p low e ≡ true → entries_fit blocks area first p low l ≡ entries_fit blocks area first p e.frame es
  unfolding entries_fit
  fit_more h = rw (n, entries_fit, h)

  pub fit_stops : entry_fits blocks area first p low e ≡ false → entries_fit blocks area first p low l ≡ false
  unfolding entries_fit
  fit_stops h = rw (n, entries_fit, h)

-- what is told of one that fits
pub record EntryTells (blocks area first p low : ℕ) (e : Entry) : Type 0 where
  pub above : low < e.frame
  pub home : e.frame < blocks
  pub least : 1 ≤ e.block
  pub most : e.block ≤ area
  pub near : ring_offset area first e.block < p

pub entry_tells : (blocks area first p low : ℕ) (e : Entry) → entry_fits blocks area first p low e ≡ true → EntryTells blocks area first p low e
unfolding entry_fits
entry_tells blocks area first p low e h =
    let a = both (ltb low e.frame) _ h in
    let b = both (ltb e.frame blocks) _ a.1 in
    let c = both (leb 1 e.block) _ b.1 in
    let d = both (leb e.block area) _ c.1 in
    record { above = ltb-true _ _ a.0; home = ltb-true _ _ b.0; least = leb-true _ _ c.0; most = leb-true _ _ d.0; near = ltb-true _ _ d.1 }

pub fit_end : (blocks area first p low : ℕ) (l : List Entry) → l ≡ [] → entries_fit blocks area first p low l ≡ true
unfolding entries_fit
fit_end blocks area first p low l e = rw e

-- ---- what questions 4 to 7 tell

-- each has a number
pub header_numbered : (blocks : ℕ) (h : Header) → All (λ (q : Question). 0 < q.number) (header_asks blocks h)
unfolding header_asks
header_numbered blocks h = (omega arith, (omega arith, (omega arith, tt)))

pub record HeaderTells (blocks : ℕ) (h : Header) : Type 0 where
  pub layout : h.layout ≡ 1
  pub geometry : geometry_fits blocks h.area (header_ranges h) ≡ true
  pub commit : commit_fits h.commit h.trailer h.area ≡ true

pub header_tells : (blocks : ℕ) (h : Header) → first_no (header_asks blocks h) ≡ 0 → HeaderTells blocks h
unfolding header_asks
header_tells blocks h e =
    let a = passed_both 3 (eqb h.layout 1) _ e in
    let b = passed_both 4 (geometry_fits blocks h.area (header_ranges h)) _ a.1 in
    let c = passed_both 5 (commit_fits h.commit h.trailer h.area) _ b.1 in
    record { layout = eqb-true _ _ a.0; geometry = b.0; commit = c.0 }

-- with commit above 0 the trailer's block lies in the area
pub commit_tells : (commit trailer area : ℕ) → commit_fits commit trailer area ≡ true → 0 < commit → (1 ≤ trailer) × (trailer ≤ area)
unfolding commit_fits
commit_tells commit trailer area e h =
    let a : leb 1 trailer && leb trailer area ≡ true = rw (ne_eqb commit 0 (omega arith)) at e in
    let b = both (leb 1 trailer) _ a in
    (leb-true _ _ b.0, leb-true _ _ b.1)

pub record TrailerTells (h : Header) (t : Trailer) : Type 0 where
  pub commit : t.commit ≡ h.commit
  pub first_low : 1 ≤ t.first
  pub first_high : t.first ≤ h.area
  pub some : 1 ≤ t.entries
  pub few : t.entries ≤ t.pages
  pub size : t.pages + dir_blocks t.entries + 1 ≤ half h.area
  pub last : ring_at h.area t.first (t.pages + dir_blocks t.entries) ≡ h.trailer

pub trailer_tells : (h : Header) (t : Trailer) → trailer_fits h t ≡ true → TrailerTells h t
unfolding trailer_fits ends_at
trailer_tells h t e =
    let a = both (eqb t.commit h.commit) _ e in
    let b = both (leb 1 t.first) _ a.1 in
    let c = both (leb t.first h.area) _ b.1 in
    let d = both (leb 1 t.entries) _ c.1 in
    let f = both (leb t.entries t.pages) _ d.1 in
    let g = both (leb (generation_size t.pages t.entries) (half h.area)) _ f.1 in
    let some : 1 ≤ t.entries = leb-true _ _ d.0 in
    let size = size_some t.pages t.entries some in
    let before : generation_size t.pages t.entries - 1 ≡ t.pages + dir_blocks t.entries = omega arith in
    let fits : generation_size t.pages t.entries ≤ half h.area = leb-true _ _ g.0 in
    record {
      commit = eqb-true _ _ a.0;
      first_low = leb-true _ _ b.0;
      first_high = leb-true _ _ c.0;
      some = some;
      few = leb-true _ _ f.0;
      size = omega arith;
      last = ap (λ (n : ℕ). ring_at h.area t.first n) (sym before) ∙ eqb-true _ _ g.1;
    }
