-- What is needed is told by the pots, which are always needed; and a write or a rescind hands down every frame that
-- it makes needed.
-- Assumes nothing.
use Prim.Native.Nat.{ℕ, ◌+◌, ◌-◌, ◌*◌, ◌/◌, ◌%◌, ◌≤◌, ◌<◌}
use borrow.Author.Tests.{ltb-true, lt-ltb, le-ltb, eq-eqb, ne_eqb}
use lib.Dec.{ltb}
use lib.ListN.{length}
use mathlib.Core.Bool.{Bool, true, false, cond, not, false≢true}
use mathlib.Core.List.{List, [], ◌∷◌}
use mathlib.Core.Logic.{◌≢◌}
use mathlib.Core.Path.{◌≡◌, refl, ap, sym, ◌∙◌}
use native.Mathlib.Decide.{ℕ_discrete}
use native.Mathlib.Omega.{arith}
use Rattle.std.specs.Prelude.{Option, Some, None}
use Rattle.card.proofs.AddressLaws.{lies, PlacesApart, Found, here, later, found}
use Rattle.card.specs.Range.{Range, range_blocks, address_in, locate, all_blocks, Located}
use Rattle.card.specs.declared.range.Address.{Address}
use Rattle.pages.proofs.RowLaws.{flag_after, other_rows}
use Rattle.pages.specs.Change.{Change, put, empty, write_frames, changed_frames}
use Rattle.pages.specs.Needed.{frame_in, frame_at, needed}
use Rattle.pages.specs.Page.{flagged}
use Rattle.pages.specs.Plain.{Row, row_of, zero_after}
use Rattle.recovery.specs.Book.{apply_changes, Brings}
use Rattle.recovery.specs.Contents.{Contents}

pub not_true : (t : Bool) → not t ≡ true → t ≡ false
not_true true h = absurd (false≢true h)
not_true false h = refl

pub not_false : (t : Bool) → not t ≡ false → t ≡ true
not_false true h = refl
not_false false h = absurd (false≢true (sym h))

-- ---- the frame at a home block

-- what a page's block tells: the place is its own, behind its pot, which is no page
pub record At (rs : List Range) (start hi f : ℕ) (p : Address) : Type 0 where
  pub page_is : p.page ≡ f
  pub behind : p.page ≡ p.pot + p.entry + 1
  pub entry_high : p.entry < 102
  pub pot_low : start ≤ p.pot
  pub pot_high : p.pot < hi
  pub pot_is : frame_at rs start p.pot ≡ None

pub in_pot : (start o : ℕ) → o % 103 ≡ 0 → frame_in start o ≡ None
unfolding frame_in
in_pot start o h = rw (eq-eqb (o % 103) 0 h)

pub in_page : (start o : ℕ) → o % 103 ≢ 0 → frame_in start o ≡ Some (record { page = start + o; pot = start + 103 * (o / 103); entry = o % 103 - 1 })
unfolding frame_in
in_page start o h = rw (ne_eqb (o % 103) 0 h)

pub at_here : (r : Range) (rs : List Range) (start f : ℕ) → f < start + range_blocks r.pages → frame_at (r ∷ rs) start f ≡ frame_in start (f - start)
unfolding frame_at
at_here r rs start f h = rw (lt-ltb f (start + range_blocks r.pages) h)

pub at_later : (r : Range) (rs : List Range) (start f : ℕ) → start + range_blocks r.pages ≤ f → frame_at (r ∷ rs) start f ≡ frame_at rs (start + range_blocks r.pages) f
unfolding frame_at
at_later r rs start f h = rw (le-ltb f (start + range_blocks r.pages) h)

-- the same of a list that is given by an equation
pub list_here : (start f : ℕ) (l : List Range) (r : Range) (rs : List Range) → l ≡ r ∷ rs → f < start + range_blocks r.pages → frame_at l start f ≡ frame_in start (f - start)
list_here start f l r rs e h = rw e (at_here r rs start f h)

pub list_later : (start f : ℕ) (l : List Range) (r : Range) (rs : List Range) → l ≡ r ∷ rs → start + range_blocks r.pages ≤ f → frame_at l start f ≡ frame_at rs (start + range_blocks r.pages) f
list_later start f l r rs e h = rw e (at_later r rs start f h)

pub list_none : (start f : ℕ) (l : List Range) → l ≡ [] → frame_at l start f ≡ None
unfolding frame_at
list_none start f l e = rw e

-- the page of number k of a range
page_of : (start k : ℕ) → frame_in start (start + k + k / 102 + 1 - start) ≡ Some (address_in start k)
page_of start k =
    let e : start + k + k / 102 + 1 - start ≡ k + k / 102 + 1 = omega arith in
    let run : (k + k / 102 + 1) / 103 ≡ k / 102 = omega arith in
    let place : (k + k / 102 + 1) % 103 ≡ k % 102 + 1 = omega arith in
    let page_is : start + (k + k / 102 + 1) ≡ start + k + k / 102 + 1 = omega arith in
    let pot_is : start + 103 * ((k + k / 102 + 1) / 103) ≡ start + 103 * (k / 102) = rw run refl in
    let entry-is : (k + k / 102 + 1) % 103 - 1 ≡ k % 102 = omega (arith, place) in
    let same : ◌≡◌ {A = Address} (record { page = start + (k + k / 102 + 1); pot = start + 103 * ((k + k / 102 + 1) / 103); entry = (k + k / 102 + 1) % 103 - 1 }) (address_in start k) =
    λ i. record { page = page_is i; pot = pot_is i; entry = entry-is i } in
    ap (frame_in start) e ∙ in_page start (k + k / 102 + 1) (omega (arith, place)) ∙ ap (λ (p : Address). Some p) same

-- every page that an OID has is found at its block
pub page_at : (rs : List Range) (start oid : ℕ) (p : Address) → locate rs start oid ≡ Located p → frame_at rs start p.page ≡ Some p
page_at [] start oid p e = let w = lies [] start oid p e in absurd (omega (arith, w.pot_low, w.pot_high))
page_at (r ∷ rs) start oid p e = go (found r rs start oid p e) (λ q. page_at rs (start + range_blocks r.pages) oid p q)
  where
    go : Found r rs start oid p → (locate rs (start + range_blocks r.pages) oid ≡ Located p → frame_at rs (start + range_blocks r.pages) p.page ≡ Some p) → frame_at (r ∷ rs) start p.page ≡ Some p
    go (here l h q) rec = rw (← q) (at_here r rs start _ (omega arith) ∙ page_of start (oid - r.oid))
    go (later q) rec = at_later r rs start p.page (lies rs (start + range_blocks r.pages) oid p q).page_low ∙ rec q

no_page : {A : Type 0} {p : Address} → None ≡ Some p → A
no_page e = let z : ◌≡◌ {A = ℕ} 0 1 = cc in absurd (omega arith)

-- in the first range
first_tells : (r : Range) (rs : List Range) (start f : ℕ) (p : Address) → f < start + range_blocks r.pages → frame_in start (f - start) ≡ Some p → At (r ∷ rs) start (start + range_blocks r.pages) f p
first_tells r rs start f p h e = go (ℕ_discrete ((f - start) % 103) 0)
  where
    go : Dec ((f - start) % 103 ≡ 0) → At (r ∷ rs) start (start + range_blocks r.pages) f p
    go (yes z) = no_page (sym (in_pot start (f - start) z) ∙ e)
    go (no d) =
        let q : Address = record { page = start + (f - start); pot = start + 103 * ((f - start) / 103); entry = (f - start) % 103 - 1 } in
        let p-is : q ≡ p = cc (in_page start (f - start) d, e) in
        let up : start < f = omega (arith, d) in
        rw (← p-is) (record {
          page_is = omega arith;
          behind = omega (arith, d);
          entry_high = omega arith;
          pot_low = omega arith;
          pot_high = omega arith;
          pot_is = at_here r rs start (start + 103 * ((f - start) / 103)) (omega arith) ∙ in_pot start _ (omega arith);
        })

pub at_tells : (rs : List Range) (start f : ℕ) (p : Address) → frame_at rs start f ≡ Some p → At rs start (start + all_blocks rs) f p
unfolding frame_at
at_tells [] start f p = λ e. no_page e
at_tells (r ∷ rs) start f p = go (ltb f (start + range_blocks r.pages)) refl (at_tells rs (start + range_blocks r.pages) f p)
  where
    next : ℕ
    next = start + range_blocks r.pages

    wider : At (r ∷ rs) start (start + range_blocks r.pages) f p → At (r ∷ rs) start (start + (range_blocks r.pages + all_blocks rs)) f p
    wider t = record { page_is = t.page_is; behind = t.behind; entry_high = t.entry_high; pot_low = t.pot_low; pot_high = omega (arith, t.pot_high); pot_is = t.pot_is }

    go : (t : Bool) → ltb f (start + range_blocks r.pages) ≡ t
        → (frame_at rs (start + range_blocks r.pages) f ≡ Some p → At rs (start + range_blocks r.pages) (start + range_blocks r.pages + all_blocks rs) f p)
        → cond t (frame_in start (f - start)) (frame_at rs (start + range_blocks r.pages) f) ≡ Some p → At (r ∷ rs) start (start + (range_blocks r.pages + all_blocks rs)) f p
    go true h rec e = wider (first_tells r rs start f p (ltb-true _ _ h) e)
    go false h rec e =
        let t = rec e in
        record { page_is = t.page_is; behind = t.behind; entry_high = t.entry_high; pot_low = omega (arith, t.pot_low); pot_high = omega (arith, t.pot_high); pot_is = at_later r rs start p.pot t.pot_low ∙ t.pot_is }

-- ---- what is needed

module _ (rs : List Range) (area blocks : ℕ) (full : blocks ≡ 1 + area + all_blocks rs) where
  -- a pot is
  pub pot_needed : (v : Contents) (f : ℕ) → frame_at rs (1 + area) f ≡ None → needed rs area v f ≡ true
  unfolding needed
  pot_needed v f e = rw e

  -- a page is unless its flag is set
  pub page_needed : (v : Contents) (f : ℕ) (p : Address) → frame_at rs (1 + area) f ≡ Some p → needed rs area v f ≡ not (flagged v p)
  unfolding needed
  page_needed v f p e = rw e

  -- so of every OID: its page is needed unless its flag is set, its pot always
  pub oid_needed : (v : Contents) (oid : ℕ) (p : Address) → locate rs (1 + area) oid ≡ Located p → (needed rs area v p.page ≡ not (flagged v p)) × (needed rs area v p.pot ≡ true)
  oid_needed v oid p e =
      let at_p = page_at rs (1 + area) oid p e in
      (page_needed v p.page p at_p, pot_needed v p.pot (at_tells rs (1 + area) p.page p at_p).pot_is)

  -- THE LAW: contents that agree where the second ones are needed agree on what is needed
  pub needed_same : (u v : Contents) → ((f : ℕ) → area < f → f < blocks → needed rs area v f ≡ true → u f ≡ v f) → (f : ℕ) → needed rs area u f ≡ needed rs area v f
  needed_same u v h f = go (frame_at rs (1 + area) f) refl
    where
      go : (x : Option Address) → frame_at rs (1 + area) f ≡ x → needed rs area u f ≡ needed rs area v f
      go None e = pot_needed u f e ∙ sym (pot_needed v f e)
      go (Some p) e =
          let t = at_tells rs (1 + area) f p e in
          let pot-same : u p.pot ≡ v p.pot = h p.pot (omega (arith, t.pot_low)) (omega (arith, t.pot_high, full)) (pot_needed v p.pot t.pot_is) in
          page_needed u f p e ∙ (rw pot-same refl) ∙ sym (page_needed v f p e)

  -- two pages
  pub apart : (p q : Address) → frame_at rs (1 + area) p.page ≡ Some p → frame_at rs (1 + area) q.page ≡ Some q → p.page ≢ q.page → PlacesApart p q
  apart p q e f d =
      let s = at_tells rs (1 + area) p.page p e in
      let t = at_tells rs (1 + area) q.page q f in
      record {
        pages = d;
        page_pot = λ k. no_page (sym t.pot_is ∙ ap (frame_at rs (1 + area)) (sym k) ∙ e);
        pot_page = λ k. no_page (sym s.pot_is ∙ ap (frame_at rs (1 + area)) k ∙ f);
        entries = λ k m. d (omega (arith, s.behind, t.behind));
      }

  module _ (v : Contents) (p : Address) (at_p : frame_at rs (1 + area) p.page ≡ Some p) (two : p.page ≢ p.pot) (long : length (v p.pot) ≡ 512) (high : p.entry < 102) where
    flag_of : (u : Contents) (q : Address) → row_of u q ≡ row_of v q → flagged u q ≡ flagged v q
    unfolding row_of
    flag_of u q e = ap (λ (r : Row). r.zero) e

    -- other pages are needed as before
    others : (u : Contents) → ((q : Address) → PlacesApart p q → row_of u q ≡ row_of v q) → (f : ℕ) → f ≢ p.page → needed rs area u f ≡ true → needed rs area v f ≡ true
    others u same f d t = go (frame_at rs (1 + area) f) refl
      where
        go : (x : Option Address) → frame_at rs (1 + area) f ≡ x → needed rs area v f ≡ true
        go None e = pot_needed v f e
        go (Some q) e =
            let page_is : q.page ≡ f = (at_tells rs (1 + area) f q e).page_is in
            let at-q : frame_at rs (1 + area) q.page ≡ Some q = ap (frame_at rs (1 + area)) page_is ∙ e in
            let away : PlacesApart p q = apart p q at_p at-q (λ k. d (sym (k ∙ page_is))) in
            page_needed v f q e ∙ ap not (sym (flag_of u q (same q away))) ∙ sym (page_needed u f q e) ∙ t

    -- a write hands its page down; a rescind makes its page empty
    pub change_brings : (c : Change) → Brings (needed rs area) area blocks (changed_frames c v p) v
    change_brings (put at new) f l h without t = others _ (other_rows v p two long high (put at new)) f (unfold changed_frames write_frames in without.0) t
    change_brings empty f l h without t = go (ℕ_discrete f p.page)
      where
        flag_set : flagged (apply_changes (changed_frames empty v p) v) p ≡ true
        flag_set = unfold zero_after in (flag_after v p two long high empty)

        go : Dec (f ≡ p.page) → needed rs area v f ≡ true
        go (yes e) = absurd (false≢true (ap not (sym flag_set) ∙ sym (page_needed (apply_changes (changed_frames empty v p) v) f p (ap (frame_at rs (1 + area)) e ∙ at_p)) ∙ t))
        go (no d) = others _ (other_rows v p two long high empty) f d t
