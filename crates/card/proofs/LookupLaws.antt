-- What each of the three answers of the lookup claims of an OID (document 02, #101), in words of the ranges and not of
-- the lookup. Over ranges that pass question 5 the answer's claim holds, and it is the only one that does.
-- Assumes nothing.
use Prim.Native.Nat.{ℕ, ◌+◌, ◌-◌, ◌≤◌, ◌<◌}
use borrow.Author.Tests.{leb-true, leb-false, ltb-true, ltb-false}
use lib.Dec.{ltb, leb}
use mathlib.Core.Bool.{Bool, true, false, cond, ◌&&◌}
use mathlib.Core.List.{List, [], ◌∷◌}
use mathlib.Core.Logic.{◌⊎◌, inl, inr, ⊎_elim}
use mathlib.Core.Path.{◌≡◌, refl, ap, sym, ◌∙◌, subst}
use native.Mathlib.Omega.{arith}
use Rattle.card.proofs.RangeLaws.{below_here, below_later, below_none, above_here, above_later, above_none, missing_gap, missing_below, missing_above, RangesRise, geometry_tells}
use Rattle.card.proofs.Test.{both}
use Rattle.card.specs.Bytes.{All}
use Rattle.card.specs.Range.{Range, range_blocks, geometry_fits, address_in, some_below, some_above, missing, locate_or, locate, last_end, Lookup, Located, Gap, Outside}
use Rattle.card.specs.declared.range.Address.{Address}

-- ---- the claims

-- a range has the OID, and p is its place; the ranges follow from block start
abbrev pub HasAt : List Range → ℕ → ℕ → Address → Type 0
HasAt [] start oid p = ⊥
HasAt (r ∷ rs) start oid p = ((r.oid ≤ oid) × (oid < r.oid + r.pages) × (address_in start (oid - r.oid) ≡ p)) ⊎ HasAt rs (start + range_blocks r.pages) oid p

-- one range ends at or below the OID, and the next begins above it
abbrev pub Between : List Range → ℕ → Type 0
Between [] oid = ⊥
Between (r ∷ []) oid = ⊥
Between (r ∷ x ∷ xs) oid = ((r.oid + r.pages ≤ oid) × (oid < x.oid)) ⊎ Between (x ∷ xs) oid

-- the OID is below the first range, or at or above the last one's end
abbrev pub Beyond : List Range → ℕ → Type 0
Beyond [] oid = Unit {0}
Beyond (r ∷ rs) oid = (oid < r.oid) ⊎ (last_end r rs ≤ oid)

abbrev pub Claim : List Range → ℕ → ℕ → Lookup → Type 0
Claim rs start oid (Located p) = HasAt rs start oid p
Claim rs start oid Gap = Between rs oid
Claim rs start oid Outside = Beyond rs oid

-- ---- the answer's claim holds

-- a range has an OID
abbrev has : Range → ℕ → Bool
has r oid = leb r.oid oid && ltb oid (r.oid + r.pages)

-- either a range has it, or none has and it is said that there is none
search_ends : (none : Lookup) (rs : List Range) (start oid : ℕ)
    → ((p : Address) × (locate_or none rs start oid ≡ Located p) × HasAt rs start oid p) ⊎ ((locate_or none rs start oid ≡ none) × All (λ r. has r oid ≡ false) rs)
unfolding locate_or
search_ends none [] start oid = inr (refl, tt)
search_ends none (r ∷ rs) start oid = go (has r oid) refl (search_ends none rs (start + range_blocks r.pages) oid)
  where
    go : (t : Bool) → has r oid ≡ t
        → ((p : Address) × (locate_or none rs (start + range_blocks r.pages) oid ≡ Located p) × HasAt rs (start + range_blocks r.pages) oid p)
        ⊎ ((locate_or none rs (start + range_blocks r.pages) oid ≡ none) × All (λ x. has x oid ≡ false) rs)
        → ((p : Address) × (cond t (Located (address_in start (oid - r.oid))) (locate_or none rs (start + range_blocks r.pages) oid) ≡ Located p) × HasAt (r ∷ rs) start oid p)
        ⊎ ((cond t (Located (address_in start (oid - r.oid))) (locate_or none rs (start + range_blocks r.pages) oid) ≡ none) × All (λ x. has x oid ≡ false) (r ∷ rs))
    go true e rest = let b = both (leb r.oid oid) _ e in inl (address_in start (oid - r.oid), refl, inl (leb-true _ _ b.0, ltb-true _ _ b.1, refl))
    go false e rest = ⊎_elim (λ f. inl (f.0, f.1, inr f.2)) (λ n. inr (n.0, (e, n.1))) rest

-- an OID that a range has not is below it or above it
beside : (r : Range) (oid : ℕ) → has r oid ≡ false → (oid < r.oid) ⊎ (r.oid + r.pages ≤ oid)
beside r oid h = go (leb r.oid oid) refl h
  where
    go : (t : Bool) → leb r.oid oid ≡ t → t && ltb oid (r.oid + r.pages) ≡ false → (oid < r.oid) ⊎ (r.oid + r.pages ≤ oid)
    go true e q = inr (ltb-false oid (r.oid + r.pages) q)
    go false e q = inl (leb-false r.oid oid e)

-- ranges that rise from above the OID on: none ends at or below it
none_below : (rs : List Range) (low oid : ℕ) → RangesRise low rs → oid < low → some_below rs oid ≡ false
none_below [] low oid h l = below_none oid [] refl
none_below (r ∷ rs) low oid h l = below_later oid r rs (r ∷ rs) refl (omega (arith, h.0, l)) ∙ none_below rs (r.oid + r.pages) oid h.3 (omega (arith, h.0, l))

-- where an OID stands that no range has, and what is told by the search for ranges below it and above it
data Stands (r : Range) (rs : List Range) (oid : ℕ) : Type 0 where
  first : oid < r.oid → some_below (r ∷ rs) oid ≡ false → Stands r rs oid
  amid : Between (r ∷ rs) oid → some_below (r ∷ rs) oid ≡ true → some_above (r ∷ rs) oid ≡ true → Stands r rs oid
  last : last_end r rs ≤ oid → some_above (r ∷ rs) oid ≡ false → Stands r rs oid

-- behind a range that ends at or below the OID
behind : (r x : Range) (xs : List Range) (oid : ℕ) → r.oid + r.pages ≤ oid → Stands x xs oid → Stands r (x ∷ xs) oid
behind r x xs oid m = go
  where
    below : some_below (r ∷ x ∷ xs) oid ≡ true
    below = below_here oid r (x ∷ xs) (r ∷ x ∷ xs) refl m

    above : some_above (r ∷ x ∷ xs) oid ≡ some_above (x ∷ xs) oid
    above = above_later oid r (x ∷ xs) (r ∷ x ∷ xs) refl (omega (arith, m))

    go : Stands x xs oid → Stands r (x ∷ xs) oid
    go (first l b) = amid (inl (m, l)) below (above ∙ above_here oid x xs (x ∷ xs) refl l)
    go (amid q b a) = amid (inr q) below (above ∙ a)
    go (last e a) = last e (above ∙ a)

alone : (r : Range) (oid : ℕ) → r.oid + r.pages ≤ oid → Stands r [] oid
alone r oid m = last m (above_later oid r [] (r ∷ []) refl (omega (arith, m)) ∙ above_none oid [] refl)

before : (r : Range) (rs : List Range) (low oid : ℕ) → RangesRise low (r ∷ rs) → oid < r.oid → Stands r rs oid
before r rs low oid h l = first l (none_below (r ∷ rs) r.oid oid (omega arith, h.1, h.2, h.3) l)

stands : (r : Range) (rs : List Range) (low oid : ℕ) → RangesRise low (r ∷ rs) → All (λ x. has x oid ≡ false) (r ∷ rs) → Stands r rs oid
stands r [] low oid h none = ⊎_elim (before r [] low oid h) (alone r oid) (beside r oid none.0)
stands r (x ∷ xs) low oid h none = ⊎_elim (before r (x ∷ xs) low oid h) (λ m. behind r x xs oid m (stands x xs (r.oid + r.pages) oid h.3 none.1)) (beside r oid none.0)

missing_holds : (rs : List Range) (low start oid : ℕ) → RangesRise low rs → All (λ r. has r oid ≡ false) rs → Claim rs start oid (missing rs oid)
missing_holds [] low start oid h none = subst (Claim [] start oid) (sym (missing_below [] oid (below_none oid [] refl))) tt
missing_holds (r ∷ rs) low start oid h none = go (stands r rs low oid h none)
  where
    go : Stands r rs oid → Claim (r ∷ rs) start oid (missing (r ∷ rs) oid)
    go (first l b) = subst (Claim (r ∷ rs) start oid) (sym (missing_below (r ∷ rs) oid b)) (inl l)
    go (amid q b a) = subst (Claim (r ∷ rs) start oid) (sym (missing_gap (r ∷ rs) oid b a)) q
    go (last e a) = subst (Claim (r ∷ rs) start oid) (sym (missing_above (r ∷ rs) oid a)) (inr e)

claim_holds : (rs : List Range) (low start oid : ℕ) → RangesRise low rs → Claim rs start oid (locate rs start oid)
unfolding locate
claim_holds rs low start oid h = ⊎_elim
    (λ f. subst (Claim rs start oid) (sym f.1) f.2)
    (λ n. subst (Claim rs start oid) (sym n.0) (missing_holds rs low start oid h n.1))
    (search_ends (missing rs oid) rs start oid)

-- ---- and no other

end_high : (r : Range) (rs : List Range) (low : ℕ) → RangesRise low (r ∷ rs) → r.oid + r.pages ≤ last_end r rs
end_high r [] low h = omega arith
end_high r (x ∷ xs) low h = omega (arith, h.3.0, end_high x xs (r.oid + r.pages) h.3)

-- from a range on, up to the last one's end
abbrev Within : Range → List Range → ℕ → Type 0
Within r rs oid = (r.oid ≤ oid) × (oid < last_end r rs)

-- there lies an OID that a range has, and one between two ranges
has_within : (r : Range) (rs : List Range) (low start oid : ℕ) (p : Address) → RangesRise low (r ∷ rs) → HasAt (r ∷ rs) start oid p → Within r rs oid
has_within r [] low start oid p h f = ⊎_elim (λ i. (i.0, i.1)) (λ n. absurd n) f
has_within r (x ∷ xs) low start oid p h f = ⊎_elim
    (λ i. (i.0, omega (arith, i.1, end_high r (x ∷ xs) low h)))
    (λ n. let w = has_within x xs (r.oid + r.pages) (start + range_blocks r.pages) oid p h.3 n in (omega (arith, h.3.0, w.0), w.1))
    f

between-within : (r : Range) (rs : List Range) (low oid : ℕ) → RangesRise low (r ∷ rs) → Between (r ∷ rs) oid → Within r rs oid
between-within r [] low oid h q = absurd q
between-within r (x ∷ xs) low oid h q = ⊎_elim
    (λ i. (omega (arith, i.0), omega (arith, i.1, end_high x xs (r.oid + r.pages) h.3)))
    (λ n. let w = between-within x xs (r.oid + r.pages) oid h.3 n in (omega (arith, h.3.0, w.0), w.1))
    q

not_beyond : (r : Range) (rs : List Range) (oid : ℕ) → Within r rs oid → Beyond (r ∷ rs) oid → ⊥
not_beyond r rs oid w b = ⊎_elim (λ l. omega (arith, w.0, l)) (λ m. omega (arith, w.1, m)) b

has_not_beyond : (rs : List Range) (low start oid : ℕ) (p : Address) → RangesRise low rs → HasAt rs start oid p → Beyond rs oid → ⊥
has_not_beyond [] low start oid p h f b = f
has_not_beyond (r ∷ rs) low start oid p h f b = not_beyond r rs oid (has_within r rs low start oid p h f) b

between_not_beyond : (rs : List Range) (low oid : ℕ) → RangesRise low rs → Between rs oid → Beyond rs oid → ⊥
between_not_beyond [] low oid h q b = q
between_not_beyond (r ∷ rs) low oid h q b = not_beyond r rs oid (between-within r rs low oid h q) b

-- no later range has an OID that lies before a range's end
not_later : {A : Type 0} (r : Range) (rs : List Range) (low start oid : ℕ) (p : Address) → RangesRise low (r ∷ rs) → oid < r.oid + r.pages → HasAt rs start oid p → A
not_later r [] low start oid p h l f = absurd f
not_later r (x ∷ xs) low start oid p h l f = absurd (omega (arith, l, h.3.0, (has_within x xs (r.oid + r.pages) start oid p h.3 f).0))

has_not_between : (rs : List Range) (low start oid : ℕ) (p : Address) → RangesRise low rs → HasAt rs start oid p → Between rs oid → ⊥
has_not_between [] low start oid p h f q = q
has_not_between (r ∷ []) low start oid p h f q = q
has_not_between (r ∷ x ∷ xs) low start oid p h f q = ⊎_elim
    (λ i. ⊎_elim (λ j. omega (arith, i.1, j.0)) (λ k. omega (arith, i.1, h.3.0, (between-within x xs (r.oid + r.pages) oid h.3 k).0)) q)
    (λ n. ⊎_elim
    (λ j. omega (arith, j.1, (has_within x xs (r.oid + r.pages) (start + range_blocks r.pages) oid p h.3 n).0))
    (λ k. has_not_between (x ∷ xs) (r.oid + r.pages) (start + range_blocks r.pages) oid p h.3 n k)
    q)
    f

one_place : (rs : List Range) (low start oid : ℕ) (p q : Address) → RangesRise low rs → HasAt rs start oid p → HasAt rs start oid q → p ≡ q
one_place [] low start oid p q h f k = absurd f
one_place (r ∷ rs) low start oid p q h f k = ⊎_elim
    (λ i. ⊎_elim (λ j. sym i.2 ∙ j.2) (λ n. not_later r rs low (start + range_blocks r.pages) oid q h i.1 n) k)
    (λ m. ⊎_elim
    (λ j. not_later r rs low (start + range_blocks r.pages) oid p h j.1 m)
    (λ n. one_place rs (r.oid + r.pages) (start + range_blocks r.pages) oid p q h.3 m n)
    k)
    f

one_claim : (rs : List Range) (low start oid : ℕ) → RangesRise low rs → (x y : Lookup) → Claim rs start oid x → Claim rs start oid y → x ≡ y
one_claim rs low start oid h (Located p) (Located q) c d = ap Located (one_place rs low start oid p q h c d)
one_claim rs low start oid h (Located p) Gap c d = absurd (has_not_between rs low start oid p h c d)
one_claim rs low start oid h (Located p) Outside c d = absurd (has_not_beyond rs low start oid p h c d)
one_claim rs low start oid h Gap (Located q) c d = absurd (has_not_between rs low start oid q h d c)
one_claim rs low start oid h Gap Gap c d = refl
one_claim rs low start oid h Gap Outside c d = absurd (between_not_beyond rs low oid h c d)
one_claim rs low start oid h Outside (Located q) c d = absurd (has_not_beyond rs low start oid q h d c)
one_claim rs low start oid h Outside Gap c d = absurd (between_not_beyond rs low oid h d c)
one_claim rs low start oid h Outside Outside c d = refl

-- ---- both ways, over ranges that pass question 5

module _ (blocks area : ℕ) (rs : List Range) (g : geometry_fits blocks area rs ≡ true) (start oid : ℕ) where
  pub lookup_tells : (x : Lookup) → locate rs start oid ≡ x → Claim rs start oid x
  lookup_tells x e = subst (Claim rs start oid) e (claim_holds rs 0 start oid (geometry_tells blocks area rs g).rise)

  pub lookup_is : (x : Lookup) → Claim rs start oid x → locate rs start oid ≡ x
  lookup_is x c = let h = (geometry_tells blocks area rs g).rise in one_claim rs 0 start oid h _ x (claim_holds rs 0 start oid h) c

-- ranges that touch have no gap between them
abbrev pub Touching : List Range → Type 0
Touching [] = Unit {0}
Touching (r ∷ []) = Unit {0}
Touching (r ∷ x ∷ xs) = (r.oid + r.pages ≡ x.oid) × Touching (x ∷ xs)

pub touching_no_gap : (rs : List Range) (oid : ℕ) → Touching rs → Between rs oid → ⊥
touching_no_gap [] oid t q = q
touching_no_gap (r ∷ []) oid t q = q
touching_no_gap (r ∷ x ∷ xs) oid t q = ⊎_elim (λ i. omega (arith, t.0, i.0, i.1)) (λ n. touching_no_gap (x ∷ xs) oid t.1 n) q
