-- Places of OIDs: every OID of a range has one, all lie among the home blocks, two OIDs have two page blocks, no page block is a pot block; the pots of a card in order.
-- Assumes nothing.
use Prim.Native.Nat.{ℕ, zero, suc, ◌+◌, ◌-◌, ◌*◌, ◌/◌, ◌≤◌, ◌<◌}
use borrow.Author.Tests.{ltb-true, leb-true, lt-ltb, le-leb}
use lib.Dec.{leb, ltb}
use mathlib.Core.Bool.{Bool, true, false, cond, ◌&&◌, false≢true}
use mathlib.Core.List.{List, [], ◌∷◌, ◌++◌}
use mathlib.Core.Logic.{◌≢◌, ⊎_elim}
use mathlib.Core.Path.{◌≡◌, refl, ap, sym, ◌∙◌}
use native.Mathlib.Nat.{eq-or-lt_of_le}
use native.Mathlib.Omega.{arith}
use Rattle.card.proofs.AllLaws.{all_join, all_left, all_right, all_tab, tab_all, all_map}
use Rattle.card.proofs.RangeLaws.{geometry_tells}
use Rattle.card.proofs.Test.{by_test, both, joined}
use Rattle.card.specs.Bytes.{tabulate, All}
use Rattle.card.specs.Range.{Range, range_in, ranges_of, pot_count, range_blocks, geometry_fits, address_in, some_below, some_above, missing, locate_or, locate, all_blocks, all_pots, Lookup, Located, Gap, Outside}
use Rattle.card.specs.declared.range.Address.{Address}

-- ---- where a place lies

-- page and pot from block lo up to, not including, block hi; the entry among the pot's 102
pub record Within (lo hi : ℕ) (p : Address) : Type 0 where
  pub pot_low : lo ≤ p.pot
  pub page_low : lo ≤ p.page
  pub pot_high : p.pot < hi
  pub page_high : p.page < hi
  pub entry_high : p.entry < 102
  pub pot_before : p.pot < p.page

in_range : (start n r : ℕ) → r < n → Within start (start + range_blocks n) (address_in start r)
in_range start n r h = omega arith

-- an OID in no range has no place
pub no_place : {A : Type 0} (rs : List Range) (oid : ℕ) (p : Address) → missing rs oid ≡ Located p → A
unfolding missing
no_place {A} rs oid p = go (some_below rs oid && some_above rs oid)
  where
    go : (t : Bool) → cond t Gap Outside ≡ Located p → A
    go true e = let z : ◌≡◌ {A = ℕ} 0 1 = cc in absurd (omega arith)
    go false e = let z : ◌≡◌ {A = ℕ} 0 1 = cc in absurd (omega arith)

-- where a range has it, what would be said otherwise does not matter
had : (a b : Lookup) (rs : List Range) (start oid : ℕ) (p : Address) → a ≢ Located p → locate_or a rs start oid ≡ Located p → locate_or b rs start oid ≡ Located p
unfolding locate_or
had a b [] start oid p d = λ e. absurd (d e)
had a b (r ∷ rs) start oid p d = go (leb r.oid oid && ltb oid (r.oid + r.pages)) (had a b rs (start + range_blocks r.pages) oid p d)
  where
    go : (t : Bool) → (locate_or a rs (start + range_blocks r.pages) oid ≡ Located p → locate_or b rs (start + range_blocks r.pages) oid ≡ Located p)
        → cond t (Located (address_in start (oid - r.oid))) (locate_or a rs (start + range_blocks r.pages) oid) ≡ Located p
        → cond t (Located (address_in start (oid - r.oid))) (locate_or b rs (start + range_blocks r.pages) oid) ≡ Located p
    go true rec e = e
    go false rec e = rec e

-- the two ways in which a page is found
pub data Found (r : Range) (rs : List Range) (start oid : ℕ) (p : Address) : Type 0 where
  here : r.oid ≤ oid → oid < r.oid + r.pages → address_in start (oid - r.oid) ≡ p → Found r rs start oid p
  later : locate rs (start + range_blocks r.pages) oid ≡ Located p → Found r rs start oid p

pub found : (r : Range) (rs : List Range) (start oid : ℕ) (p : Address) → locate (r ∷ rs) start oid ≡ Located p → Found r rs start oid p
unfolding locate locate_or
found r rs start oid p = go (leb r.oid oid && ltb oid (r.oid + r.pages)) refl
  where
    go : (t : Bool) → leb r.oid oid && ltb oid (r.oid + r.pages) ≡ t
        → cond t (Located (address_in start (oid - r.oid))) (locate_or (missing (r ∷ rs) oid) rs (start + range_blocks r.pages) oid) ≡ Located p → Found r rs start oid p
    go true e q = let t = both (leb r.oid oid) _ e in here (leb-true _ _ t.0) (ltb-true _ _ t.1) (cc)
    go false e q = later (had (missing (r ∷ rs) oid) (missing rs oid) rs (start + range_blocks r.pages) oid p (no_place (r ∷ rs) oid p) q)

nowhere : {A : Type 0} (start oid : ℕ) (p : Address) → locate [] start oid ≡ Located p → A
unfolding locate locate_or
nowhere start oid p e = no_place [] oid p e

-- every place lies among the blocks of its ranges
pub lies : (rs : List Range) (start oid : ℕ) (p : Address) → locate rs start oid ≡ Located p → Within start (start + all_blocks rs) p
lies [] start oid p e = nowhere start oid p e
lies (r ∷ rs) start oid p e = go (found r rs start oid p e) (λ q. lies rs (start + range_blocks r.pages) oid p q)
  where
    go : Found r rs start oid p
        → (locate rs (start + range_blocks r.pages) oid ≡ Located p → Within (start + range_blocks r.pages) (start + range_blocks r.pages + all_blocks rs) p)
        → Within start (start + (range_blocks r.pages + all_blocks rs)) p
    go (here l h q) rec = rw (← q) (omega (arith, in_range start r.pages (oid - r.oid) (omega arith)))
    go (later q) rec = omega (arith, rec q)

-- among the home blocks of a card that passes question 5
pub lies_home : (blocks area : ℕ) (rs : List Range) (oid : ℕ) (p : Address) → geometry_fits blocks area rs ≡ true → locate rs (1 + area) oid ≡ Located p → Within (1 + area) blocks p
lies_home blocks area rs oid p g e = rw (geometry_tells blocks area rs g).full (lies rs (1 + area) oid p e)

-- ---- an OID of a range has a place

located_from : (none : Lookup) (f : ℕ → Range) (first n start oid i : ℕ) → first ≤ i → i < first + n → (f i).oid ≤ oid → oid < (f i).oid + (f i).pages
    → (p : Address) × (locate_or none (tabulate f first n) start oid ≡ Located p)
unfolding tabulate locate_or
located_from none f first zero start oid i a b l h = absurd (omega arith)
located_from none f first (suc n) start oid i a b l h = by_test (λ (x : Lookup). (p : Address) × (x ≡ Located p)) (leb (f first).oid oid && ltb oid ((f first).oid + (f first).pages))
    (λ t. (address_in start (oid - (f first).oid), refl))
    (λ t. located_from none f (suc first) n (start + range_blocks (f first).pages) oid i (not_first t) (omega arith) l h)
  where
    not_first : leb (f first).oid oid && ltb oid ((f first).oid + (f first).pages) ≡ false → first < i
    not_first t = ⊎_elim (λ e. absurd (false≢true (sym t ∙ rw e (joined _ _ (le-leb _ _ l) (lt-ltb _ _ h))))) (λ q. q) (eq-or-lt_of_le a)

pub located : (numbers : List ℕ) (n start oid i : ℕ) → i < n → (range_in numbers i).oid ≤ oid → oid < (range_in numbers i).oid + (range_in numbers i).pages
    → (p : Address) × (locate (ranges_of numbers n) start oid ≡ Located p)
unfolding ranges_of locate
located numbers n start oid i b l h = located_from (missing (tabulate (range_in numbers) 0 n) oid) (range_in numbers) 0 n start oid i (omega arith) (omega arith) l h

-- ---- two OIDs

-- no page is the other's page or pot, and one pot has two entries
pub record PlacesApart (p q : Address) : Type 0 where
  pub pages : p.page ≢ q.page
  pub page_pot : p.page ≢ q.pot
  pub pot_page : p.pot ≢ q.page
  pub entries : p.pot ≡ q.pot → p.entry ≢ q.entry

in_apart : (start r t : ℕ) → r ≢ t → PlacesApart (address_in start r) (address_in start t)
in_apart start r t d = record { pages = omega arith; page_pot = omega arith; pot_page = omega arith; entries = omega arith }

-- two that lie in two stretches
below_apart : (lo m hi : ℕ) (p q : Address) → Within lo m p → Within m hi q → PlacesApart p q
below_apart lo m hi p q a b = omega arith

above_apart : (lo m hi : ℕ) (p q : Address) → Within m hi p → Within lo m q → PlacesApart p q
above_apart lo m hi p q a b = omega arith

-- two OIDs have two places
pub places-apart : (rs : List Range) (start o u : ℕ) (p q : Address) → o ≢ u → locate rs start o ≡ Located p → locate rs start u ≡ Located q → PlacesApart p q
places-apart [] start o u p q d e f = nowhere start o p e
places-apart (r ∷ rs) start o u p q d e f = go (found r rs start o p e) (found r rs start u q f)
    (λ e' f'. places-apart rs (start + range_blocks r.pages) o u p q d e' f')
  where
    next : ℕ
    next = start + range_blocks r.pages

    go : Found r rs start o p → Found r rs start u q
        → (locate rs (start + range_blocks r.pages) o ≡ Located p → locate rs (start + range_blocks r.pages) u ≡ Located q → PlacesApart p q) → PlacesApart p q
    go (here l h s) (here l' h' s') rec = rw (← s, ← s') (in_apart start (o - r.oid) (u - r.oid) (omega arith))
    go (here l h s) (later s') rec =
        rw (← s) (below_apart start next (next + all_blocks rs) _ q (in_range start r.pages (o - r.oid) (omega arith)) (lies rs next u q s'))
    go (later s) (here l' h' s') rec =
        rw (← s') (above_apart start next (next + all_blocks rs) p _ (lies rs next o p s) (in_range start r.pages (u - r.oid) (omega arith)))
    go (later s) (later s') rec = rec s s'

-- ---- pots

-- what holds of the blocks from start on, as far as they reach, holds of the pots
pub pots_among : (P : ℕ → Type 0) (rs : List Range) (start : ℕ) → ((m : ℕ) → start ≤ m → m < start + all_blocks rs → P m) → All P (all_pots rs start)
unfolding all_pots
pots_among P [] start h = tt
pots_among P (r ∷ rs) start h = all_join P (tabulate (λ i. start + 103 * i) 0 (pot_count r.pages)) _
    (all_tab P (λ i. start + 103 * i) 0 (pot_count r.pages) (λ i a b. h (start + 103 * i) (omega arith) (omega arith)))
    (pots_among P rs (start + range_blocks r.pages) (λ m a b. h m (omega arith) (omega arith)))

-- no page block is a pot block
pub page_no_pot : (rs : List Range) (start oid : ℕ) (p : Address) → locate rs start oid ≡ Located p → All (λ m. p.page ≢ m) (all_pots rs start)
unfolding all_pots
page_no_pot [] start oid p e = nowhere start oid p e
page_no_pot (r ∷ rs) start oid p e = go (found r rs start oid p e) (λ q. page_no_pot rs (start + range_blocks r.pages) oid p q)
  where
    go : Found r rs start oid p → (locate rs (start + range_blocks r.pages) oid ≡ Located p → All (λ m. p.page ≢ m) (all_pots rs (start + range_blocks r.pages)))
        → All (λ m. p.page ≢ m) (all_pots (r ∷ rs) start)
    go (here l h q) rec = all_join (λ m. p.page ≢ m) (tabulate (λ i. start + 103 * i) 0 (pot_count r.pages)) _
        (all_tab (λ m. p.page ≢ m) (λ i. start + 103 * i) 0 (pot_count r.pages) (λ i a b. rw (← q) (omega arith)))
        (pots_among (λ m. p.page ≢ m) rs (start + range_blocks r.pages) (λ m a b. rw (← q) (omega arith)))
    go (later q) rec = all_join (λ m. p.page ≢ m) (tabulate (λ i. start + 103 * i) 0 (pot_count r.pages)) _
        (all_tab (λ m. p.page ≢ m) (λ i. start + 103 * i) 0 (pot_count r.pages) (λ i a b. omega (arith, (lies rs (start + range_blocks r.pages) oid p q).page_low)))
        (rec q)

-- a member of a list of blocks
abbrev pub In : ℕ → List ℕ → Type 0
In n ns = All (λ m. n ≢ m) ns → ⊥

-- every page's pot is one of them
pub pot_in : (rs : List Range) (start oid : ℕ) (p : Address) → locate rs start oid ≡ Located p → In p.pot (all_pots rs start)
unfolding all_pots
pot_in [] start oid p e = nowhere start oid p e
pot_in (r ∷ rs) start oid p e = go (found r rs start oid p e) (λ q. pot_in rs (start + range_blocks r.pages) oid p q)
  where
    go : Found r rs start oid p → (locate rs (start + range_blocks r.pages) oid ≡ Located p → In p.pot (all_pots rs (start + range_blocks r.pages))) → In p.pot (all_pots (r ∷ rs) start)
    go (here l h q) rec a =
        let pot_is : p.pot ≡ start + 103 * ((oid - r.oid) / 102) = sym (ap (λ (x : Address). x.pot) q) in
        tab_all (λ m. p.pot ≢ m) (λ i. start + 103 * i) 0 (pot_count r.pages) (all_left (λ m. p.pot ≢ m) (tabulate (λ i. start + 103 * i) 0 (pot_count r.pages)) _ a)
        ((oid - r.oid) / 102) (omega arith) (omega arith) pot_is
    go (later q) rec a = rec q (all_right (λ m. p.pot ≢ m) (tabulate (λ i. start + 103 * i) 0 (pot_count r.pages)) _ a)

-- in order
abbrev pub Rising : List ℕ → Type 0
Rising [] = Unit {0}
Rising (x ∷ xs) = All (λ y. x < y) xs × Rising xs

rising_join : (m : ℕ) (xs ys : List ℕ) → All (λ x. x < m) xs → All (λ y. m ≤ y) ys → Rising xs → Rising ys → Rising (xs ++ ys)
rising_join m [] ys a b p q = q
rising_join m (x ∷ xs) ys a b p q =
    (all_join (λ y. x < y) xs ys p.0 (all_map (λ y. m ≤ y) (λ y. x < y) ys (λ y h. omega (arith, a.0, h)) b), rising_join m xs ys a.1 b p.1 q)

rising_tab : (start i n : ℕ) → Rising (tabulate (λ k. start + 103 * k) i n)
unfolding tabulate
rising_tab start i zero = tt
rising_tab start i (suc n) = (all_tab (λ y. start + 103 * i < y) (λ k. start + 103 * k) (suc i) n (λ k a b. omega arith), rising_tab start (suc i) n)

pub pots_rise : (rs : List Range) (start : ℕ) → Rising (all_pots rs start)
unfolding all_pots
pots_rise [] start = tt
pots_rise (r ∷ rs) start =
    rising_join (start + range_blocks r.pages) (tabulate (λ i. start + 103 * i) 0 (pot_count r.pages)) (all_pots rs (start + range_blocks r.pages))
    (all_tab (λ x. x < start + range_blocks r.pages) (λ i. start + 103 * i) 0 (pot_count r.pages) (λ i a b. omega arith))
    (pots_among (λ y. start + range_blocks r.pages ≤ y) rs (start + range_blocks r.pages) (λ m a b. a))
    (rising_tab start 0 (pot_count r.pages))
    (pots_rise rs (start + range_blocks r.pages))
