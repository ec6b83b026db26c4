-- Laws of ranges: loops over them, and question 5 both ways.
-- Assumes nothing.
use Prim.Native.Nat.{ℕ, suc, ◌+◌, ◌-◌, ◌*◌, ◌/◌, ◌≤◌, ◌<◌}
use borrow.Author.Tests.{leb-true, le-leb, lt-leb, lt-ltb, le-ltb, eqb-true, eq-eqb}
use lib.Dec.{leb, ltb, eqb}
use lib.ListN.{length, take, get_or}
use lib.Seq.{length-take-le, get_or-take}
use mathlib.Core.Bool.{Bool, true, false, ◌&&◌, and-false}
use mathlib.Core.List.{List, [], ◌∷◌, ◌++◌}
use mathlib.Core.Path.{◌≡◌, refl, ap, ◌∙◌}
use native.Mathlib.Omega.{arith}
use Rattle.card.proofs.BytesLaws.{tab_more, tab_same, tab_shift, tab_length}
use Rattle.card.proofs.HeaderLaws.{FitsRange}
use Rattle.card.proofs.Test.{both, joined}
use Rattle.card.specs.Bytes.{tabulate, All}
use Rattle.card.specs.Range.{Range, range_in, ranges_of, range_blocks, ranges_fill, geometry_fits, address_in, some_below, some_above, missing, locate_or, all_blocks, Lookup, Located, Gap, Outside}

-- ---- one range of question 5 after the other

-- one turn of a loop over ranges
pub range_next : (ns : List ℕ) (i n oid pages : ℕ) → i < n → oid ≡ get_or ns (2 * i) 0 → pages ≡ get_or ns (2 * i + 1) 0
    → tabulate (range_in ns) i (n - i) ≡ record { oid = oid; pages = pages } ∷ tabulate (range_in ns) (i + 1) (n - (i + 1))
range_next ns i n oid pages h p q = rw (p, q) (tab_more (range_in ns) i n h)

-- the first n ranges stand in the first 2 × n numbers
pub ranges_of_take : (ns : List ℕ) (m n : ℕ) → 2 * n ≤ m → ranges_of (take m ns) n ≡ ranges_of ns n
unfolding ranges_of
ranges_of_take ns m n h =
    tab_same (range_in (take m ns)) (range_in ns) 0 n (λ k a b. cc (get_or-take m ns (2 * k) 0 (omega arith), get_or-take m ns (2 * k + 1) 0 (omega arith)))

-- as many as a slice of the first 2 × n numbers has
pub ranges_of_front : (ns : List ℕ) (n : ℕ) → 2 * n ≤ length ns → ranges_of (take (2 * n) ns) (length (take (2 * n) ns) / 2) ≡ ranges_of ns n
ranges_of_front ns n h =
    let long : length (take (2 * n) ns) / 2 ≡ n = omega (arith, length-take-le (2 * n) ns h) in
    rw long (ranges_of_take ns (2 * n) n (omega arith))

-- more than 8 are refused
pub geometry_many : (blocks area : ℕ) (ns : List ℕ) (n : ℕ) → 8 < n → geometry_fits blocks area (ranges_of ns n) ≡ false
unfolding geometry_fits ranges_of
geometry_many blocks area ns n h =
    let no : leb (length (tabulate (range_in ns) 0 n)) 8 ≡ false = rw (tab_length (range_in ns) 0 n) (lt-leb n 8 h) in
    rw (no, and-false (leb 1 (length (tabulate (range_in ns) 0 n))), and-false (leb area 512), and-false (leb 8 area)) refl

-- one turn of a loop over pairs of numbers, and its end
behind_pair : (a b : ℕ) (t : List ℕ) (k : ℕ) → range_in (a ∷ b ∷ t) (1 + k) ≡ range_in t (0 + k)
behind_pair a b t k =
    let e : 2 * (1 + k) ≡ suc (suc (2 * (0 + k))) = omega arith in
    let f : 2 * (1 + k) + 1 ≡ suc (suc (2 * (0 + k) + 1)) = omega arith in
    rw (f, e)

pair_first : (a b : ℕ) (t : List ℕ) → ranges_of (a ∷ b ∷ t) (length (a ∷ b ∷ t) / 2) ≡ record { oid = a; pages = b } ∷ ranges_of t (length t / 2)
unfolding ranges_of tabulate
pair_first a b t =
    let half : length (a ∷ b ∷ t) / 2 ≡ suc (length t / 2) = omega arith in
    rw half (ap (λ (l : List Range). record { oid = a; pages = b } ∷ l) (tab_shift (range_in (a ∷ b ∷ t)) (range_in t) 1 0 (length t / 2) (λ k l. behind_pair a b t k)))

pub pair_next : (ns p t : List ℕ) → ns ≡ p ++ t → length p ≡ 2 → ranges_of ns (length ns / 2) ≡ record { oid = get_or p 0 0; pages = get_or p 1 0 } ∷ ranges_of t (length t / 2)
pair_next ns [] t e h = absurd (omega (arith, h))
pair_next ns (a ∷ []) t e h = absurd (omega (arith, h))
pair_next ns (a ∷ b ∷ []) t e h = rw e (pair_first a b t)
pair_next ns (a ∷ b ∷ c ∷ p) t e h = absurd (omega (arith, h))

pub pair_end : (ns : List ℕ) → length ns < 2 → ranges_of ns (length ns / 2) ≡ []
unfolding ranges_of tabulate
pair_end ns h = let none : length ns / 2 ≡ 0 = omega arith in rw none

module _ (low at blocks : ℕ) (r : Range) (rs l : List Range) (e : l ≡ r ∷ rs) where
  keeps : Bool
  keeps = leb low r.oid && (leb 1 r.pages && leb (r.oid + r.pages) 4294967296)

  rest : Bool
  rest = ranges_fill (r.oid + r.pages) (at + range_blocks r.pages) blocks rs

  nested : (a b c d : Bool) → a && (b && (c && d)) ≡ (a && (b && c)) && d
  nested true true c d = refl
  nested true false c d = refl
  nested false b c d = refl

  fill_is : ranges_fill low at blocks l ≡ keeps && rest
  unfolding ranges_fill keeps rest
  fill_is = rw e (nested (leb low r.oid) (leb 1 r.pages) (leb (r.oid + r.pages) 4294967296) _)

  pub fill_more : leb low r.oid && (leb 1 r.pages && leb (r.oid + r.pages) 4294967296) ≡ true
      → ranges_fill low at blocks l ≡ ranges_fill (r.oid + r.pages) (at + range_blocks r.pages) blocks rs
  unfolding keeps rest
  fill_more h = fill_is ∙ rw h

  pub fill_stops : leb low r.oid && (leb 1 r.pages && leb (r.oid + r.pages) 4294967296) ≡ false → ranges_fill low at blocks l ≡ false
  unfolding keeps rest
  fill_stops h = fill_is ∙ rw h

pub fill_end : (low at blocks : ℕ) (l : List Range) → l ≡ [] → ranges_fill low at blocks l ≡ eqb at blocks
unfolding ranges_fill
fill_end low at blocks l e = rw e

-- ---- a search for an OID

pub holds_low : (first pages oid : ℕ) → leb first oid && ltb oid (first + pages) ≡ true → first ≤ oid
holds_low first pages oid e = leb-true _ _ (both (leb first oid) _ e).0

module _ (none : Lookup) (start oid : ℕ) (r : Range) (rs l : List Range) (e : l ≡ r ∷ rs) where
  pub locate_here : leb r.oid oid && ltb oid (r.oid + r.pages) ≡ true → locate_or none l start oid ≡ Located (address_in start (oid - r.oid))
  unfolding locate_or
  locate_here h = rw (e, locate_or, h)

  pub locate_later : leb r.oid oid && ltb oid (r.oid + r.pages) ≡ false → locate_or none l start oid ≡ locate_or none rs (start + range_blocks r.pages) oid
  unfolding locate_or
  locate_later h = rw (e, locate_or, h)

pub locate_none : (none : Lookup) (start oid : ℕ) (l : List Range) → l ≡ [] → locate_or none l start oid ≡ none
unfolding locate_or
locate_none none start oid l e = rw (e, locate_or)

-- ---- a search for a range below an OID, and for one above it

module _ (oid : ℕ) (r : Range) (rs l : List Range) (e : l ≡ r ∷ rs) where
  pub below_here : r.oid + r.pages ≤ oid → some_below l oid ≡ true
  unfolding some_below
  below_here h = rw (e, some_below, le-leb (r.oid + r.pages) oid h)

  pub below_later : oid < r.oid + r.pages → some_below l oid ≡ some_below rs oid
  unfolding some_below
  below_later h = rw (e, some_below, lt-leb (r.oid + r.pages) oid h)

  pub above_here : oid < r.oid → some_above l oid ≡ true
  unfolding some_above
  above_here h = rw (e, some_above, lt-ltb oid r.oid h)

  pub above_later : r.oid ≤ oid → some_above l oid ≡ some_above rs oid
  unfolding some_above
  above_later h = rw (e, some_above, le-ltb oid r.oid h)

pub below_none : (oid : ℕ) (l : List Range) → l ≡ [] → some_below l oid ≡ false
unfolding some_below
below_none oid l e = rw (e, some_below)

pub above_none : (oid : ℕ) (l : List Range) → l ≡ [] → some_above l oid ≡ false
unfolding some_above
above_none oid l e = rw (e, some_above)

-- what is said of an OID in no range
module _ (rs : List Range) (oid : ℕ) where
  pub missing_gap : some_below rs oid ≡ true → some_above rs oid ≡ true → missing rs oid ≡ Gap
  unfolding missing
  missing_gap b a = rw (b, a)

  pub missing_below : some_below rs oid ≡ false → missing rs oid ≡ Outside
  unfolding missing
  missing_below b = rw b

  pub missing_above : some_above rs oid ≡ false → missing rs oid ≡ Outside
  unfolding missing
  missing_above a = rw (a, and-false (some_below rs oid))

-- ---- question 5, both ways

-- OIDs from low on that rise, do not overlap, and end below 4,294,967,296
abbrev pub RangesRise : ℕ → List Range → Type 0
RangesRise low [] = Unit {0}
RangesRise low (r ∷ rs) = (low ≤ r.oid) × (1 ≤ r.pages) × (r.oid + r.pages ≤ 4294967296) × RangesRise (r.oid + r.pages) rs

fill_tells : (low at blocks : ℕ) (rs : List Range) → ranges_fill low at blocks rs ≡ true → (blocks ≡ at + all_blocks rs) × RangesRise low rs
unfolding ranges_fill
fill_tells low at blocks [] e = (omega (arith, eqb-true at blocks e), tt)
fill_tells low at blocks (r ∷ rs) e =
    let a = both (leb low r.oid) _ e in
    let b = both (leb 1 r.pages) _ a.1 in
    let c = both (leb (r.oid + r.pages) 4294967296) _ b.1 in
    let more = fill_tells (r.oid + r.pages) (at + range_blocks r.pages) blocks rs c.1 in
    (omega (arith, more.0), (leb-true _ _ a.0, leb-true _ _ b.0, leb-true _ _ c.0, more.1))

ranges_fill_lem : (low at blocks : ℕ) (rs : List Range) → blocks ≡ at + all_blocks rs → RangesRise low rs → ranges_fill low at blocks rs ≡ true
unfolding ranges_fill
ranges_fill_lem low at blocks [] e h = eq-eqb at blocks (omega (arith, e))
ranges_fill_lem low at blocks (r ∷ rs) e h =
    joined (leb low r.oid) _ (le-leb _ _ h.0)
    (joined (leb 1 r.pages) _ (le-leb _ _ h.1)
    (joined (leb (r.oid + r.pages) 4294967296) _ (le-leb _ _ h.2)
    (ranges_fill_lem (r.oid + r.pages) (at + range_blocks r.pages) blocks rs (omega (arith, e)) h.3)))

-- the card's blocks are the header, the area and the ranges
pub record Geometry (blocks area : ℕ) (rs : List Range) : Type 0 where
  pub area_low : 8 ≤ area
  pub area_high : area ≤ 512
  pub some : 1 ≤ length rs
  pub few : length rs ≤ 8
  pub full : blocks ≡ 1 + area + all_blocks rs
  pub rise : RangesRise 0 rs

-- these facts are all of question 5
module _ (blocks area : ℕ) (rs : List Range) where
  pub geometry_tells : geometry_fits blocks area rs ≡ true → Geometry blocks area rs
  unfolding geometry_fits
  geometry_tells e =
      let a = both (leb 8 area) _ e in
      let b = both (leb area 512) _ a.1 in
      let c = both (leb 1 (length rs)) _ b.1 in
      let d = both (leb (length rs) 8) _ c.1 in
      let fill = fill_tells 0 (1 + area) blocks rs d.1 in
      record {
        area_low = leb-true _ _ a.0;
        area_high = leb-true _ _ b.0;
        some = leb-true _ _ c.0;
        few = leb-true _ _ d.0;
        full = fill.0;
        rise = fill.1;
      }

  pub geometry_fits_lem : Geometry blocks area rs → geometry_fits blocks area rs ≡ true
  unfolding geometry_fits
  geometry_fits_lem g =
      joined (leb 8 area) _ (le-leb _ _ g.area_low)
      (joined (leb area 512) _ (le-leb _ _ g.area_high)
      (joined (leb 1 (length rs)) _ (le-leb _ _ g.some)
      (joined (leb (length rs) 8) _ (le-leb _ _ g.few)
      (ranges_fill_lem 0 (1 + area) blocks rs g.full g.rise))))

-- what a header says of ranges that pass fits 32 bits
rise_fits : (low : ℕ) (rs : List Range) → RangesRise low rs → all_blocks rs ≤ 65536 → All FitsRange rs
rise_fits low [] h small = tt
rise_fits low (r ∷ rs) h small = ((omega (arith, h.1, h.2), omega arith), rise_fits (r.oid + r.pages) rs h.3 (omega arith))

pub geometry_numbers : (blocks area : ℕ) (rs : List Range) → geometry_fits blocks area rs ≡ true → blocks ≤ 65536 → All FitsRange rs
geometry_numbers blocks area rs e small =
    let g = geometry_tells blocks area rs e in
    rise_fits 0 rs g.rise (omega (arith, g.full))
