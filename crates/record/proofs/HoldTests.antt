-- What parts of question 2 tell before the rest of it is asked: bounds for the code that asks it.
-- Assumes nothing.
use Prim.Native.Nat.{ℕ, ◌+◌, ◌-◌, ◌≤◌, ◌<◌}
use borrow.Author.Tests.{ltb-true, leb-true, eqb-true, le-leb, lt-leb, eq-eqb, ne_eqb}
use lib.Dec.{leb, eqb}
use lib.ListN.{length, take}
use mathlib.Core.Bool.{true, ◌&&◌}
use mathlib.Core.List.{List, []}
use mathlib.Core.Logic.{⊎_elim}
use mathlib.Core.Path.{◌≡◌, refl, sym, ◌∙◌}
use native.Mathlib.Omega.{arith}
use Rattle.card.proofs.RangeLaws.{geometry_tells}
use Rattle.card.proofs.RingLaws.{size_some, entries_small}
use Rattle.card.proofs.Test.{both, le_or_lt, each_no, each_end}
use Rattle.card.specs.Range.{ranges_of}
use Rattle.card.specs.Ring.{half}
use Rattle.record.proofs.ListLaws.{cells_none, cells_take}
use Rattle.record.specs.Holds.{geometry_holds, committed_holds, pending_holds, current_holds, sizes_hold, counts_hold, spans_hold, directory_holds, changes_hold}
use Rattle.record.specs.Lists.{alone, all_alone, all_within, all_rising}
use Rattle.record.specs.Meaning.{waits, size_of, committed_size_of}
use Rattle.record.specs.declared.store.Changes.{Changes}
use Rattle.record.specs.declared.store.Store.{Store}

-- a sum tested as a difference
pub sum_leb : (a b c : ℕ) → a ≤ c → leb b (c - a) ≡ leb (a + b) c
sum_leb a b c h = ⊎_elim
    (λ k. le-leb b (c - a) (omega arith) ∙ sym (le-leb (a + b) c k))
    (λ k. lt-leb b (c - a) (omega arith) ∙ sym (lt-leb (a + b) c k))
    (le_or_lt (a + b) c)

-- ---- an empty directory

stand_none : (k to : ℕ) → all_alone [] k (to - k) ≡ leb to k
unfolding alone
stand_none k to = ⊎_elim
    (λ h. sym (each_end _ k to true refl h) ∙ sym (le-leb to k h))
    (λ h. sym (each_no _ k to true refl h refl refl) ∙ sym (lt-leb to k h))
    (le_or_lt to k)

pub none_filed : (area blocks p : ℕ) (frames spots : List ℕ) (n : ℕ) → n ≡ 0 → directory_holds area blocks p frames spots n ≡ true
unfolding directory_holds all_rising all_within
none_filed area blocks p frames spots n e = rw (e, cells_none frames, cells_none spots)

pub none_hold : (area blocks : ℕ) (g : Changes) → g.count ≡ 0 → changes_hold area blocks g ≡ leb g.taken g.down
unfolding changes_hold
none_hold area blocks g e = rw (none_filed area blocks g.taken g.frames g.places g.count e, e, cells_none g.places) (stand_none g.down g.taken)

-- ---- a directory as slices have it

pub filed_slices : (area blocks p : ℕ) (frames spots : List ℕ) (n : ℕ) → n ≤ length frames → n ≤ length spots
    → (all_rising (area + 1) blocks (take n frames) && all_within 0 p (take n spots)) ≡ directory_holds area blocks p frames spots n
unfolding directory_holds
filed_slices area blocks p frames spots n h k = rw (cells_take frames n h, cells_take spots n k)

pub changes_slices : (area blocks : ℕ) (g : Changes) → g.count ≤ length g.frames → g.count ≤ length g.places
    → ((all_rising (area + 1) blocks (take g.count g.frames) && all_within 0 g.taken (take g.count g.places)) && all_alone (take g.count g.places) g.down (waits g))
    ≡ changes_hold area blocks g
unfolding changes_hold
changes_slices area blocks g h k = rw (filed_slices area blocks g.taken g.frames g.places g.count h k, cells_take g.places g.count k)

-- ---- sizes

-- that no stretch is above half the area, and all lie in it
pub record Sizes (area a b c : ℕ) : Type 0 where
  pub half_a : a ≤ half area
  pub half_b : b ≤ half area
  pub half_c : c ≤ half area
  pub all : a + b + c ≤ area

pub sizes_tell : (area a b c : ℕ) → sizes_hold area a b c ≡ true → Sizes area a b c
unfolding sizes_hold
sizes_tell area a b c e =
    let p = both (leb a (half area)) _ e in
    let q = both (leb b (half area)) _ p.1 in
    let r = both (leb c (half area)) _ q.1 in
    record { half_a = leb-true a (half area) p.0; half_b = leb-true b (half area) q.0; half_c = leb-true c (half area) r.0; all = leb-true (a + b + c) area r.1 }

-- ---- counts

module _ (commit area first p e : ℕ) (h : committed_holds commit area first p e ≡ true) where
  pub none_told : commit ≡ 0 → (e ≡ 0) × (p ≡ 0) × (first ≡ 1)
  unfolding committed_holds
  none_told z =
      let a = both (eqb e 0) _ (rw (eq-eqb commit 0 z) at h) in
      let b = both (eqb p 0) _ a.1 in
      (eqb-true _ _ a.0, eqb-true _ _ b.0, eqb-true _ _ b.1)

  pub some_told : 0 < commit → (1 ≤ e) × (e ≤ p) × (1 ≤ first) × (first ≤ area)
  unfolding committed_holds
  some_told z =
      let a = both (leb 1 e) _ (rw (ne_eqb commit 0 (omega arith)) at h) in
      let b = both (leb e p) _ a.1 in
      let c = both (leb 1 first) _ b.1 in
      (leb-true _ _ a.0, leb-true _ _ b.0, leb-true _ _ c.0, leb-true _ _ c.1)

  -- in either case
  pub committed_told : 1 ≤ area → (1 ≤ first) × (first ≤ area) × (e ≤ p)
  committed_told l = ⊎_elim
      (λ z. let n = none_told (omega (arith, z)) in (omega (arith, n.2), omega (arith, n.2), omega (arith, n.0)))
      (λ z. let n = some_told z in (n.2, n.3, n.1))
      (le_or_lt commit 0)

module _ (commit p e down : ℕ) (h : pending_holds commit p e down ≡ true) where
  pub down_told : down ≤ p
  unfolding pending_holds
  down_told = leb-true _ _ (both (leb down p) _ h).0

  pub no_pending : e ≡ 0 → p ≡ 0
  unfolding pending_holds
  no_pending z = eqb-true p 0 (rw (eq-eqb e 0 z) at (both (leb down p) _ h).1)

  pub any_pending : 0 < e → (e ≤ p) × (commit < 4294967295)
  unfolding pending_holds
  any_pending l = let a = both (leb e p) _ (rw (ne_eqb e 0 (omega arith)) at (both (leb down p) _ h).1) in (leb-true _ _ a.0, ltb-true _ _ a.1)

  pub few_pending : e ≤ p
  few_pending = ⊎_elim (λ z. omega (arith, z)) (λ z. (any_pending z).0) (le_or_lt e 0)

pub current_told : (p e down : ℕ) → current_holds p e down ≡ true → (down ≤ p) × (e ≤ p)
unfolding current_holds
current_told p e down h = let a = both (leb e p) _ h in (leb-true down p a.1, leb-true e p a.0)

-- that no count is above its places
pub record Counts (s : Store) : Type 0 where
  pub area : s.geometry.area ≤ 512
  pub committed : s.committed.count ≤ s.pages
  pub pending : s.pending.count ≤ s.pending.taken
  pub pending_down_lem : s.pending.down ≤ s.pending.taken
  pub current : s.current.count ≤ s.current.taken
  pub current_down_lem : s.current.down ≤ s.current.taken

pub counts_tell : (s : Store) → counts_hold s ≡ true → Counts s
unfolding counts_hold geometry_holds
counts_tell s e =
    let a = both (geometry_holds s.geometry) _ e in
    let b = both (committed_holds s.commit s.geometry.area s.first s.pages s.committed.count) _ a.1 in
    let c = both (pending_holds s.commit s.pending.taken s.pending.count s.pending.down) _ b.1 in
    let g = geometry_tells s.geometry.blocks s.geometry.area (ranges_of s.geometry.ranges s.geometry.count) a.0 in
    let low : 8 ≤ s.geometry.area = g.area_low in
    let committed = committed_told s.commit s.geometry.area s.first s.pages s.committed.count b.0 (omega arith) in
    let current = current_told s.current.taken s.current.count s.current.down c.1 in
    record {
      area = g.area_high;
      committed = committed.2;
      pending = few_pending s.commit s.pending.taken s.pending.count s.pending.down c.0;
      pending_down_lem = down_told s.commit s.pending.taken s.pending.count s.pending.down c.0;
      current = current.1;
      current_down_lem = current.0;
    }

-- ---- counts and sizes together

-- that arrays of 256 have room
pub record Small (s : Store) : Type 0 where
  pub area : s.geometry.area ≤ 512
  pub pages : 0 < s.committed.count → s.pages < 256
  pub committed : s.committed.count ≤ 256
  pub pending : s.pending.count ≤ 256
  pub pending_taken : 0 < s.pending.count → s.pending.taken < 256
  pub current : s.current.count ≤ 256
  pub current_taken : 0 < s.current.count → s.current.taken < 256

pub sizes_small : (s : Store) → counts_hold s ≡ true → sizes_hold s.geometry.area (committed_size_of s) (size_of s.pending) (size_of s.current) ≡ true → Small s
sizes_small s e f =
    let c = counts_tell s e in
    let z = sizes_tell s.geometry.area (committed_size_of s) (size_of s.pending) (size_of s.current) f in
    let most = half s.geometry.area in
    let area : s.geometry.area ≤ 512 = c.area in
    let a : s.committed.count ≤ most = entries_small s.pages s.committed.count most c.committed z.half_a in
    let b : s.pending.count ≤ most = entries_small s.pending.taken s.pending.count most c.pending z.half_b in
    let d : s.current.count ≤ most = entries_small s.current.taken s.current.count most c.current z.half_c in
    record {
      area = area;
      pages = λ l. omega (arith, size_some s.pages s.committed.count l, z.half_a);
      committed = omega arith;
      pending = omega arith;
      pending_taken = λ l. omega (arith, size_some s.pending.taken s.pending.count l, z.half_b);
      current = omega arith;
      current_taken = λ l. omega (arith, size_some s.current.taken s.current.count l, z.half_c);
    }

pub spans_small : (s : Store) → counts_hold s ≡ true → spans_hold s ≡ true → Small s
unfolding spans_hold
spans_small s e f = sizes_small s e (both (sizes_hold s.geometry.area (committed_size_of s) (size_of s.pending) (size_of s.current)) _ f).0
