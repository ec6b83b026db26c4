-- Question 2 as facts: what a record that holds together tells, and that these facts are all of it.
-- Assumes nothing.
use Prim.Native.Nat.{ℕ, ◌+◌, ◌≤◌, ◌<◌}
use borrow.Author.Tests.{ltb-true, leb-true, eqb-true, eqb-false, lt-ltb, le-leb, eq-eqb, ne_eqb}
use lib.Dec.{leb, ltb, eqb}
use lib.ListN.{get_or}
use mathlib.Core.Bool.{true, false≢true}
use mathlib.Core.Logic.{◌≢◌, ⊎_elim}
use mathlib.Core.List.{List}
use mathlib.Core.Path.{◌≡◌, refl}
use native.Mathlib.Decide.{ℕ_discrete}
use native.Mathlib.Omega.{arith}
use Rattle.card.proofs.RangeLaws.{geometry_tells}
use Rattle.card.proofs.Test.{by_test, both, joined, le_or_lt, each_at, each_all}
use Rattle.card.specs.Directory.{PlacesBelow}
use Rattle.card.specs.Range.{ranges_of, geometry_fits}
use Rattle.card.specs.Ring.{half}
use Rattle.record.proofs.HoldTests.{sizes_tell, spans_small, none_told, some_told, committed_told, down_told, no_pending, any_pending, few_pending, current_told}
use Rattle.record.proofs.Tests.{within-each, each_within, rising_told, told_rising, alone_stands, stands_alone}
use Rattle.record.specs.Holds.{geometry_holds, committed_holds, pending_holds, current_holds, sizes_hold, tail_for, tail_holds, flushed_holds, phase_holds, order_holds, memory_holds, counts_hold, spans_hold, directory_holds, changes_hold, holds_together}
use Rattle.record.specs.Lists.{cells, all_rising, Rises}
use Rattle.record.specs.Meaning.{waits, size_of, committed_size_of}
use Rattle.record.specs.declared.store.Changes.{Changes}
use Rattle.record.specs.declared.store.Store.{Store}

-- what it tells of a directory
pub record Filed (area blocks p : ℕ) (frames spots : List ℕ) (n : ℕ) : Type 0 where
  pub home : (i : ℕ) → i < n → (area < get_or frames i 0) × (get_or frames i 0 < blocks)
  pub rises : Rises frames n
  pub taken : PlacesBelow p n spots

-- and of the pending or the current one
pub record Listed (area blocks : ℕ) (g : Changes) : Type 0 where
  pub filed : Filed area blocks g.taken g.frames g.places g.count
  -- each place that is not down is the last one of exactly one entry
  pub stands : (k : ℕ) → g.down ≤ k → k < g.taken → (i : ℕ) × (i < g.count) × (get_or g.places i 0 ≡ k) × ((j : ℕ) → j < g.count → get_or g.places j 0 ≡ k → j ≡ i)

-- ---- a directory

module _ (area blocks p : ℕ) (frames spots : List ℕ) (n : ℕ) where
  pub filed : directory_holds area blocks p frames spots n ≡ true → Filed area blocks p frames spots n
  unfolding directory_holds
  filed e =
      let a = both (all_rising (area + 1) blocks (cells frames 0 n)) _ e in
      let r = rising_told blocks (λ k. get_or frames k 0) (area + 1) 0 n a.0 in
      record {
        home = λ i h. let q = r.0 i (omega arith) (omega arith) in (omega (arith, q.0), q.1);
        rises = λ i j l h. r.1 i j (omega arith) l (omega arith);
        taken = λ i h. (within-each 0 p (λ k. get_or spots k 0) 0 n a.1 i (omega arith) (omega arith)).1;
      }

  pub filed_back : Filed area blocks p frames spots n → directory_holds area blocks p frames spots n ≡ true
  unfolding directory_holds
  filed_back h =
      joined (all_rising (area + 1) blocks (cells frames 0 n)) _
      (told_rising blocks (λ k. get_or frames k 0) (area + 1) 0 n (λ i a b. let q = h.home i (omega arith) in (omega (arith, q.0), q.1)) (λ i j a l b. h.rises i j l (omega arith)))
      (each_within 0 p (λ k. get_or spots k 0) 0 n (λ i a b. (omega arith, h.taken i (omega arith))))

-- ---- the pending or the current one

module _ (area blocks : ℕ) (g : Changes) where
  pub listed : changes_hold area blocks g ≡ true → Listed area blocks g
  unfolding changes_hold
  listed e =
      let a = both (directory_holds area blocks g.taken g.frames g.places g.count) _ e in
      record {
        filed = filed area blocks g.taken g.frames g.places g.count a.0;
        stands = λ k l h.
            let p = alone_stands (λ k. get_or g.places k 0) k 0 g.count (each_at _ g.down (waits g) k a.1 l (omega arith)) in
            (p.0, omega (arith, p.2), p.3, λ j q r. p.4 j (omega arith) (omega arith) r);
      }

  pub listed_back : Listed area blocks g → changes_hold area blocks g ≡ true
  unfolding changes_hold
  listed_back h =
      joined (directory_holds area blocks g.taken g.frames g.places g.count) _
      (filed_back area blocks g.taken g.frames g.places g.count h.filed)
      (each_all _ g.down (waits g)
      (λ k a b.
      let p = h.stands k a (omega arith) in
      stands_alone (λ i. get_or g.places i 0) k 0 g.count (p.0, omega arith, omega (arith, p.1), p.2, λ j c d q. p.3 j (omega arith) q)))

-- ---- how flushes stand

pub record PhaseTold (phase migrated committed tail pending : ℕ) : Type 0 where
  pub known : phase ≤ 2
  pub after : phase ≡ 1 → (0 < pending) × (tail ≡ tail_for pending) × (committed ≤ migrated)
  pub before : phase ≡ 2 → (migrated ≡ 0) × (tail ≡ 0)

tail_told : (tail waiting : ℕ) → tail_holds tail waiting ≡ true → 0 < tail → waiting ≡ 0
unfolding tail_holds
tail_told tail waiting e l = eqb-true waiting 0 (rw (ne_eqb tail 0 (omega arith)) at e)

phase_told : (phase migrated committed tail pending : ℕ) → phase_holds phase migrated committed tail pending ≡ true → PhaseTold phase migrated committed tail pending
unfolding phase_holds flushed_holds
phase_told phase migrated committed tail pending e = go (ℕ_discrete phase 0) (ℕ_discrete phase 1) (ℕ_discrete pending 0)
  where
    go : Dec (phase ≡ 0) → Dec (phase ≡ 1) → Dec (pending ≡ 0) → PhaseTold phase migrated committed tail pending
    go (yes z) q r = record { known = omega arith; after = λ o. absurd (omega (arith, z, o)); before = λ o. absurd (omega (arith, z, o)) }
    go (no d) (yes o) (yes n) = absurd (false≢true (rw (ne_eqb phase 0 d, eq-eqb phase 1 o, eq-eqb pending 0 n) at e))
    go (no d) (yes o) (no n) =
        let a = both (eqb tail (tail_for pending)) _ (rw (ne_eqb phase 0 d, eq-eqb phase 1 o, ne_eqb pending 0 n) at e) in
        record { known = omega arith; after = λ x. (omega (arith, n), eqb-true _ _ a.0, leb-true _ _ a.1); before = λ x. absurd (omega (arith, o, x)) }
    go (no d) (no o) r =
        let a = both (eqb phase 2) _ (rw (ne_eqb phase 0 d, ne_eqb phase 1 o) at e) in
        let b = both (eqb migrated 0) _ a.1 in
        let two : phase ≡ 2 = eqb-true phase 2 a.0 in
        record { known = omega arith; after = λ x. absurd (o x); before = λ x. (eqb-true migrated 0 b.0, eqb-true tail 0 b.1) }

phase_back : (phase migrated committed tail pending : ℕ) → PhaseTold phase migrated committed tail pending → phase_holds phase migrated committed tail pending ≡ true
unfolding phase_holds flushed_holds
phase_back phase migrated committed tail pending t = go (ℕ_discrete phase 0) (ℕ_discrete phase 1)
  where
    go : Dec (phase ≡ 0) → Dec (phase ≡ 1) → phase_holds phase migrated committed tail pending ≡ true
    go (yes z) q = rw (eq-eqb phase 0 z)
    go (no d) (yes o) = let a = t.after o in rw (ne_eqb phase 0 d, eq-eqb phase 1 o, ne_eqb pending 0 (omega (arith, a.0))) (joined _ _ (eq-eqb tail (tail_for pending) a.1) (le-leb _ _ a.2))
    go (no d) (no o) =
        let two : phase ≡ 2 = omega (arith, t.known, d, o) in
        let b = t.before two in
        rw (ne_eqb phase 0 d, ne_eqb phase 1 o) (joined _ _ (eq-eqb phase 2 two) (joined _ _ (eq-eqb migrated 0 b.0) (eq-eqb tail 0 b.1)))

-- question 2 as named facts
pub record Held (s : Store) : Type 0 where
  pub geometry : geometry_fits s.geometry.blocks s.geometry.area (ranges_of s.geometry.ranges s.geometry.count) ≡ true
  pub first_low : 1 ≤ s.first
  pub first_high : s.first ≤ s.geometry.area
  pub none_committed : s.commit ≡ 0 → (s.committed.count ≡ 0) × (s.pages ≡ 0) × (s.first ≡ 1)
  pub some_committed : 0 < s.commit → 1 ≤ s.committed.count
  pub committed_few : s.committed.count ≤ s.pages
  pub commit_limit : 0 < s.pending.count → s.commit < 4294967295
  pub pending_few : s.pending.count ≤ s.pending.taken
  pub pending_down_lem : s.pending.down ≤ s.pending.taken
  pub none_pending : s.pending.count ≡ 0 → s.pending.taken ≡ 0
  pub current_few : s.current.count ≤ s.current.taken
  pub current_down_lem : s.current.down ≤ s.current.taken
  pub half_committed : committed_size_of s ≤ half s.geometry.area
  pub half_pending : size_of s.pending ≤ half s.geometry.area
  pub half_current : size_of s.current ≤ half s.geometry.area
  pub room : committed_size_of s + size_of s.pending + size_of s.current ≤ s.geometry.area
  pub migrated_within : s.migrated ≤ s.committed.count
  pub tail_within : s.tail ≤ tail_for s.pending.count
  pub tail_after : 0 < s.tail → waits s.pending ≡ 0
  pub phase_known : s.phase ≤ 2
  pub flushed_after : s.phase ≡ 1 → (0 < s.pending.count) × (s.tail ≡ tail_for s.pending.count) × (s.committed.count ≤ s.migrated)
  pub owed_before : s.phase ≡ 2 → (s.migrated ≡ 0) × (s.tail ≡ 0)
  pub head_low : s.head < s.frames
  pub seated : waits s.pending + waits s.current ≤ s.frames
  pub committed : Filed s.geometry.area s.geometry.blocks s.pages s.committed.frames s.committed.places s.committed.count
  pub pending : Listed s.geometry.area s.geometry.blocks s.pending
  pub current : Listed s.geometry.area s.geometry.blocks s.current

-- bounds that geometry and sizes give
pub record Bounds (s : Store) : Type 0 where
  pub area_low : 8 ≤ s.geometry.area
  pub area_high : s.geometry.area ≤ 512
  pub area_inside : s.geometry.area < s.geometry.blocks
  pub committed_small : s.committed.count ≤ 256
  pub pending_small : s.pending.count ≤ 256
  pub pending_taken : s.pending.taken ≤ 256
  pub current_small : s.current.count ≤ 256

-- ---- question 2

pub held : (s : Store) → holds_together s ≡ true → Held s
unfolding holds_together counts_hold geometry_holds spans_hold order_holds memory_holds
held s h =
    let area = s.geometry.area in
    let blocks = s.geometry.blocks in
    let counts = both (counts_hold s) _ h in
    let spans = both (spans_hold s) _ counts.1 in
    let listing = both (directory_holds area blocks s.pages s.committed.frames s.committed.places s.committed.count) _ spans.1 in
    let changes = both (changes_hold area blocks s.pending) _ listing.1 in
    let a = both (geometry_fits blocks area (ranges_of s.geometry.ranges s.geometry.count)) _ counts.0 in
    let b = both (committed_holds s.commit area s.first s.pages s.committed.count) _ a.1 in
    let c = both (pending_holds s.commit s.pending.taken s.pending.count s.pending.down) _ b.1 in
    let d = current_told s.current.taken s.current.count s.current.down c.1 in
    let sizes = both (sizes_hold area (committed_size_of s) (size_of s.pending) (size_of s.current)) _ spans.0 in
    let rest = both (order_holds s.migrated s.committed.count s.tail s.pending.count (waits s.pending) s.phase) _ sizes.1 in
    let k = sizes_tell area (committed_size_of s) (size_of s.pending) (size_of s.current) sizes.0 in
    let m = both (leb s.migrated s.committed.count) _ rest.0 in
    let n = both (leb s.tail (tail_for s.pending.count)) _ m.1 in
    let t = both (tail_holds s.tail (waits s.pending)) _ n.1 in
    let ph = phase_told s.phase s.migrated s.committed.count s.tail s.pending.count t.1 in
    let o = both (ltb s.head s.frames) _ rest.1 in
    let low : 8 ≤ s.geometry.area = (geometry_tells _ _ _ a.0).area_low in
    let p = committed_told s.commit s.geometry.area s.first s.pages s.committed.count b.0 (omega arith) in
    record {
      geometry = a.0;
      first_low = p.0;
      first_high = p.1;
      none_committed = none_told s.commit area s.first s.pages s.committed.count b.0;
      some_committed = λ l. (some_told s.commit area s.first s.pages s.committed.count b.0 l).0;
      committed_few = p.2;
      commit_limit = λ l. (any_pending s.commit s.pending.taken s.pending.count s.pending.down c.0 l).1;
      pending_few = few_pending s.commit s.pending.taken s.pending.count s.pending.down c.0;
      pending_down_lem = down_told s.commit s.pending.taken s.pending.count s.pending.down c.0;
      none_pending = no_pending s.commit s.pending.taken s.pending.count s.pending.down c.0;
      current_few = d.1;
      current_down_lem = d.0;
      half_committed = k.half_a;
      half_pending = k.half_b;
      half_current = k.half_c;
      room = k.all;
      migrated_within = leb-true _ _ m.0;
      tail_within = leb-true _ _ n.0;
      tail_after = λ l. tail_told s.tail (waits s.pending) t.0 l;
      phase_known = ph.known;
      flushed_after = ph.after;
      owed_before = ph.before;
      head_low = ltb-true _ _ o.0;
      seated = leb-true _ _ o.1;
      committed = filed area blocks s.pages s.committed.frames s.committed.places s.committed.count listing.0;
      pending = listed area blocks s.pending changes.0;
      current = listed area blocks s.current changes.1;
    }

pub together : (s : Store) → Held s → holds_together s ≡ true
unfolding holds_together counts_hold geometry_holds committed_holds pending_holds current_holds spans_hold sizes_hold order_holds tail_holds memory_holds
together s h =
    joined (counts_hold s) _
    (joined (geometry_fits s.geometry.blocks s.geometry.area (ranges_of s.geometry.ranges s.geometry.count)) _ h.geometry
    (joined (committed_holds s.commit s.geometry.area s.first s.pages s.committed.count) _ committed_yes
    (joined (pending_holds s.commit s.pending.taken s.pending.count s.pending.down) _ pending_yes
    (joined (leb s.current.count s.current.taken) _ (le-leb _ _ h.current_few) (le-leb _ _ h.current_down_lem)))))
    (joined (spans_hold s) _
    (joined (sizes_hold s.geometry.area (committed_size_of s) (size_of s.pending) (size_of s.current)) _
    (joined (leb (committed_size_of s) (half s.geometry.area)) _ (le-leb _ _ h.half_committed)
    (joined (leb (size_of s.pending) (half s.geometry.area)) _ (le-leb _ _ h.half_pending)
    (joined (leb (size_of s.current) (half s.geometry.area)) _ (le-leb _ _ h.half_current) (le-leb _ _ h.room))))
    (joined (order_holds s.migrated s.committed.count s.tail s.pending.count (waits s.pending) s.phase) _
    (joined (leb s.migrated s.committed.count) _ (le-leb _ _ h.migrated_within)
    (joined (leb s.tail (tail_for s.pending.count)) _ (le-leb _ _ h.tail_within) (joined (tail_holds s.tail (waits s.pending)) _ tail_yes phase_yes)))
    (joined (ltb s.head s.frames) _ (lt-ltb _ _ h.head_low) (le-leb _ _ h.seated))))
    (joined (directory_holds s.geometry.area s.geometry.blocks s.pages s.committed.frames s.committed.places s.committed.count) _
    (filed_back s.geometry.area s.geometry.blocks s.pages s.committed.frames s.committed.places s.committed.count h.committed)
    (joined (changes_hold s.geometry.area s.geometry.blocks s.pending) _ (listed_back s.geometry.area s.geometry.blocks s.pending h.pending)
    (listed_back s.geometry.area s.geometry.blocks s.current h.current))))
  where
    committed_yes : committed_holds s.commit s.geometry.area s.first s.pages s.committed.count ≡ true
    committed_yes = by_test (λ t. t ≡ true) (eqb s.commit 0)
        (λ z. let n = h.none_committed (eqb-true _ _ z) in joined (eqb s.committed.count 0) _ (eq-eqb _ _ n.0) (joined (eqb s.pages 0) _ (eq-eqb _ _ n.1) (eq-eqb _ _ n.2)))
        (λ z. let ne : s.commit ≢ 0 = eqb-false _ _ z in joined (leb 1 s.committed.count) _ (le-leb _ _ (h.some_committed (omega arith)))
        (joined (leb s.committed.count s.pages) _ (le-leb _ _ h.committed_few) (joined (leb 1 s.first) _ (le-leb _ _ h.first_low) (le-leb _ _ h.first_high))))

    pending_yes : pending_holds s.commit s.pending.taken s.pending.count s.pending.down ≡ true
    pending_yes = joined (leb s.pending.down s.pending.taken) _ (le-leb _ _ h.pending_down_lem) (by_test (λ t. t ≡ true) (eqb s.pending.count 0)
        (λ z. eq-eqb _ _ (h.none_pending (eqb-true _ _ z)))
        (λ z. let ne : s.pending.count ≢ 0 = eqb-false _ _ z in joined (leb s.pending.count s.pending.taken) _ (le-leb _ _ h.pending_few) (lt-ltb _ _ (h.commit_limit (omega arith)))))

    phase_yes : phase_holds s.phase s.migrated s.committed.count s.tail s.pending.count ≡ true
    phase_yes = phase_back s.phase s.migrated s.committed.count s.tail s.pending.count (record { known = h.phase_known; after = h.flushed_after; before = h.owed_before })

    tail_yes : tail_holds s.tail (waits s.pending) ≡ true
    tail_yes = by_test (λ t. t ≡ true) (eqb s.tail 0) (λ z. refl) (λ z. let ne : s.tail ≢ 0 = eqb-false _ _ z in eq-eqb _ _ (h.tail_after (omega arith)))

-- ---- bounds

pub bounds : (s : Store) → Held s → Bounds s
unfolding holds_together
bounds s h =
    let counts = both (counts_hold s) _ (together s h) in
    let small = spans_small s counts.0 (both (spans_hold s) _ counts.1).0 in
    let g = geometry_tells _ _ _ h.geometry in
    record {
      area_low = g.area_low;
      area_high = small.area;
      area_inside = omega (arith, g.full);
      committed_small = small.committed;
      pending_small = small.pending;
      pending_taken = ⊎_elim (λ l. omega (arith, small.pending_taken l)) (λ l. omega (arith, h.none_pending (omega (arith, l)))) (le_or_lt 1 s.pending.count);
      current_small = small.current;
    }
