-- What tests over tabulated numbers tell of each index, and back.
-- Assumes nothing.
use Prim.Native.Nat.{ℕ, zero, suc, ◌+◌, ◌-◌, ◌≤◌, ◌<◌}
use borrow.Author.Tests.{ltb-true, leb-true, eqb-false, not-true, lt-ltb, le-leb, eq-eqb, ne_eqb}
use lib.Dec.{leb, ltb, eqb}
use mathlib.Core.Bool.{Bool, true, false, cond, ◌&&◌, false≢true}
use mathlib.Core.Logic.{◌≢◌}
use mathlib.Core.Path.{◌≡◌, refl, ap, sym, ◌∙◌, subst}
use native.Mathlib.Decide.{ℕ_discrete}
use native.Mathlib.Omega.{arith}
use Rattle.card.proofs.Test.{both, joined, each_at, each_all}
use Rattle.card.specs.Bytes.{tabulate, each}
use Rattle.record.specs.Lists.{elem, once, alone, within, all_within, all_rising}

-- two tests, each yes where the other is
pub same_answer : (a b : Bool) → (a ≡ true → b ≡ true) → (b ≡ true → a ≡ true) → a ≡ b
same_answer true b h k = sym (h refl)
same_answer false true h k = k refl
same_answer false false h k = refl

not_yes : (a : Bool) → (a ≡ true → ⊥) → a ≡ false
not_yes true h = absurd (h refl)
not_yes false h = refl

-- ---- every index of a run

-- the first index of a run, or a later one
run : (P : ℕ → Type 0) (i n : ℕ) → P i → ((k : ℕ) → suc i ≤ k → k < suc i + n → P k) → (k : ℕ) → i ≤ k → k < i + suc n → P k
run P i n p q k a b = go (ℕ_discrete i k)
  where
    go : Dec (i ≡ k) → P k
    go (yes e) = rw e at p
    go (no d) = q k (omega arith) (omega arith)

-- ---- all_within

module _ (low high : ℕ) (f : ℕ → ℕ) where
  -- as a test at each index
  pub within_tab : (i n : ℕ) → all_within low high (tabulate f i n) ≡ each (λ k. within low high (f k)) i n
  unfolding all_within tabulate each
  within_tab i zero = refl
  within_tab i (suc n) = rw (within_tab (suc i) n)

  pub within-each : (i n : ℕ) → all_within low high (tabulate f i n) ≡ true → (k : ℕ) → i ≤ k → k < i + n → (low ≤ f k) × (f k < high)
  unfolding within
  within-each i n h k a b = let p = both (leb low (f k)) _ (each_at (λ j. within low high (f j)) i n k (sym (within_tab i n) ∙ h) a b) in (leb-true _ _ p.0, ltb-true _ _ p.1)

  pub each_within : (i n : ℕ) → ((k : ℕ) → i ≤ k → k < i + n → (low ≤ f k) × (f k < high)) → all_within low high (tabulate f i n) ≡ true
  unfolding within
  each_within i n h = within_tab i n ∙ each_all (λ j. within low high (f j)) i n (λ k a b. let p = h k a b in joined (leb low (f k)) _ (le-leb _ _ p.0) (lt-ltb _ _ p.1))

-- ---- all_rising

module _ (high : ℕ) (f : ℕ → ℕ) where
  pub rising_told : (low i n : ℕ) → all_rising low high (tabulate f i n) ≡ true
      → ((k : ℕ) → i ≤ k → k < i + n → (low ≤ f k) × (f k < high)) × ((j k : ℕ) → i ≤ j → j < k → k < i + n → f j < f k)
  unfolding tabulate all_rising within
  rising_told low i zero h = (λ k a b. absurd (omega arith), λ j k a l b. absurd (omega arith))
  rising_told low i (suc n) h =
      let p = both (leb low (f i) && ltb (f i) high) _ h in
      let q = both (leb low (f i)) _ p.0 in
      let least : low ≤ f i = leb-true _ _ q.0 in
      let most : f i < high = ltb-true _ _ q.1 in
      let r = rising_told (suc (f i)) (suc i) n p.1 in (
        run (λ k. (low ≤ f k) × (f k < high)) i n (least, most) (λ k a b. let x = r.0 k a b in (omega (arith, x.0), x.1)),
        λ j k a l b. run (λ (j : ℕ). j < k → f j < f k) i n (λ q. omega (arith, (r.0 k (omega arith) (omega arith)).0)) (λ j c d q. r.1 j k c q (omega arith)) j a (omega arith) l,
      )

  pub told_rising : (low i n : ℕ) → ((k : ℕ) → i ≤ k → k < i + n → (low ≤ f k) × (f k < high)) → ((j k : ℕ) → i ≤ j → j < k → k < i + n → f j < f k)
      → all_rising low high (tabulate f i n) ≡ true
  unfolding tabulate all_rising within
  told_rising low i zero h up = refl
  told_rising low i (suc n) h up =
      let p = h i (omega arith) (omega arith) in
      joined (leb low (f i) && ltb (f i) high) _ (joined (leb low (f i)) _ (le-leb _ _ p.0) (lt-ltb _ _ p.1))
      (told_rising (suc (f i)) (suc i) n (λ k a b. (up i k (omega arith) a (omega arith), (h k (omega arith) (omega arith)).1)) (λ j k a l b. up j k (omega arith) l (omega arith)))

  -- what rises from each index to the next rises
  pub steps_rise : (n : ℕ) → ((k : ℕ) → 1 ≤ k → k < n → f (k - 1) < f k) → (i j : ℕ) → i < j → j < n → f i < f j
  steps_rise n up i zero l h = absurd (omega arith)
  steps_rise n up i (suc m) l h = go (ℕ_discrete i m) (λ q. steps_rise n up i m q (omega arith))
    where
      last : f m < f (suc m)
      last = let e : suc m - 1 ≡ m = omega arith in rw e at (up (suc m) (omega arith) h)

      go : Dec (i ≡ m) → (i < m → f i < f m) → f i < f (suc m)
      go (yes e) rec = rw e last
      go (no d) rec = omega (arith, rec (omega arith), last)

  pub first_low : (low n : ℕ) → 0 < n → f 0 < low → all_rising low high (tabulate f 0 n) ≡ false
  first_low low n some h = not_yes _ (λ e. omega (arith, ((rising_told low 0 n e).0 0 (omega arith) (omega arith)).0, h))

  pub last_high : (low n : ℕ) → 0 < n → high ≤ f (n - 1) → all_rising low high (tabulate f 0 n) ≡ false
  last_high low n some h = not_yes _ (λ e. omega (arith, ((rising_told low 0 n e).0 (n - 1) (omega arith) (omega arith)).1, h))

  -- n elements that rise are within bounds where the first and the last are
  pub rising_is : (low n : ℕ) → 0 < n → low ≤ f 0 → f (n - 1) < high → each (λ k. ltb (f (k - 1)) (f k)) 1 (n - 1) ≡ all_rising low high (tabulate f 0 n)
  rising_is low n some least most = same_answer _ _
      (λ e.
      let up : (i j : ℕ) → i < j → j < n → f i < f j = steps_rise n (λ k a b. ltb-true _ _ (each_at (λ k. ltb (f (k - 1)) (f k)) 1 (n - 1) k e a (omega arith))) in
      told_rising low 0 n (λ k a b. (from_first k up (omega arith) (ℕ_discrete 0 k), to_last k up (omega arith) (ℕ_discrete (n - 1) k))) (λ j k a l b. up j k l (omega arith)))
      (λ e. each_all (λ k. ltb (f (k - 1)) (f k)) 1 (n - 1) (λ k a b. lt-ltb _ _ ((rising_told low 0 n e).1 (k - 1) k (omega arith) (omega arith) (omega arith))))
    where
      from_first : (k : ℕ) → ((i j : ℕ) → i < j → j < n → f i < f j) → k < n → Dec (0 ≡ k) → low ≤ f k
      from_first k up h (yes e) = subst (λ (i : ℕ). low ≤ f i) e least
      from_first k up h (no d) = omega (arith, least, up 0 k (omega arith) h)

      to_last : (k : ℕ) → ((i j : ℕ) → i < j → j < n → f i < f j) → k < n → Dec (n - 1 ≡ k) → f k < high
      to_last k up h (yes e) = subst (λ (i : ℕ). f i < high) e most
      to_last k up h (no d) = omega (arith, most, up k (n - 1) (omega arith) (omega arith))

-- ---- elem

-- both answers no
neither : (a b : Bool) → cond a true b ≡ false → (a ≡ false) × (b ≡ false)
neither true b e = absurd (false≢true (sym e))
neither false b e = (refl, e)

module _ (f : ℕ → ℕ) (x : ℕ) where
  pub elem_none : (i n : ℕ) → elem x (tabulate f i n) ≡ false → (k : ℕ) → i ≤ k → k < i + n → f k ≢ x
  unfolding tabulate elem
  elem_none i zero h = λ k a b. absurd (omega arith)
  elem_none i (suc n) h =
      let p = neither (eqb (f i) x) _ h in
      run (λ k. f k ≢ x) i n (eqb-false _ _ p.0) (elem_none (suc i) n p.1)

  pub none_elem : (i n : ℕ) → ((k : ℕ) → i ≤ k → k < i + n → f k ≢ x) → elem x (tabulate f i n) ≡ false
  unfolding tabulate elem
  none_elem i zero h = refl
  none_elem i (suc n) h = rw (ne_eqb (f i) x (h i (omega arith) (omega arith))) (none_elem (suc i) n (λ k a b. h k (omega arith) (omega arith)))

-- ---- once

-- the first answer no, the second yes
second : (a b : Bool) → cond a false b ≡ true → (a ≡ false) × (b ≡ true)
second true b e = absurd (false≢true e)
second false b e = (refl, e)

module _ (f : ℕ → ℕ) where
  pub once-apart : (i n : ℕ) → once (tabulate f i n) ≡ true → (j k : ℕ) → i ≤ j → j < k → k < i + n → f j ≢ f k
  unfolding tabulate once
  once-apart i zero h j k a l b = absurd (omega arith)
  once-apart i (suc n) h j k a l b =
      let p = second (elem (f i) (tabulate f (suc i) n)) _ h in
      run (λ (j : ℕ). j < k → f j ≢ f k) i n (λ q e. elem_none f (f i) (suc i) n p.0 k (omega arith) (omega arith) (sym e))
      (λ j c d q. once-apart (suc i) n p.1 j k c q (omega arith)) j a (omega arith) l

  pub apart-once : (i n : ℕ) → ((j k : ℕ) → i ≤ j → j < k → k < i + n → f j ≢ f k) → once (tabulate f i n) ≡ true
  unfolding tabulate once
  apart-once i zero h = refl
  apart-once i (suc n) h =
      rw (none_elem f (f i) (suc i) n (λ k a b e. h i k (omega arith) (omega arith) (omega arith) (sym e)))
      (apart-once (suc i) n (λ j k a l b. h j k (omega arith) l (omega arith)))

  -- ---- alone

  -- x stands at exactly one of the n indexes from i on
  abbrev pub Stands : ℕ → ℕ → ℕ → Type 0
  Stands x i n = (k : ℕ) × (i ≤ k) × (k < i + n) × (f k ≡ x) × ((j : ℕ) → i ≤ j → j < i + n → f j ≡ x → j ≡ k)

  pub alone_stands : (x i n : ℕ) → alone x (tabulate f i n) ≡ true → Stands x i n
  unfolding tabulate alone
  alone_stands x i zero h = absurd (false≢true h)
  alone_stands x i (suc n) h = go (ℕ_discrete (f i) x) (alone_stands x (suc i) n)
    where
      go : Dec (f i ≡ x) → (alone x (tabulate f (suc i) n) ≡ true → Stands x (suc i) n) → Stands x i (suc n)
      go (yes e) rec =
          let absent : elem x (tabulate f (suc i) n) ≡ false = not-true _ (rw (eq-eqb (f i) x e) at h) in
          (i, omega arith, omega arith, e, run (λ j. f j ≡ x → j ≡ i) i n (λ q. refl) (λ j a b q. absurd (elem_none f x (suc i) n absent j a b q)))
      go (no d) rec =
          let r = rec (rw (ne_eqb (f i) x d) at h) in
          (r.0, omega (arith, r.1), omega (arith, r.2), r.3, run (λ j. f j ≡ x → j ≡ r.0) i n (λ q. absurd (d q)) r.4)

  pub stands_alone : (x i n : ℕ) → Stands x i n → alone x (tabulate f i n) ≡ true
  unfolding tabulate alone
  stands_alone x i zero s = absurd (omega (arith, s.1, s.2))
  stands_alone x i (suc n) s = go (ℕ_discrete (f i) x) (stands_alone x (suc i) n)
    where
      go : Dec (f i ≡ x) → (Stands x (suc i) n → alone x (tabulate f (suc i) n) ≡ true) → alone x (tabulate f i (suc n)) ≡ true
      go (yes e) rec =
          rw (eq-eqb (f i) x e, none_elem f x (suc i) n (λ k a b q. omega (arith, s.4 i (omega arith) (omega arith) e, s.4 k (omega arith) (omega arith) q)))
      go (no d) rec =
          let other : i ≢ s.0 = λ q. d (ap f q ∙ s.3) in
          rw (ne_eqb (f i) x d) (rec (s.0, omega (arith, s.1), omega (arith, s.2), s.3, λ j a b q. s.4 j (omega arith) (omega arith) q))
