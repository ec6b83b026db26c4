-- Tests that a definition makes, and what they tell.
-- Assumes nothing.

use Prim.Native.Nat.{ℕ, zero, suc, ◌+◌, ◌-◌, ◌≤◌, ◌<◌, zero-le, suc-le-suc}
use borrow.Author.Tests.{eqb-true}
use lib.Dec.{eqb}
use mathlib.Core.Bool.{Bool, true, false, cond, ◌&&◌, ◌||◌, false≢true, and-true, and-false}
use mathlib.Core.Logic.{◌≢◌, ◌⊎◌, inl, inr, ⊎_elim}
use mathlib.Core.Path.{◌≡◌, refl, sym, ◌∙◌}
use native.Mathlib.Nat.{eq-or-lt_of_le}
use native.Mathlib.Numerals.{add-one}
use native.Mathlib.Omega.{arith}
use Rattle.card.specs.Bytes.{each}

-- what holds of both branches, each under what its test tells, holds of the whole
pub by_test : {A : Type 0} (P : A → Type 0) (t : Bool) {x y : A} → (t ≡ true → P x) → (t ≡ false → P y) → P (cond t x y)
by_test P true h k = h refl
by_test P false h k = k refl

-- both tests passed
pub both : (a b : Bool) → a && b ≡ true → (a ≡ true) × (b ≡ true)
both true b e = (refl, e)
both false b e = absurd (false≢true e)

pub joined : (a b : Bool) → a ≡ true → b ≡ true → a && b ≡ true
joined true b p q = q
joined false b p q = p

-- one of two tests passed
pub either : (a b : Bool) → a || b ≡ true → (a ≡ true) ⊎ (b ≡ true)
either true b e = inl refl
either false b e = inr e

and_swap : (a b c d : Bool) → (a && b) && (c && d) ≡ (a && c) && (b && d)
and_swap true true c d = refl
and_swap true false c d = sym (and-false c)
and_swap false b c d = refl

-- two tests of f against different numbers change places
pub tests_swap : {A : Type 0} (f g h : ℕ) (x y z : A) → g ≢ h → cond (eqb f g) x (cond (eqb f h) y z) ≡ cond (eqb f h) y (cond (eqb f g) x z)
tests_swap f g h x y z ne = go (eqb f g) (eqb f h) refl refl
  where
    go : (s t : Bool) → eqb f g ≡ s → eqb f h ≡ t → cond s x (cond t y z) ≡ cond t y (cond s x z)
    go true true p q = absurd (ne (sym (eqb-true f g p) ∙ eqb-true f h q))
    go true false p q = refl
    go false true p q = refl
    go false false p q = refl

-- of two tests of f against one number the second never counts
pub tests_twice : {A : Type 0} (f g h : ℕ) (x y z : A) → g ≡ h → cond (eqb f g) x (cond (eqb f h) y z) ≡ cond (eqb f g) x z
tests_twice f g h x y z same = rw (← same) (go (eqb f g))
  where
    go : (s : Bool) → cond s x (cond s y z) ≡ cond s x z
    go true = refl
    go false = refl

pub le_or_lt : (a b : ℕ) → (a ≤ b) ⊎ (b < a)
le_or_lt zero b = inl zero-le
le_or_lt (suc a) zero = inr (suc-le-suc zero-le)
le_or_lt (suc a) (suc b) = ⊎_elim (λ p. inl (suc-le-suc p)) (λ q. inr (suc-le-suc q)) (le_or_lt a b)

-- two numbers that differ
pub apart : (a b : ℕ) → a ≢ b → (a < b) ⊎ (b < a)
apart a b ne = ⊎_elim (λ h. ⊎_elim (λ e. absurd (ne e)) inl (eq-or-lt_of_le h)) inr (le_or_lt a b)

-- ---- a test at each of some numbers

-- what it tells of one
pub each_at : (t : ℕ → Bool) (i n k : ℕ) → each t i n ≡ true → i ≤ k → k < i + n → t k ≡ true
unfolding each
each_at t i zero k h a b = absurd (omega arith)
each_at t i (suc n) k h a b =
    let p = both (t i) _ h in
    ⊎_elim (λ e. rw e at p.0) (λ l. each_at t (suc i) n k p.1 l (omega arith)) (eq-or-lt_of_le a)

-- and back
pub each_all : (t : ℕ → Bool) (i n : ℕ) → ((k : ℕ) → i ≤ k → k < i + n → t k ≡ true) → each t i n ≡ true
unfolding each
each_all t i zero h = refl
each_all t i (suc n) h = joined (t i) _ (h i (omega arith) (omega arith)) (each_all t (suc i) n (λ k a b. h k (omega arith) (omega arith)))

-- two tests at once
pub each_both : (s t : ℕ → Bool) (i n : ℕ) → each (λ k. s k && t k) i n ≡ each s i n && each t i n
unfolding each
each_both s t i zero = refl
each_both s t i (suc n) = rw (each_both s t (suc i) n) (and_swap (s i) (t i) (each s (suc i) n) (each t (suc i) n))

-- a loop that asks on after a "no": its start, its turns and its end, where `all` is the answer so far
pub each_start : (t : ℕ → Bool) (n : ℕ) → each t 0 (n - 0) ≡ each t 0 n
each_start t n = let e : n - 0 ≡ n = omega arith in rw e

module _ (t : ℕ → Bool) (i n : ℕ) (all : Bool) {whole : Bool} (inv : all && each t i (n - i) ≡ whole) where
  pub each_no : {next : Bool} → i < n → t i ≡ false → next ≡ false → next && each t (i + 1) (n - (i + 1)) ≡ whole
  unfolding each
  each_no h q e =
      let m : n - i ≡ suc (n - suc i) = omega arith in
      rw e (sym (and-false all) ∙ (rw (m, each, q) at inv))

  pub each_yes : {next : Bool} → i < n → t i ≡ true → next ≡ all → next && each t (i + 1) (n - (i + 1)) ≡ whole
  unfolding each
  each_yes h q e =
      let m : n - i ≡ suc (n - suc i) = omega arith in
      rw (e, add-one) (rw (m, each, q) at inv)

  pub each_end : n ≤ i → all ≡ whole
  unfolding each
  each_end h = let m : n - i ≡ 0 = omega arith in sym (and-true all) ∙ (rw (m, each) at inv)
