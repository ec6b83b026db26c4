-- What a search of the first n elements of an array finds.
-- Assumes nothing.
use Prim.Native.Nat.{ℕ, ◌≤◌, ◌<◌}
use lib.ListN.{length, get_or, take}
use lib.Seq.{length-take-le, get_or-take}
use mathlib.Core.List.{List}
use mathlib.Core.Logic.{◌≢◌}
use mathlib.Core.Path.{◌≡◌, sym, ◌∙◌}
use native.Mathlib.Decide.{ℕ_discrete}
use native.Mathlib.Omega.{arith}
use Rattle.std.specs.Prelude.{Ok, Err}
use Rattle.record.specs.Lists.{Rises, Below, First, Sought}

module _ (l : List ℕ) (n : ℕ) (long : n ≤ length l) where
  few : length (take n l) ≡ n
  few = length-take-le n l long

  at : (j : ℕ) → j < n → get_or (take n l) j 0 ≡ get_or l j 0
  at j h = get_or-take n l j 0 h

  -- they rise as a slice too
  pub take_rises : Rises l n → Rises (take n l) (length (take n l))
  take_rises up i j a b = let h : j < n = omega (arith, b, few) in rw (at i (omega arith), at j h) (up i j a h)

  module _ (x : ℕ) where
    -- it stands there, at the first place; and those before it are below it
    pub found_first : (i : ℕ) → Sought (take n l) x (Ok i) → First l n x i
    found_first i s =
        let inside : i < n = omega (arith, s.1, few) in
        record {
          most = omega arith;
          is = λ h. sym (at i inside) ∙ s.0.is s.1;
          before = λ j h. rw (at j (omega arith)) at (s.0.before j h);
        }

    pub found_inside : (i : ℕ) → Sought (take n l) x (Ok i) → i < n
    found_inside i s = omega (arith, s.1, few)

    pub found_is : (i : ℕ) → Sought (take n l) x (Ok i) → get_or l i 0 ≡ x
    found_is i s = (found_first i s).is (found_inside i s)

    pub found_below : Rises l n → (i : ℕ) → Sought (take n l) x (Ok i) → Below l n x i
    found_below up i s =
        let inside : i < n = found_inside i s in
        let is = found_is i s in
        record {
          most = omega arith;
          before = λ j h. let lower = up j i h inside in omega (arith, lower, is);
          after = λ j a b. go j a b (ℕ_discrete i j);
        }
      where
        go : (j : ℕ) → i ≤ j → j < n → Dec (i ≡ j) → x ≤ get_or l j 0
        go j a b (yes e) = rw (← e) (let is = found_is i s in omega (arith, is))
        go j a b (no d) = let upper = up i j (omega arith) b in let is = found_is i s in omega (arith, upper, is)

    -- it stands nowhere: where it would
    pub absent_below : (i : ℕ) → Sought (take n l) x (Err i) → Below l n x i
    absent_below i s = record {
      most = omega (arith, s.0.most, few);
      before = λ j h. let low : j < n = omega (arith, h, s.0.most, few) in rw (at j low) at (s.0.before j h);
      after = λ j a b. rw (at j b) at (s.0.after j a (omega (arith, b, few)));
    }

    pub absent : (i : ℕ) → Sought (take n l) x (Err i) → (j : ℕ) → j < n → get_or l j 0 ≢ x
    absent i s j h e = s.1 j (omega (arith, h, few)) (at j h ∙ e)

    pub absent_first : (i : ℕ) → Sought (take n l) x (Err i) → First l n x n
    absent_first i s = record { most = omega arith; is = λ h. absurd (omega arith); before = λ j h. absent i s j h }
