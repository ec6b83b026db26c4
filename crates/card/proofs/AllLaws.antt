-- Laws of what holds of every member of a list.
-- Assumes nothing.
use Prim.Native.Nat.{ℕ, zero, suc, ◌+◌, ◌-◌, ◌≤◌, ◌<◌}
use lib.ListN.{length, take, drop, get_or}
use mathlib.Core.List.{List, [], ◌∷◌, ◌++◌}
use mathlib.Core.Path.{◌≡◌}
use native.Mathlib.Omega.{arith}
use Rattle.card.proofs.BytesLaws.{tab_length, tab_get_d}
use Rattle.card.specs.Bytes.{tabulate, All}

module _ {A : Type 0} (P : A → Type 0) where
  -- of two lists joined
  pub all_join : (xs ys : List A) → All P xs → All P ys → All P (xs ++ ys)
  all_join [] ys h k = k
  all_join (x ∷ xs) ys h k = (h.0, all_join xs ys h.1 k)

  pub all_left : (xs ys : List A) → All P (xs ++ ys) → All P xs
  all_left [] ys h = tt
  all_left (x ∷ xs) ys h = (h.0, all_left xs ys h.1)

  pub all_right : (xs ys : List A) → All P (xs ++ ys) → All P ys
  all_right [] ys h = h
  all_right (x ∷ xs) ys h = all_right xs ys h.1

  -- of a list's front and of its rest
  pub all_take : (n : ℕ) (xs : List A) → All P xs → All P (take n xs)
  all_take zero xs h = tt
  all_take (suc n) [] h = tt
  all_take (suc n) (x ∷ xs) h = (h.0, all_take n xs h.1)

  pub all_drop : (n : ℕ) (xs : List A) → All P xs → All P (drop n xs)
  all_drop zero xs h = h
  all_drop (suc n) [] h = tt
  all_drop (suc n) (x ∷ xs) h = all_drop n xs h.1

  -- of one more than the first n
  pub all_next : (n : ℕ) (xs : List A) (none : A) → All P (take n xs) → P (get_or xs n none) → All P (take (suc n) xs)
  all_next zero [] none h p = tt
  all_next zero (x ∷ xs) none h p = (p, tt)
  all_next (suc n) [] none h p = tt
  all_next (suc n) (x ∷ xs) none h p = (h.0, all_next n xs none h.1 p)

  -- of the i-th
  pub all_at : (xs : List A) (i : ℕ) (none : A) → All P xs → i < length xs → P (get_or xs i none)
  all_at [] i none h l = absurd (omega arith)
  all_at (x ∷ xs) zero none h l = h.0
  all_at (x ∷ xs) (suc i) none h l = all_at xs i none h.1 (omega arith)

  -- of tabulated values: of every one, at each index
  pub all_tab : (f : ℕ → A) (i n : ℕ) → ((k : ℕ) → i ≤ k → k < i + n → P (f k)) → All P (tabulate f i n)
  unfolding tabulate
  all_tab f i zero h = tt
  all_tab f i (suc n) h = (h i (omega arith) (omega arith), all_tab f (suc i) n (λ k a b. h k (omega arith) (omega arith)))

  pub tab_all : (f : ℕ → A) (i n : ℕ) → All P (tabulate f i n) → (k : ℕ) → i ≤ k → k < i + n → P (f k)
  tab_all f i n h k a b =
      let e : i + (k - i) ≡ k = omega arith in
      rw (tab_get_d f i n (k - i) (f i) (omega arith), e) at (all_at (tabulate f i n) (k - i) (f i) h (omega (arith, tab_length f i n)))

-- of what follows from it
pub all_map : {A : Type 0} (P Q : A → Type 0) (xs : List A) → ((x : A) → P x → Q x) → All P xs → All Q xs
all_map P Q [] f h = tt
all_map P Q (x ∷ xs) f h = (f x h.0, all_map P Q xs f h.1)

pub all_both : {A : Type 0} (P Q R : A → Type 0) (xs : List A) → ((x : A) → P x → Q x → R x) → All P xs → All Q xs → All R xs
all_both P Q R [] f h k = tt
all_both P Q R (x ∷ xs) f h k = (f x h.0 k.0, all_both P Q R xs f h.1 k.1)
