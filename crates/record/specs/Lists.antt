-- Tests over numbers, and what a search finds.
-- Assumes nothing.
use Rattle.std.specs.Prelude.{ℕ, suc, ◌≤◌, ◌<◌, leb, ltb, eqb, length, get_or, Bool, true, false, cond, ◌&&◌, not, List, [], ◌∷◌, ◌≢◌, ◌≡◌, Result, Ok, Err}
use Rattle.card.specs.Bytes.{tabulate, each}

-- n elements of an array, from the i-th on
abbrev pub cells : List ℕ → ℕ → ℕ → List ℕ
cells l i n = tabulate (λ k. get_or l k 0) i n

-- is x among them?
unfoldable pub elem : ℕ → List ℕ → Bool
elem x [] = false
elem x (y ∷ ys) = cond (eqb y x) true (elem x ys)

-- is each there once only?
unfoldable pub once : List ℕ → Bool
once [] = true
once (y ∷ ys) = cond (elem y ys) false (once ys)

-- does x stand there, once only?
unfoldable pub alone : ℕ → List ℕ → Bool
alone x [] = false
alone x (y ∷ ys) = cond (eqb y x) (not (elem x ys)) (alone x ys)

-- how often x stands there
unfoldable pub times : ℕ → List ℕ → ℕ
times x [] = 0
times x (y ∷ ys) = cond (eqb y x) (suc (times x ys)) (times x ys)

-- do n numbers from k on stand there, each once only?
abbrev pub all_alone : List ℕ → ℕ → ℕ → Bool
all_alone l k n = each (λ x. alone x l) k n

unfoldable pub within : ℕ → ℕ → ℕ → Bool
within low high x = leb low x && ltb x high

-- is each at least low, and below high?
unfoldable pub all_within : ℕ → ℕ → List ℕ → Bool
all_within low high [] = true
all_within low high (y ∷ ys) = within low high y && all_within low high ys

-- do they rise, from low on and below high?
unfoldable pub all_rising : ℕ → ℕ → List ℕ → Bool
all_rising low high [] = true
all_rising low high (y ∷ ys) = within low high y && all_rising (suc y) high ys

-- the first n elements of an array rise
abbrev pub Rises : List ℕ → ℕ → Type 0
Rises l n = (i j : ℕ) → i < j → j < n → get_or l i 0 < get_or l j 0

-- the place of x among n elements that rise: those before it are below x, and no other
pub record Below (l : List ℕ) (n x i : ℕ) : Type 0 where
  pub most : i ≤ n
  pub before : (j : ℕ) → j < i → get_or l j 0 < x
  pub after : (j : ℕ) → i ≤ j → j < n → x ≤ get_or l j 0

-- the first place of n at which x stands, or n
pub record First (l : List ℕ) (n x i : ℕ) : Type 0 where
  pub most : i ≤ n
  pub is : i < n → get_or l i 0 ≡ x
  pub before : (j : ℕ) → j < i → get_or l j 0 ≢ x

-- where x stands among elements that rise; or, where it does not stand there, its place among them
abbrev pub Sought : List ℕ → ℕ → Result ℕ ℕ → Type 0
Sought l x (Ok i) = First l (length l) x i × (i < length l)
Sought l x (Err i) = Below l (length l) x i × ((j : ℕ) → j < length l → get_or l j 0 ≢ x)
