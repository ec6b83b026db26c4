-- Bytes and stored numbers (document 01, 'The card').
--
-- A card, a block and a buffer are lists of bytes. All of them are read by `part` and written by `patch`.
-- Assumes nothing.
use Rattle.std.specs.Prelude.{Bool, true, ◌&&◌, List, [], ◌∷◌, ◌++◌, ℕ, zero, suc, ◌+◌, ◌-◌, ◌*◌, ◌/◌, ◌%◌, length, take, drop, get_or, replicate}

-- the n bytes from `at` on
unfoldable pub part : List ℕ → ℕ → ℕ → List ℕ
part s at n = take n (drop at s)

-- the bytes from `at` on replaced by v
unfoldable pub patch : List ℕ → ℕ → List ℕ → List ℕ
patch s at v = take at s ++ (v ++ drop (at + length v) s)

-- f at i, i + 1 and so on, n values
unfoldable pub tabulate : {A : Type 0} → (ℕ → A) → ℕ → ℕ → List A
tabulate f i zero = []
tabulate f i (suc n) = f i ∷ tabulate f (suc i) n

-- is the test passed at i, i + 1 and so on, n numbers?
unfoldable pub each : (ℕ → Bool) → ℕ → ℕ → Bool
each t i zero = true
each t i (suc n) = t i && each t (suc i) n

-- every member
abbrev pub All : {A : Type 0} → (A → Type 0) → List A → Type 0
All P [] = Unit {0}
All P (x ∷ xs) = P x × All P xs

-- two numbers of each member, one after the other
unfoldable pub pairs : {A : Type 0} → (A → ℕ) → (A → ℕ) → List A → List ℕ
pairs f g [] = []
pairs f g (x ∷ xs) = f x ∷ g x ∷ pairs f g xs

-- a stored number: 32 bits, low byte first
unfoldable pub u32_bytes : ℕ → List ℕ
u32_bytes n = n % 256 ∷ n / 256 % 256 ∷ n / 256 / 256 % 256 ∷ n / 256 / 256 / 256 % 256 ∷ []

unfoldable pub get_u32 : List ℕ → ℕ → ℕ
get_u32 s at = get_or s at 0 + 256 * get_or s (at + 1) 0 + 65536 * get_or s (at + 2) 0 + 16777216 * get_or s (at + 3) 0

abbrev pub put_u32 : List ℕ → ℕ → ℕ → List ℕ
put_u32 s at n = patch s at (u32_bytes n)

-- numbers one after the other
unfoldable pub words : List ℕ → List ℕ
words [] = []
words (n ∷ ns) = u32_bytes n ++ words ns

unfoldable pub read_words : List ℕ → ℕ → ℕ → List ℕ
read_words s at n = tabulate (λ k. get_u32 s (at + 4 * k)) 0 n

-- a block that begins with b, the rest zeros
unfoldable pub pad : List ℕ → List ℕ
pad b = b ++ replicate (512 - length b) 0

-- an empty frame
unfoldable pub zeros : List ℕ
zeros = replicate 512 0
