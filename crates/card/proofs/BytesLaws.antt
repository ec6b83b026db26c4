-- Laws of parts, patches, tabulated lists and stored numbers.
-- Assumes nothing.
use Prim.Native.Nat.{ℕ, zero, suc, ◌+◌, ◌-◌, ◌*◌, ◌≤◌, ◌<◌}
use borrow.Rule.Slice.PartMut.{put_mid, Post-is}
use lib.ListN.{length, take, drop, set, get_or, replicate, length-append, length-take, length-drop, length-replicate, take-append-drop, drop_of_length-le, get_or-append}
use lib.Seq.{take_at, drop_at, length-take-le, take-suc, take-append-le, drop-append-le, drop-append-add, drop-drop, get_or-take, get_or-drop, take-length, get_or-append-add, get_or-set_same, get_or-set_other, ext_get_or, set_split}
use mathlib.Core.List.{List, [], ◌∷◌, ◌++◌, append_assoc, append-nil, tail}
use mathlib.Core.Logic.{◌≢◌, ⊎_elim}
use mathlib.Core.Path.{◌≡◌, refl, ap, sym, ◌∙◌}
use native.Mathlib.Nat.{add-zero, zero-add, add_assoc}
use native.Mathlib.Numerals.{add-one}
use native.Mathlib.Omega.{arith}
use Rattle.card.proofs.Test.{le_or_lt}
use Rattle.card.specs.Bytes.{part, patch, tabulate, All, pairs, u32_bytes, get_u32, put_u32, words, pad, zeros}

-- ---- what code leaves of a slice, as a part or a patch

pub store1 : (s : List ℕ) (at a : ℕ) → at < length s → set s at a ≡ patch s at (a ∷ [])
unfolding patch
store1 s at a h = let e : at + 1 ≡ suc at = omega arith in rw e (set_split s at a h)

-- a part lent as `&mut s[a..e]` comes back as v
pub lent-part : (s v : List ℕ) (a e : ℕ) → a ≤ e → length v ≡ e - a → put_mid a (e - a) s v ≡ patch s a v
unfolding patch
lent-part s v a e h l =
    let w : e ≡ a + length v = omega arith in
    ap (λ (r : List ℕ). take a s ++ (v ++ r)) (Post-is a e s h ∙ ap (λ (k : ℕ). drop k s) w)

-- a part lent as `&s[a..e]`
pub shared_part : (s : List ℕ) (a e n : ℕ) → e - a ≡ n → take (e - a) (drop a s) ≡ part s a n
unfolding part
shared_part s a e n h = ap (λ (k : ℕ). take k (drop a s)) h

-- all of a buffer is copied over
pub copied : (v d r : List ℕ) → length v ≡ length d → r ≡ take (length v) v ++ drop (length v) d → r ≡ v
copied v d r e h =
    let none : drop (length v) d ≡ [] = drop_of_length-le d {i = length v} (omega arith) in
    h ∙ rw (none, append-nil) (take-length v)

-- a part lent as `&mut s[a..e]`, into which v was copied
pub lent-patch : (s v y : List ℕ) (a e : ℕ) → a ≤ e → e ≤ length s → length v ≡ e - a → y ≡ take (length v) v ++ drop (length v) (take (e - a) (drop a s)) → put_mid a (e - a) s y ≡ patch s a v
lent-patch s v y a e h fits l is =
    let w : length v ≡ length (take (e - a) (drop a s)) = simp (length-take, length-drop) (omega arith) in
    rw (copied v _ y w is) (lent-part s v a e h l)

-- ---- part and patch

-- a part of a list that ends within its front
part_front : (xs ys : List ℕ) (j n : ℕ) → j + n ≤ length xs → take n (drop j (xs ++ ys)) ≡ take n (drop j xs)
part_front xs ys j n h = rw (drop-append-le j xs ys (omega arith)) (take-append-le n (drop j xs) ys (simp length-drop (omega arith)))

-- a list behind its front
drop_past : (xs ys : List ℕ) (j m : ℕ) → length xs ≡ m → m ≤ j → drop j (xs ++ ys) ≡ drop (j - m) ys
drop_past xs ys j m e h = let w : j ≡ length xs + (j - m) = omega arith in ap (λ (k : ℕ). drop k (xs ++ ys)) w ∙ drop-append-add xs ys (j - m)

pub part_length : (s : List ℕ) (at n : ℕ) → at + n ≤ length s → length (part s at n) ≡ n
unfolding part
part_length s at n h = simp (length-take, length-drop) (omega arith)

module _ (s : List ℕ) (at : ℕ) (v : List ℕ) (fits : at + length v ≤ length s) where
  front_length : length (take at s) ≡ at
  front_length = length-take-le at s (omega arith)

  pub patch-length : length (patch s at v) ≡ length s
  unfolding patch
  patch-length = simp (length-append, length-take-le at s (omega arith), length-drop) (omega arith)

  -- the part that was replaced
  pub part-patch_same : (n : ℕ) → length v ≡ n → part (patch s at v) at n ≡ v
  unfolding patch part
  part-patch_same n e = rw (drop_at (take at s) (v ++ drop (at + length v) s) at front_length) (take_at v _ n e)

  -- a part before it
  pub part-patch_before : (j n : ℕ) → j + n ≤ at → part (patch s at v) j n ≡ part s j n
  unfolding patch part
  part-patch_before j n h =
      let le : j + n ≤ length (take at s) = omega (arith, front_length) in
      part_front (take at s) _ j n le ∙ sym (part_front (take at s) (drop at s) j n le) ∙ ap (λ (l : List ℕ). take n (drop j l)) (take-append-drop at s)

  -- a part behind it
  pub part-patch-after : (j n : ℕ) → at + length v ≤ j → part (patch s at v) j n ≡ part s j n
  unfolding patch part
  part-patch-after j n h =
      let m : length (take at s ++ v) ≡ at + length v = simp length-append (omega (arith, front_length)) in
      let w : (at + length v) + (j - (at + length v)) ≡ j = omega arith in
      ap (λ (l : List ℕ). take n (drop j l)) (sym (append_assoc (take at s) v _))
      ∙ ap (take n) (drop_past (take at s ++ v) _ j (at + length v) m h ∙ drop-drop (j - (at + length v)) (at + length v) s ∙ ap (λ (k : ℕ). drop k s) w)

  low : (i : ℕ) → i < at → get_or (patch s at v) i 0 ≡ get_or s i 0
  unfolding patch
  low i h = get_or-append (take at s) _ 0 i (omega (arith, front_length)) ∙ get_or-take at s i 0 h

  high : (i : ℕ) → at + length v ≤ i → get_or (patch s at v) i 0 ≡ get_or s i 0
  unfolding patch
  high i h =
      let e : i ≡ length (take at s) + (length v + (i - (at + length v))) = omega (arith, front_length) in
      let e' : at + length v + (i - (at + length v)) ≡ i = omega arith in
      ap (λ (k : ℕ). get_or (take at s ++ (v ++ drop (at + length v) s)) k 0) e
      ∙ get_or-append-add (take at s) (v ++ drop (at + length v) s) (length v + (i - (at + length v))) 0
      ∙ get_or-append-add v (drop (at + length v) s) (i - (at + length v)) 0
      ∙ get_or-drop (at + length v) s (i - (at + length v)) 0
      ∙ ap (λ (k : ℕ). get_or s k 0) e'

  -- other bytes are kept
  pub patch_other : (i : ℕ) → (at ≤ i → i < at + length v → ⊥) → get_or (patch s at v) i 0 ≡ get_or s i 0
  patch_other i out = ⊎_elim
      (λ k. high i k)
      (λ k. ⊎_elim (λ h. absurd (out h k)) (λ h. low i h) (le_or_lt at i))
      (le_or_lt (at + length v) i)

  pub patch_in : (i : ℕ) → i < length v → get_or (patch s at v) (at + i) 0 ≡ get_or v i 0
  unfolding patch
  patch_in i h =
      let e : at + i ≡ length (take at s) + i = omega (arith, front_length) in
      ap (λ (k : ℕ). get_or (take at s ++ (v ++ drop (at + length v) s)) k 0) e
      ∙ get_or-append-add (take at s) (v ++ drop (at + length v) s) i 0
      ∙ get_or-append v _ 0 i h

  -- a number that stands elsewhere is kept
  pub get_u32_other : (o : ℕ) → ((i : ℕ) → o ≤ i → i < o + 4 → at ≤ i → i < at + length v → ⊥) → get_u32 (patch s at v) o ≡ get_u32 s o
  unfolding get_u32
  get_u32_other o out =
      cc (
        patch_other o (out o (omega arith) (omega arith)),
        patch_other (o + 1) (out (o + 1) (omega arith) (omega arith)),
        patch_other (o + 2) (out (o + 2) (omega arith) (omega arith)),
        patch_other (o + 3) (out (o + 3) (omega arith) (omega arith)),
      )

-- two patches that adjoin are one
pub patch-patch : (s u v : List ℕ) (at m : ℕ) → length u ≡ m → (at + m) + length v ≤ length s → patch (patch s at u) (at + m) v ≡ patch s at (u ++ v)
unfolding patch
patch-patch s u v at m e h =
    let front : length (take at s ++ u) ≡ at + m = simp (length-append, length-take-le at s (omega arith)) (omega arith) in
    let all : take at s ++ (u ++ drop (at + length u) s) ≡ (take at s ++ u) ++ drop (at + m) s = rw e (sym (append_assoc (take at s) u (drop (at + m) s))) in
    let f : take (at + m) (take at s ++ (u ++ drop (at + length u) s)) ≡ take at s ++ u = rw all (take_at (take at s ++ u) _ (at + m) front) in
    let w : (at + m) + length v ≡ at + length (u ++ v) = simp length-append (omega arith) in
    let b : drop ((at + m) + length v) (take at s ++ (u ++ drop (at + length u) s)) ≡ drop (at + length (u ++ v)) s =
    rw all (drop_past (take at s ++ u) (drop (at + m) s) ((at + m) + length v) (at + m) front (omega arith)
    ∙ drop-drop (((at + m) + length v) - (at + m)) (at + m) s ∙ ap (λ (k : ℕ). drop k s) (step w)) in
    rw (f, b) (append_assoc (take at s) u _ ∙ ap (λ (r : List ℕ). take at s ++ r) (sym (append_assoc u v _)))
  where
    step : (at + m) + length v ≡ at + length (u ++ v) → (at + m) + (((at + m) + length v) - (at + m)) ≡ at + length (u ++ v)
    step w = omega arith

-- the same from the list's start on
pub patch_on : (s u v : List ℕ) (m : ℕ) → length u ≡ m → m + length v ≤ length s → patch (patch s 0 u) m v ≡ patch s 0 (u ++ v)
patch_on s u v m e h = rw zero-add at (patch-patch s u v 0 m e (omega arith))

pub patch_none : (s : List ℕ) (at : ℕ) → patch s at [] ≡ s
unfolding patch
patch_none s at = rw add-zero (take-append-drop at s)

-- a patch of a list's end
pub patch_last : (s : List ℕ) (at : ℕ) (v : List ℕ) → at + length v ≡ length s → patch s at v ≡ take at s ++ v
unfolding patch
patch_last s at v e =
    let none : drop (at + length v) s ≡ [] = drop_of_length-le s {i = at + length v} (omega arith) in
    ap (λ (l : List ℕ). take at s ++ (v ++ l)) none ∙ ap (λ (l : List ℕ). take at s ++ l) (append-nil v)

-- a patch of a whole list
pub patch-whole : (s : List ℕ) (at : ℕ) (v : List ℕ) → at + length v ≤ length s → length v ≡ length s → patch s at v ≡ v
patch-whole s at v h e =
    let first : at ≡ 0 = omega (arith, h, e) in
    rw first (patch_last s 0 v (omega (arith, e)))

-- a part put back as it was
front_back : (n : ℕ) (xs : List ℕ) → take n xs ++ drop (length (take n xs)) xs ≡ xs
front_back zero xs = refl
front_back (suc n) [] = refl
front_back (suc n) (x ∷ xs) = ap (λ (l : List ℕ). x ∷ l) (front_back n xs)

pub patch_old : (s : List ℕ) (at n : ℕ) → patch s at (part s at n) ≡ s
unfolding patch part
patch_old s at n =
    ap (λ (l : List ℕ). take at s ++ (take n (drop at s) ++ l)) (sym (drop-drop (length (take n (drop at s))) at s))
    ∙ ap (λ (l : List ℕ). take at s ++ l) (front_back n (drop at s))
    ∙ take-append-drop at s

-- ---- lengths

-- a list of no member
pub none_long : {A : Type 0} (xs : List A) → length xs ≡ 0 → xs ≡ []
none_long [] h = refl
none_long (x ∷ xs) h = absurd (omega arith)

pub length_tail : {A : Type 0} (xs : List A) → 0 < length xs → suc (length (tail xs)) ≡ length xs
length_tail [] h = absurd (omega arith)
length_tail (x ∷ xs) h = refl

-- ---- tabulated lists

module _ {A : Type 0} (f : ℕ → A) where
  pub tab_length : (i n : ℕ) → length (tabulate f i n) ≡ n
  unfolding tabulate
  tab_length i zero = refl
  tab_length i (suc n) = ap suc (tab_length (suc i) n)

  -- a loop over it: its start, one turn, and its end
  pub tab_start : (n : ℕ) → tabulate f 0 (n - 0) ≡ tabulate f 0 n
  tab_start n = let e : n - 0 ≡ n = omega arith in rw e

  pub tab_more : (i n : ℕ) → i < n → tabulate f i (n - i) ≡ f i ∷ tabulate f (i + 1) (n - (i + 1))
  unfolding tabulate
  tab_more i n h =
      let e : n - i ≡ suc (n - (i + 1)) = omega arith in
      let s : i + 1 ≡ suc i = omega arith in
      rw (e, s)

  pub tab_end : (i n : ℕ) → n ≤ i → tabulate f i (n - i) ≡ []
  unfolding tabulate
  tab_end i n h = let e : n - i ≡ 0 = omega arith in rw e

  pub tab_none : (i : ℕ) → tabulate f i 0 ≡ []
  unfolding tabulate
  tab_none i = refl

  pub tab_tail : (i n : ℕ) → tail (tabulate f i (suc n)) ≡ tabulate f (suc i) n
  unfolding tabulate
  tab_tail i n = refl

  -- two runs that adjoin are one
  pub tab_append : (i n k : ℕ) → tabulate f i n ++ tabulate f (i + n) k ≡ tabulate f i (n + k)
  unfolding tabulate
  tab_append i zero k = rw (add-zero, zero-add)
  tab_append i (suc n) k =
      let e : suc n + k ≡ suc (n + k) = omega arith in
      let d : i + suc n ≡ suc i + n = omega arith in
      rw (e, d) (ap (λ (l : List A). f i ∷ l) (tab_append (suc i) n k))

  pub tab_snoc : (i n : ℕ) → tabulate f i (suc n) ≡ tabulate f i n ++ (f (i + n) ∷ [])
  unfolding tabulate
  tab_snoc i n = rw add-one at (sym (tab_append i n 1))

  pub tab_get_d : (i n k : ℕ) (d : A) → k < n → get_or (tabulate f i n) k d ≡ f (i + k)
  unfolding tabulate
  tab_get_d i zero k d h = absurd (omega arith)
  tab_get_d i (suc n) zero d h = rw add-zero
  tab_get_d i (suc n) (suc k) d h = let e : i + suc k ≡ suc i + k = omega arith in rw e (tab_get_d (suc i) n k d (omega arith))

  pub tab_drop : (i n j : ℕ) → j ≤ n → drop j (tabulate f i n) ≡ tabulate f (i + j) (n - j)
  unfolding tabulate
  tab_drop i n zero h = let e : n - 0 ≡ n = omega arith in rw (add-zero, e)
  tab_drop i zero (suc j) h = absurd (omega arith)
  tab_drop i (suc n) (suc j) h =
      let e : i + suc j ≡ suc i + j = omega arith in
      let d : suc n - suc j ≡ n - j = omega arith in
      rw (e, d) (tab_drop (suc i) n j (omega arith))

  pub tab_take : (i n m : ℕ) → m ≤ n → take m (tabulate f i n) ≡ tabulate f i m
  unfolding tabulate
  tab_take i n zero h = refl
  tab_take i zero (suc m) h = absurd (omega arith)
  tab_take i (suc n) (suc m) h = ap (λ (l : List A). f i ∷ l) (tab_take (suc i) n m (omega arith))

module _ {A : Type 0} (f g : ℕ → A) where
  -- equal values at places that run along
  pub tab_shift : (i j n : ℕ) → ((k : ℕ) → k < n → f (i + k) ≡ g (j + k)) → tabulate f i n ≡ tabulate g j n
  unfolding tabulate
  tab_shift i j zero h = refl
  tab_shift i j (suc n) h =
      let this : f i ≡ g j = ap f (sym (add-zero i)) ∙ h 0 (omega arith) ∙ ap g (add-zero j) in
      let rest : (k : ℕ) → k < n → f (suc i + k) ≡ g (suc j + k) = λ k l. ap f (moved i k) ∙ h (suc k) (omega arith) ∙ ap g (sym (moved j k)) in
      cc (this, tab_shift (suc i) (suc j) n rest)
    where
      moved : (a b : ℕ) → suc a + b ≡ a + suc b
      moved a b = omega arith

  -- equal values at the same places
  pub tab_same : (i n : ℕ) → ((k : ℕ) → i ≤ k → k < i + n → f k ≡ g k) → tabulate f i n ≡ tabulate g i n
  tab_same i n h = tab_shift i i n (λ k l. h (i + k) (omega arith) (omega arith))

-- of values one after the other one is new
module _ {A : Type 0} (f g : ℕ → A) where
  -- it comes last
  pub tab_add : (i n : ℕ) (x : A) → g (i + n) ≡ x → ((j : ℕ) → i ≤ j → j < i + n → g j ≡ f j) → tabulate g i (suc n) ≡ tabulate f i n ++ (x ∷ [])
  tab_add i n x new other = tab_snoc g i n ∙ rw (new, tab_same g f i n other)

  -- it replaces another
  pub tab_set : (i n k : ℕ) (x : A) → k < n → g (i + k) ≡ x → ((j : ℕ) → i ≤ j → j < i + n → j ≢ i + k → g j ≡ f j) → tabulate g i n ≡ set (tabulate f i n) k x
  unfolding tabulate
  tab_set i zero k x l new other = absurd (omega arith)
  tab_set i (suc n) zero x l new other =
      let this : g i ≡ x = ap g (sym (add-zero i)) ∙ new in
      cc (this, tab_same g f (suc i) n (λ j a b. other j (omega arith) (omega arith) (omega arith)))
  tab_set i (suc n) (suc k) x l new other =
      let e : suc i + k ≡ i + suc k = omega arith in
      let this : g i ≡ f i = other i (omega arith) (omega arith) (omega arith) in
      cc (this, tab_set (suc i) n k x (omega arith) (ap g e ∙ new) (λ j a b d. other j (omega arith) (omega arith) (omega arith)))

-- a list is tabulated by its elements
pub tab_list : {A : Type 0} (d : A) (l : List A) → tabulate (λ k. get_or l k d) 0 (length l) ≡ l
tab_list d l = ext_get_or d (tabulate (λ k. get_or l k d) 0 (length l)) l (tab_length (λ k. get_or l k d) 0 (length l))
    (λ i h. tab_get_d (λ k. get_or l k d) 0 (length l) i d (omega (arith, tab_length (λ k. get_or l k d) 0 (length l))) ∙ ap (λ (k : ℕ). get_or l k d) (zero-add i))

-- the first n elements of l are f's values
abbrev pub Filled : (ℕ → ℕ) → ℕ → List ℕ → Type 0
Filled f n l = (i : ℕ) → i < n → get_or l i 0 ≡ f i

pub filled_more : (f : ℕ → ℕ) (n : ℕ) (l : List ℕ) (x : ℕ) → n < length l → x ≡ f n → Filled f n l → Filled f (n + 1) (set l n x)
filled_more f n l x h e p i q = ⊎_elim
    (λ k. let s : i ≡ n = omega arith in rw s (get_or-set_same l n x 0 h ∙ e))
    (λ k. get_or-set_other l n i x 0 (omega arith) ∙ p i k)
    (le_or_lt n i)

pub filled_all : (f : ℕ → ℕ) (n : ℕ) (l : List ℕ) → length l ≡ n → Filled f n l → l ≡ tabulate f 0 n
filled_all f n l e p = sym (tab_list 0 l) ∙ rw e (tab_same (λ k. get_or l k 0) f 0 n (λ k a b. p k (omega arith)))

-- ---- numbers

pub u32_length : (n : ℕ) → length (u32_bytes n) ≡ 4
unfolding u32_bytes
u32_length n = refl

pub get_u32_bytes : (n : ℕ) (t : List ℕ) → n < 4294967296 → get_u32 (u32_bytes n ++ t) 0 ≡ n
unfolding u32_bytes get_u32
get_u32_bytes n t h = omega arith

pub get_u32_behind : (xs ys : List ℕ) (k o : ℕ) → length xs ≡ k → get_u32 (xs ++ ys) (k + o) ≡ get_u32 ys o
unfolding get_u32
get_u32_behind xs ys k o e = rw (← e) (simp (add_assoc, get_or-append-add))

-- the round trip: what was put is read; patch_other and get_u32_other say that nothing else changes
pub get_u32-put_u32 : (s : List ℕ) (at n : ℕ) → at + 4 ≤ length s → n < 4294967296 → get_u32 (put_u32 s at n) at ≡ n
unfolding patch
get_u32-put_u32 s at n h k =
    let e : at ≡ at + 0 = omega arith in
    ap (λ (o : ℕ). get_u32 (take at s ++ (u32_bytes n ++ drop (at + length (u32_bytes n)) s)) o) e
    ∙ get_u32_behind (take at s) _ at 0 (length-take-le at s (omega arith))
    ∙ get_u32_bytes n _ k

-- a number in 32 bits
abbrev pub U32 : ℕ → Type 0
U32 n = n < 4294967296

pub words-length : (ns : List ℕ) → length (words ns) ≡ 4 * length ns
unfolding words
words-length [] = refl
words-length (n ∷ ns) = simp (length-append, u32_length, words-length ns) (omega arith)

pub words_append : (ms ns : List ℕ) → words (ms ++ ns) ≡ words ms ++ words ns
unfolding words
words_append [] ns = refl
words_append (m ∷ ms) ns = ap (λ (l : List ℕ). u32_bytes m ++ l) (words_append ms ns) ∙ sym (append_assoc (u32_bytes m) (words ms) (words ns))

pub words_one : (n : ℕ) → words (n ∷ []) ≡ u32_bytes n
unfolding words
words_one n = append-nil (u32_bytes n)

-- one turn of a loop that puts numbers, one after the other
pub words_more : (s : List ℕ) (at k : ℕ) (ns : List ℕ) → k < length ns → at + 4 * k + 4 ≤ length s
    → put_u32 (patch s at (words (take k ns))) (at + 4 * k) (get_or ns k 0) ≡ patch s at (words (take (k + 1) ns))
words_more s at k ns h fits =
    let long : length (words (take k ns)) ≡ 4 * k = words-length (take k ns) ∙ simp length-take (omega arith) in
    let more : words (take (k + 1) ns) ≡ words (take k ns) ++ u32_bytes (get_or ns k 0) = rw (add-one, take-suc ns k 0 h, words_append, words_one) in
    patch-patch s (words (take k ns)) (u32_bytes (get_or ns k 0)) at (4 * k) long (omega (arith, u32_length (get_or ns k 0)))
    ∙ ap (patch s at) (sym more)

-- the k-th of the numbers is read back
pub read_words_lem : (ns : List ℕ) (k : ℕ) (t : List ℕ) → All U32 ns → k < length ns → get_u32 (words ns ++ t) (4 * k) ≡ get_or ns k 0
unfolding words
read_words_lem [] k t fit h = absurd (omega arith)
read_words_lem (n ∷ ns) zero t fit h = rw append_assoc (get_u32_bytes n (words ns ++ t) fit.0)
read_words_lem (n ∷ ns) (suc k) t fit h =
    let e : 4 * suc k ≡ 4 + 4 * k = omega arith in
    rw (e, append_assoc) (get_u32_behind (u32_bytes n) (words ns ++ t) 4 (4 * k) (u32_length n) ∙ read_words_lem ns k t fit.1 (omega arith))

-- ---- pairs of numbers

module _ {A : Type 0} (f g : A → ℕ) where
  pub pairs-length : (xs : List A) → length (pairs f g xs) ≡ 2 * length xs
  unfolding pairs
  pairs-length [] = refl
  pairs-length (x ∷ xs) = omega (arith, pairs-length xs)

  pub pairs-append : (xs ys : List A) → pairs f g (xs ++ ys) ≡ pairs f g xs ++ pairs f g ys
  unfolding pairs
  pairs-append [] ys = refl
  pairs-append (x ∷ xs) ys = ap (λ (l : List ℕ). f x ∷ g x ∷ l) (pairs-append xs ys)

  pub pairs_fit : (xs : List A) → All (λ (x : A). U32 (f x) × U32 (g x)) xs → All U32 (pairs f g xs)
  unfolding pairs
  pairs_fit [] h = tt
  pairs_fit (x ∷ xs) h = (h.0.0, (h.0.1, pairs_fit xs h.1))

  pub pairs_first : (xs : List A) (k : ℕ) (d : A) → k < length xs → get_or (pairs f g xs) (2 * k) 0 ≡ f (get_or xs k d)
  unfolding pairs
  pairs_first [] k d h = absurd (omega arith)
  pairs_first (x ∷ xs) zero d h = refl
  pairs_first (x ∷ xs) (suc k) d h = let e : 2 * suc k ≡ suc (suc (2 * k)) = omega arith in rw e (pairs_first xs k d (omega arith))

  pub pairs_second : (xs : List A) (k : ℕ) (d : A) → k < length xs → get_or (pairs f g xs) (2 * k + 1) 0 ≡ g (get_or xs k d)
  unfolding pairs
  pairs_second [] k d h = absurd (omega arith)
  pairs_second (x ∷ xs) zero d h = refl
  pairs_second (x ∷ xs) (suc k) d h = let e : 2 * suc k + 1 ≡ suc (suc (2 * k + 1)) = omega arith in rw e (pairs_second xs k d (omega arith))

-- ---- padded blocks

pub pad-length : (b : List ℕ) → length b ≤ 512 → length (pad b) ≡ 512
unfolding pad
pad-length b h = simp (length-append, length-replicate) (omega arith)

pub zeros-length : length zeros ≡ 512
unfolding zeros
zeros-length = length-replicate {A = ℕ} 512 0

drop-zeros : (k n : ℕ) → drop k (replicate {A = ℕ} n 0) ≡ replicate (n - k) 0
drop-zeros zero n = let e : n - 0 ≡ n = omega arith in rw e
drop-zeros (suc k) zero = let e : 0 - suc k ≡ 0 = omega arith in rw e
drop-zeros (suc k) (suc n) = let e : suc n - suc k ≡ n - k = omega arith in rw e (drop-zeros k n)

-- a block made from zeros
pub zeros-patch : (v : List ℕ) → patch zeros 0 v ≡ pad v
unfolding patch pad zeros
zeros-patch v = ap (λ (l : List ℕ). v ++ l) (ap (λ (k : ℕ). drop k (replicate {A = ℕ} 512 0)) (zero-add (length v)) ∙ drop-zeros (length v) 512)

take-zeros : (k n : ℕ) → k ≤ n → take k (replicate {A = ℕ} n 0) ≡ replicate k 0
take-zeros zero n h = refl
take-zeros (suc k) zero h = absurd (omega arith)
take-zeros (suc k) (suc n) h = ap (λ (l : List ℕ). 0 ∷ l) (take-zeros k n (omega arith))

pub zeros_front : (k : ℕ) → k ≤ 512 → take k zeros ≡ replicate k 0
unfolding zeros
zeros_front k h = take-zeros k 512 h
