-- Laws of pots: what is put is read back, other pages' entries and the last two bytes are kept, and the seven other flag bits too.
-- Assumes nothing.
use Prim.Native.Nat.{ℕ, zero, suc, ◌+◌, ◌-◌, ◌*◌, ◌/◌, ◌%◌, ◌≤◌, ◌<◌}
use borrow.Author.Tests.{eq-eqb, ne_eqb}
use lib.ListN.{length, get_or, replicate, length-append, get_or-append}
use mathlib.Core.Bool.{true, false}
use mathlib.Core.List.{List, [], ◌∷◌, ◌++◌, append_assoc}
use mathlib.Core.Logic.{◌≢◌}
use mathlib.Core.Path.{◌≡◌, refl, ap, sym, ◌∙◌}
use native.Mathlib.Numerals.{add-one}
use native.Mathlib.Omega.{arith}
use Rattle.card.proofs.BytesLaws.{patch-length, patch_other, patch_in, get_u32_other, patch_on, u32_length, get_u32-put_u32, zeros-length, zeros-patch}
use Rattle.card.specs.Bytes.{patch, u32_bytes, get_u32, pad, zeros}
use Rattle.card.specs.Pot.{count_at, flags_at, put_count, put_flags, is_zero, set_zero, clear_zero, fresh_entries, fresh_pot}

-- ---- bit 0, and the other seven bits of the flags

module _ (flags : ℕ) where
  pub set_is : is_zero (set_zero flags) ≡ true
  unfolding is_zero set_zero
  set_is = eq-eqb ((2 * (flags / 2) + 1) % 2) 1 (omega arith)

  pub clear_is : is_zero (clear_zero flags) ≡ false
  unfolding is_zero clear_zero
  clear_is = ne_eqb (2 * (flags / 2) % 2) 1 (omega arith)

  pub set_keeps : set_zero flags / 2 ≡ flags / 2
  unfolding set_zero
  set_keeps = omega arith

  pub clear_keeps : clear_zero flags / 2 ≡ flags / 2
  unfolding clear_zero
  clear_keeps = omega arith

-- ---- a pot's entries

module _ (pot : List ℕ) (i : ℕ) (long : length pot ≡ 512) (in_pot : i < 102) where
  flags_fit : (x : ℕ) → 5 * i + 4 + length (x ∷ []) ≤ length pot
  flags_fit x = omega arith

  count_fit : (n : ℕ) → 5 * i + length (u32_bytes n) ≤ length pot
  count_fit n = omega (arith, u32_length n)

  pub put_flags-length : (x : ℕ) → length (put_flags pot i x) ≡ 512
  unfolding put_flags
  put_flags-length x = patch-length pot (5 * i + 4) (x ∷ []) (flags_fit x) ∙ long

  pub flags_same : (x : ℕ) → flags_at (put_flags pot i x) i ≡ x
  unfolding flags_at put_flags
  flags_same x =
      let e : 5 * i + 4 ≡ 5 * i + 4 + 0 = omega arith in
      ap (λ (k : ℕ). get_or (patch pot (5 * i + 4) (x ∷ [])) k 0) e ∙ patch_in pot (5 * i + 4) (x ∷ []) (flags_fit x) 0 (omega arith)

  pub flags_other : (x u : ℕ) → i ≢ u → flags_at (put_flags pot i x) u ≡ flags_at pot u
  unfolding flags_at put_flags
  flags_other x u d = patch_other pot (5 * i + 4) (x ∷ []) (flags_fit x) (5 * u + 4) (omega arith)

  pub flags_count : (x u : ℕ) → count_at (put_flags pot i x) u ≡ count_at pot u
  unfolding count_at put_flags
  flags_count x u = get_u32_other pot (5 * i + 4) (x ∷ []) (flags_fit x) (5 * u) (omega arith)

  pub put_count-length : (n : ℕ) → length (put_count pot i n) ≡ 512
  unfolding put_count
  put_count-length n = patch-length pot (5 * i) (u32_bytes n) (count_fit n) ∙ long

  pub count_same : (n : ℕ) → n < 4294967296 → count_at (put_count pot i n) i ≡ n
  unfolding count_at put_count
  count_same n h = get_u32-put_u32 pot (5 * i) n (omega arith) h

  pub count_other : (n u : ℕ) → i ≢ u → count_at (put_count pot i n) u ≡ count_at pot u
  unfolding count_at put_count
  count_other n u d = get_u32_other pot (5 * i) (u32_bytes n) (count_fit n) (5 * u) (omega (arith, u32_length n))

  pub count_flags : (n u : ℕ) → flags_at (put_count pot i n) u ≡ flags_at pot u
  unfolding flags_at put_count
  count_flags n u = patch_other pot (5 * i) (u32_bytes n) (count_fit n) (5 * u + 4) (omega (arith, u32_length n))

  -- bytes 510 and 511, and every other byte outside the entry
  pub flags_outside : (x j : ℕ) → (5 * i ≤ j → j < 5 * i + 5 → ⊥) → get_or (put_flags pot i x) j 0 ≡ get_or pot j 0
  unfolding put_flags
  flags_outside x j out = patch_other pot (5 * i + 4) (x ∷ []) (flags_fit x) j (λ p q. out (omega arith) (omega arith))

  pub count_outside : (n j : ℕ) → (5 * i ≤ j → j < 5 * i + 5 → ⊥) → get_or (put_count pot i n) j 0 ≡ get_or pot j 0
  unfolding put_count
  count_outside n j out = patch_other pot (5 * i) (u32_bytes n) (count_fit n) j (λ p q. out (omega arith) (omega (arith, u32_length n)))

-- ---- the fresh pot

pub fresh-length : (n : ℕ) → length (fresh_entries n) ≡ 5 * n
unfolding fresh_entries
fresh-length zero = refl
fresh-length (suc n) = omega (arith, fresh-length n)

fresh_snoc : (n : ℕ) → fresh_entries (suc n) ≡ fresh_entries n ++ (0 ∷ 0 ∷ 0 ∷ 0 ∷ 1 ∷ [])
unfolding fresh_entries
fresh_snoc zero = refl
fresh_snoc (suc n) = ap (λ (l : List ℕ). 0 ∷ 0 ∷ 0 ∷ 0 ∷ 1 ∷ l) (fresh_snoc n)

-- four zeros of a block of zeros, named
zeros_more : (u : List ℕ) → length u + 4 ≤ 512 → patch zeros 0 u ≡ patch zeros 0 (u ++ (0 ∷ 0 ∷ 0 ∷ 0 ∷ []))
unfolding pad
zeros_more u h =
    let l : length (u ++ (0 ∷ 0 ∷ 0 ∷ 0 ∷ [])) ≡ length u + 4 = length-append u (0 ∷ 0 ∷ 0 ∷ 0 ∷ []) in
    let e : 512 - length u ≡ suc (suc (suc (suc (512 - (length u + 4))))) = omega arith in
    zeros-patch u ∙ rw e (sym (append_assoc u (0 ∷ 0 ∷ 0 ∷ 0 ∷ []) (replicate (512 - (length u + 4)) 0)))
    ∙ ap (λ (k : ℕ). (u ++ (0 ∷ 0 ∷ 0 ∷ 0 ∷ [])) ++ replicate (512 - k) 0) (sym l) ∙ sym (zeros-patch (u ++ (0 ∷ 0 ∷ 0 ∷ 0 ∷ [])))

-- one turn of the loop that makes it
pub fresh_more : (i : ℕ) → i < 102 → put_flags (patch zeros 0 (fresh_entries i)) i 1 ≡ patch zeros 0 (fresh_entries (i + 1))
unfolding put_flags
fresh_more i h =
    let u : List ℕ = fresh_entries i in
    let l : length (u ++ (0 ∷ 0 ∷ 0 ∷ 0 ∷ [])) ≡ 5 * i + 4 = length-append u (0 ∷ 0 ∷ 0 ∷ 0 ∷ []) ∙ omega (arith, fresh-length i) in
    ap (λ (s : List ℕ). patch s (5 * i + 4) (1 ∷ [])) (zeros_more u (omega (arith, fresh-length i)))
    ∙ patch_on zeros (u ++ (0 ∷ 0 ∷ 0 ∷ 0 ∷ [])) (1 ∷ []) (5 * i + 4) l (omega (arith, zeros-length))
    ∙ ap (patch zeros 0) (append_assoc u (0 ∷ 0 ∷ 0 ∷ 0 ∷ []) (1 ∷ []) ∙ sym (rw add-one (fresh_snoc i)))

pub fresh_all : patch zeros 0 (fresh_entries 102) ≡ fresh_pot
unfolding fresh_pot pad
fresh_all = zeros-patch (fresh_entries 102) ∙ ap (λ (k : ℕ). fresh_entries 102 ++ replicate (512 - k) 0) (fresh-length 102)

pub fresh_pot-length : length fresh_pot ≡ 512
unfolding fresh_pot
fresh_pot-length = length-append (fresh_entries 102) (0 ∷ 0 ∷ []) ∙ omega (arith, fresh-length 102)

-- byte j of entry i
fresh_byte : (n i j : ℕ) (t : List ℕ) → i < n → j < 5 → get_or (fresh_entries n ++ t) (5 * i + j) 0 ≡ get_or (0 ∷ 0 ∷ 0 ∷ 0 ∷ 1 ∷ []) j 0
unfolding fresh_entries
fresh_byte zero i j t h k = absurd (omega arith)
fresh_byte (suc n) zero j t h k = let e : 5 * 0 + j ≡ j = omega arith in rw e (get_or-append (0 ∷ 0 ∷ 0 ∷ 0 ∷ 1 ∷ []) (fresh_entries n ++ t) 0 j k)
fresh_byte (suc n) (suc i) j t h k =
    let e : 5 * suc i + j ≡ suc (suc (suc (suc (suc (5 * i + j))))) = omega arith in
    rw e (fresh_byte n i j t (omega arith) k)

pub fresh_count : (i : ℕ) → i < 102 → count_at fresh_pot i ≡ 0
unfolding count_at get_u32 fresh_pot
fresh_count i h =
    let e : 5 * i ≡ 5 * i + 0 = omega arith in
    let b0 : get_or (fresh_entries 102 ++ (0 ∷ 0 ∷ [])) (5 * i) 0 ≡ 0 = rw e (fresh_byte 102 i 0 (0 ∷ 0 ∷ []) h (omega arith)) in
    let b1 = fresh_byte 102 i 1 (0 ∷ 0 ∷ []) h (omega arith) in
    let b2 = fresh_byte 102 i 2 (0 ∷ 0 ∷ []) h (omega arith) in
    let b3 = fresh_byte 102 i 3 (0 ∷ 0 ∷ []) h (omega arith) in
    omega (arith, b0, b1, b2, b3)

pub fresh_flags : (i : ℕ) → i < 102 → flags_at fresh_pot i ≡ 1
unfolding flags_at fresh_pot
fresh_flags i h = fresh_byte 102 i 4 (0 ∷ 0 ∷ []) h (omega arith)
