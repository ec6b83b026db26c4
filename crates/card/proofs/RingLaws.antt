-- The ring of area blocks: positions counted on from a first block, and back; sizes of generations.
-- Assumes nothing.
use Prim.Native.Nat.{ℕ, ◌+◌, ◌≤◌, ◌<◌}
use borrow.Author.Tests.{leb-true, leb-false, eq-eqb, ne_eqb}
use lib.Dec.{leb}
use mathlib.Core.Logic.{◌⊎◌, inl, inr, ⊎_elim}
use mathlib.Core.Path.{◌≡◌, refl}
use native.Mathlib.Omega.{arith}
use Rattle.card.proofs.Test.{by_test, le_or_lt}
use Rattle.card.specs.Ring.{ring_at, ring_offset, dir_blocks, generation_size}

-- the two cases of each definition, as equations without subtraction
pub on_cases : (area first i : ℕ) → ((first + i ≤ area) × (ring_at area first i ≡ first + i)) ⊎ ((area < first + i) × (ring_at area first i + area ≡ first + i))
unfolding ring_at
on_cases area first i = by_test (λ n. ((first + i ≤ area) × (n ≡ first + i)) ⊎ ((area < first + i) × (n + area ≡ first + i))) (leb (first + i) area)
    (λ e. inl (leb-true _ _ e, refl))
    (λ e. let h : area < first + i = leb-false _ _ e in inr (h, omega arith))

pub from_cases : (area first n : ℕ) → first ≤ area → ((first ≤ n) × (ring_offset area first n + first ≡ n)) ⊎ ((n < first) × (ring_offset area first n + first ≡ n + area))
unfolding ring_offset
from_cases area first n h = by_test (λ k. ((first ≤ n) × (k + first ≡ n)) ⊎ ((n < first) × (k + first ≡ n + area))) (leb first n)
    (λ e. let l : first ≤ n = leb-true _ _ e in inl (l, omega arith))
    (λ e. let l : n < first = leb-false _ _ e in inr (l, omega arith))

-- a block of the area stands where its position tells
pub on_from : (area first n : ℕ) → first ≤ area → 1 ≤ n → n ≤ area → ring_at area first (ring_offset area first n) ≡ n
on_from area first n h l k = elim (from_cases area first n h) [
  | inl p ↦ elim (on_cases area first (ring_offset area first n)) [ inl q ↦ omega arith | inr q ↦ omega arith ]
  | inr p ↦ elim (on_cases area first (ring_offset area first n)) [ inl q ↦ omega arith | inr q ↦ omega arith ]
]

module _ (area first : ℕ) (low : 1 ≤ first) (high : first ≤ area) where
  pub on_in : (i : ℕ) → i ≤ area → (1 ≤ ring_at area first i) × (ring_at area first i ≤ area)
  on_in i h = elim (on_cases area first i) [ inl p ↦ omega arith | inr p ↦ omega arith ]

  pub from_on : (i : ℕ) → i < area → ring_offset area first (ring_at area first i) ≡ i
  from_on i h = elim (on_cases area first i) [
    | inl p ↦ elim (from_cases area first (ring_at area first i) high) [ inl q ↦ omega arith | inr q ↦ omega arith ]
    | inr p ↦ elim (from_cases area first (ring_at area first i) high) [ inl q ↦ omega arith | inr q ↦ omega arith ]
  ]

  -- positions count on: from a first block s places further, everything from there on stands s places nearer
  pub from_shift : (s n : ℕ) → 1 ≤ n → n ≤ area → s ≤ ring_offset area first n → ring_offset area (ring_at area first s) n + s ≡ ring_offset area first n
  from_shift s n l h k = elim (on_cases area first s) [
    | inl p ↦ elim (from_cases area first n high) [
      | inl q ↦ elim (from_cases area (ring_at area first s) n (omega arith)) [ inl r ↦ omega arith | inr r ↦ omega arith ]
      | inr q ↦ elim (from_cases area (ring_at area first s) n (omega arith)) [ inl r ↦ omega arith | inr r ↦ omega arith ]
    ]
    | inr p ↦ elim (from_cases area first n high) [
      | inl q ↦ elim (from_cases area (ring_at area first s) n (omega arith)) [ inl r ↦ omega arith | inr r ↦ omega arith ]
      | inr q ↦ elim (from_cases area (ring_at area first s) n (omega arith)) [ inl r ↦ omega arith | inr r ↦ omega arith ]
    ]
  ]

  pub on_on : (i j : ℕ) → i + j ≤ area → ring_at area (ring_at area first i) j ≡ ring_at area first (i + j)
  on_on i j h = elim (on_cases area first i) [
    | inl p ↦ elim (on_cases area (ring_at area first i) j) [
      | inl q ↦ elim (on_cases area first (i + j)) [ inl r ↦ omega arith | inr r ↦ omega arith ]
      | inr q ↦ elim (on_cases area first (i + j)) [ inl r ↦ omega arith | inr r ↦ omega arith ]
    ]
    | inr p ↦ elim (on_cases area (ring_at area first i) j) [
      | inl q ↦ elim (on_cases area first (i + j)) [ inl r ↦ omega arith | inr r ↦ omega arith ]
      | inr q ↦ elim (on_cases area first (i + j)) [ inl r ↦ omega arith | inr r ↦ omega arith ]
    ]
  ]

pub ring_high : (area first i : ℕ) → first ≤ area → i ≤ area → ring_at area first i ≤ area
ring_high area first i h k = elim (on_cases area first i) [ inl p ↦ omega arith | inr p ↦ omega arith ]

-- ---- sizes

pub size_some : (p e : ℕ) → 1 ≤ e → generation_size p e ≡ p + dir_blocks e + 1
unfolding generation_size
size_some p e h = rw (ne_eqb e 0 (omega arith))

pub size_none : (p e : ℕ) → e ≡ 0 → generation_size p e ≡ 0
unfolding generation_size
size_none p e h = rw (eq-eqb e 0 h)

-- more places and more entries make no smaller generation
pub size_more : (p e q f : ℕ) → p ≤ q → e ≤ f → generation_size p e ≤ generation_size q f
size_more p e q f h k = ⊎_elim (λ l. omega (arith, size_some p e l, size_some q f (omega arith))) (λ l. omega (arith, size_none p e (omega arith))) (le_or_lt 1 e)

-- an entry makes it larger than its places
pub size_above : (p e : ℕ) → 1 ≤ e → p < generation_size p e
size_above p e h = omega (arith, size_some p e h)

-- a size that is small bounds the entries
pub entries_small : (p e most : ℕ) → e ≤ p → generation_size p e ≤ most → e ≤ most
entries_small p e most h k = ⊎_elim (λ l. omega (arith, size_some p e l)) (λ l. omega arith) (le_or_lt 1 e)
