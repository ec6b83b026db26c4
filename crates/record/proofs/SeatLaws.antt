-- The memory frames of waiting frames: a ring, whose first is the oldest one's.
-- Assumes nothing.
use Prim.Native.Nat.{ℕ, ◌+◌, ◌*◌, ◌≤◌, ◌<◌}
use borrow.Author.Tests.{ltb-true, ltb-false}
use lib.Dec.{ltb}
use lib.ListN.{length}
use mathlib.Core.List.{List}
use mathlib.Core.Logic.{◌⊎◌, inl, inr}
use mathlib.Core.Path.{◌≡◌, refl}
use native.Mathlib.Omega.{arith}
use Rattle.card.proofs.Test.{by_test}
use Rattle.record.specs.Meaning.{seat_at}

module _ (frames head : ℕ) where
  -- the two cases of a seat, as equations without subtraction
  pub seat_cases : (i : ℕ) → ((head + i < frames) × (seat_at frames head i ≡ head + i)) ⊎ ((frames ≤ head + i) × (seat_at frames head i + frames ≡ head + i))
  unfolding seat_at
  seat_cases i = by_test (λ n. ((head + i < frames) × (n ≡ head + i)) ⊎ ((frames ≤ head + i) × (n + frames ≡ head + i))) (ltb (head + i) frames)
      (λ e. inl (ltb-true _ _ e, refl))
      (λ e. let h : frames ≤ head + i = ltb-false _ _ e in inr (h, omega arith))

  pub seat_low : (i : ℕ) → head < frames → i ≤ frames → seat_at frames head i < frames
  seat_low i h k = elim (seat_cases i) [ inl p ↦ omega arith | inr p ↦ omega arith ]

  pub seat_apiece : (i j : ℕ) → i < frames → j < frames → seat_at frames head i ≡ seat_at frames head j → i ≡ j
  seat_apiece i j a b e = elim (seat_cases i) [
    | inl p ↦ elim (seat_cases j) [ inl q ↦ omega arith | inr q ↦ omega arith ]
    | inr p ↦ elim (seat_cases j) [ inl q ↦ omega arith | inr q ↦ omega arith ]
  ]

-- a seat is a block of memory
pub seat_fits : (m : List ℕ) (frames head i n : ℕ) → length m ≡ 512 * frames → head < frames → i ≤ frames → n ≡ seat_at frames head i → 512 * n + 512 ≤ length m
seat_fits m frames head i n long low h e = omega (arith, long, e, seat_low frames head i low h)

module _ (frames head : ℕ) (low : head < frames) where
  -- the oldest one's
  pub seat_here : seat_at frames head 0 ≡ head
  seat_here = elim (seat_cases frames head 0) [ inl p ↦ omega arith | inr p ↦ omega arith ]

  -- from the next one's on each stands one nearer
  pub seat_next : (i : ℕ) → i < frames → seat_at frames (seat_at frames head 1) i ≡ seat_at frames head (i + 1)
  seat_next i h = elim (seat_cases frames head 1) [
    | inl p ↦ elim (seat_cases frames (seat_at frames head 1) i) [
      | inl q ↦ elim (seat_cases frames head (i + 1)) [ inl r ↦ omega arith | inr r ↦ omega arith ]
      | inr q ↦ elim (seat_cases frames head (i + 1)) [ inl r ↦ omega arith | inr r ↦ omega arith ]
    ]
    | inr p ↦ elim (seat_cases frames (seat_at frames head 1) i) [
      | inl q ↦ elim (seat_cases frames head (i + 1)) [ inl r ↦ omega arith | inr r ↦ omega arith ]
      | inr q ↦ elim (seat_cases frames head (i + 1)) [ inl r ↦ omega arith | inr r ↦ omega arith ]
    ]
  ]
