-- Items a to j of document 01's lane tables, as one table and one statement: each definition gives what document 01 says.
-- Assumes nothing.
use Prim.Native.Nat.{ℕ}
use mathlib.Core.List.{List, [], ◌∷◌, map}
use mathlib.Core.Path.{◌≡◌, refl}
use Rattle.card.specs.Range.{range_blocks, address_in}
use Rattle.card.specs.Ring.{ring_at, half, generation_size}

pub record Item : Type 0 where
  pub given : ℕ
  pub said : ℕ

pub item : ℕ → ℕ → Item
item a b = record { given = a; said = b }

pub lanes : List Item
unfolding item
lanes =
    item (address_in 0 0).page 1 ∷ item (address_in 0 0).pot 0  -- a
    ∷ item (address_in 0 101).page 102 ∷ item (address_in 0 101).pot 0  -- b
    ∷ item (address_in 0 102).page 104 ∷ item (address_in 0 102).pot 103  -- c
    ∷ item (range_blocks 102) 103  -- d
    ∷ item (range_blocks 103) 105  -- e
    ∷ item (half 9) 4  -- f
    ∷ item (ring_at 8 7 3) 2  -- g
    ∷ item (generation_size 2 2) 4  -- h
    ∷ item (generation_size 65 65) 68  -- i
    ∷ item (generation_size 251 251) 256  -- j
    ∷ []

pub lane_table : map (λ (l : Item). l.given) lanes ≡ map (λ (l : Item). l.said) lanes
unfolding lanes item ring_at generation_size
lane_table = refl
