-- Pots put one after the other, and the loops that put them.
-- Assumes nothing.
use Prim.Native.Nat.{ℕ, ◌+◌, ◌-◌, ◌*◌, ◌/◌, ◌≤◌, ◌<◌}
use lib.ListN.{length, get_or}
use mathlib.Core.Bool.{true}
use mathlib.Core.List.{List, [], ◌∷◌, ◌++◌}
use mathlib.Core.Logic.{◌≢◌}
use mathlib.Core.Path.{◌≡◌, refl, sym, ◌∙◌}
use native.Mathlib.Decide.{ℕ_discrete}
use native.Mathlib.Nat.{zero-add}
use native.Mathlib.Numerals.{add-one}
use native.Mathlib.Omega.{arith}
use Rattle.card.proofs.AddressLaws.{In}
use Rattle.card.proofs.BlockLaws.{put_length, put_same, put_other}
use Rattle.card.proofs.BytesLaws.{tab_start, tab_end, tab_snoc}
use Rattle.card.proofs.CheckpointLaws.{whole_tells}
use Rattle.card.proofs.PotLaws.{fresh_pot-length}
use Rattle.card.proofs.RangeLaws.{range_next, geometry_tells}
use Rattle.card.specs.Block.{block_at, put_block, whole}
use Rattle.card.specs.Bytes.{tabulate, All}
use Rattle.card.specs.Pot.{fresh_pot}
use Rattle.card.specs.Range.{range_in, ranges_of, pot_count, range_blocks, geometry_fits, all_blocks, all_pots}
use Rattle.pages.specs.Page.{put_pots}

-- ---- the card that they leave

put_pots_join : (c ms ns : List ℕ) → put_pots c (ms ++ ns) ≡ put_pots (put_pots c ms) ns
unfolding put_pots
put_pots_join c [] ns = refl
put_pots_join c (m ∷ ms) ns = put_pots_join (put_block c m fresh_pot) ms ns

put_pots_snoc : (c ns : List ℕ) (n : ℕ) → put_pots c (ns ++ (n ∷ [])) ≡ put_block (put_pots c ns) n fresh_pot
unfolding put_pots
put_pots_snoc c ns n = put_pots_join c ns (n ∷ [])

module _ (blocks : ℕ) where
  pot_length : (c : List ℕ) (n : ℕ) → length c ≡ 512 * blocks → n < blocks → length (put_block c n fresh_pot) ≡ 512 * blocks
  pot_length c n long h = put_length c n fresh_pot fresh_pot-length (omega arith) ∙ long

  pub put_pots-length : (c ns : List ℕ) → length c ≡ 512 * blocks → All (λ n. n < blocks) ns → length (put_pots c ns) ≡ 512 * blocks
  unfolding put_pots
  put_pots-length c [] long h = long
  put_pots-length c (n ∷ ns) long h = put_pots-length (put_block c n fresh_pot) ns (pot_length c n long h.0) h.1

  -- no other block is written
  pub put_pots_other : (c ns : List ℕ) (m : ℕ) → length c ≡ 512 * blocks → All (λ n. n < blocks) ns → All (λ n. m ≢ n) ns → block_at (put_pots c ns) m ≡ block_at c m
  unfolding put_pots
  put_pots_other c [] m long h other = refl
  put_pots_other c (n ∷ ns) m long h other =
      put_pots_other (put_block c n fresh_pot) ns m (pot_length c n long h.0) h.1 other.1
      ∙ put_other c n fresh_pot fresh_pot-length (omega (arith, h.0)) m other.0

  -- a block that is a fresh pot stays one
  pots_keep : (c ns : List ℕ) (m : ℕ) → length c ≡ 512 * blocks → All (λ n. n < blocks) ns → block_at c m ≡ fresh_pot → block_at (put_pots c ns) m ≡ fresh_pot
  unfolding put_pots
  pots_keep c [] m long h e = e
  pots_keep c (n ∷ ns) m long h e = pots_keep (put_block c n fresh_pot) ns m (pot_length c n long h.0) h.1 (go (ℕ_discrete m n))
    where
      go : Dec (m ≡ n) → block_at (put_block c n fresh_pot) m ≡ fresh_pot
      go (yes q) = rw q (put_same c n fresh_pot fresh_pot-length (omega (arith, h.0)))
      go (no d) = put_other c n fresh_pot fresh_pot-length (omega (arith, h.0)) m d ∙ e

  pub put_pots-fresh : (c ns : List ℕ) (m : ℕ) → length c ≡ 512 * blocks → All (λ n. n < blocks) ns → In m ns → block_at (put_pots c ns) m ≡ fresh_pot
  unfolding put_pots
  put_pots-fresh c [] m long h i = absurd (i tt)
  put_pots-fresh c (n ∷ ns) m long h i = go (ℕ_discrete m n) (λ k. put_pots-fresh (put_block c n fresh_pot) ns m (pot_length c n long h.0) h.1 k)
    where
      go : Dec (m ≡ n) → (In m ns → block_at (put_pots (put_block c n fresh_pot) ns) m ≡ fresh_pot) → block_at (put_pots (put_block c n fresh_pot) ns) m ≡ fresh_pot
      go (yes q) rec = pots_keep (put_block c n fresh_pot) ns m (pot_length c n long h.0) h.1 (rw q (put_same c n fresh_pot fresh_pot-length (omega (arith, h.0))))
      go (no d) rec = rec (λ a. i (d, a))

-- ---- what code puts

-- one more pot of a range
pub pots_more : (before card pot : List ℕ) (start i : ℕ) → pot ≡ fresh_pot → card ≡ put_pots before (tabulate (λ k. start + 103 * k) 0 i)
    → put_block card (start + 103 * i) pot ≡ put_pots before (tabulate (λ k. start + 103 * k) 0 (i + 1))
pots_more before card pot start i fresh e =
    rw (fresh, e, add-one, tab_snoc (λ k. start + 103 * k) 0 i, zero-add) (sym (put_pots_snoc before (tabulate (λ k. start + 103 * k) 0 i) (start + 103 * i)))

-- the loop over ranges, before range i, whose first block is `at`: what is left to put ends with the card, and with it every pot is put
pub record PotsLeft (numbers : List ℕ) (count start : ℕ) (before : List ℕ) (i at : ℕ) (card : List ℕ) : Type 0 where
  pub same : length card ≡ length before
  pub full : length card ≡ 512 * (at + all_blocks (tabulate (range_in numbers) i (count - i)))
  pub pots : put_pots card (all_pots (tabulate (range_in numbers) i (count - i)) at) ≡ put_pots before (all_pots (ranges_of numbers count) start)

pub left_all : (numbers : List ℕ) (count area : ℕ) (before : List ℕ) → whole 11 65536 (length before) ≡ true → geometry_fits (length before / 512) area (ranges_of numbers count) ≡ true
    → PotsLeft numbers count (1 + area) before 0 (1 + area) before
unfolding ranges_of
left_all numbers count area before w g =
    let full = (geometry_tells (length before / 512) area (tabulate (range_in numbers) 0 count) g).full in
    record {
      same = refl;
      full = rw (tab_start (range_in numbers) count) (omega (arith, (whole_tells 11 65536 (length before) w).0));
      pots = rw (tab_start (range_in numbers) count);
    }

module _ {numbers : List ℕ} {count start : ℕ} {before : List ℕ} {i at : ℕ} {card : List ℕ} (left : PotsLeft numbers count start before i at card) where
  module _ (pages : ℕ) (is : pages ≡ get_or numbers (2 * i + 1) 0) (more : i < count) where
    next : tabulate (range_in numbers) i (count - i) ≡ record { oid = get_or numbers (2 * i) 0; pages = pages } ∷ tabulate (range_in numbers) (i + 1) (count - (i + 1))
    next = range_next numbers i count (get_or numbers (2 * i) 0) pages more refl is

    ends : length card ≡ 512 * (at + (range_blocks pages + all_blocks (tabulate (range_in numbers) (i + 1) (count - (i + 1)))))
    ends = rw next at left.full

    -- the range's blocks are on the card
    pub left_fits : 512 * (at + range_blocks pages) ≤ length card
    left_fits = omega (arith, ends)

    -- its pots put
    pub left_next : (card' : List ℕ) → length card' ≡ length card → card' ≡ put_pots card (tabulate (λ k. at + 103 * k) 0 (pot_count pages))
        → PotsLeft numbers count start before (i + 1) (at + range_blocks pages) card'
    unfolding all_pots
    left_next card' long put = record {
      same = long ∙ left.same;
      full = omega (arith, ends);
      pots = rw put (sym (put_pots_join card (tabulate (λ k. at + 103 * k) 0 (pot_count pages)) _) ∙ rw (next, all_pots) at left.pots);
    }

  pub left_none : count ≤ i → card ≡ put_pots before (all_pots (ranges_of numbers count) start)
  unfolding all_pots put_pots
  left_none h = rw (tab_end (range_in numbers) i count h) at left.pots
