-- The header, block 0 (document 01, 'The card').
--
--   bytes       what
--   0 to 3      layout, 1
--   4 to 7      commit number
--   8 to 11     trailer block
--   12 to 15    A
--   16 to 19    number of ranges
--   from 20     8 bytes a range: first OID, n
--   the rest    written zero and not read
-- Assumes nothing.
use Rattle.std.specs.Prelude.{ℕ, length, List, ◌∷◌}
use Rattle.card.specs.Bytes.{pairs, get_u32, words, read_words, pad}
use Rattle.card.specs.Range.{Range}
use Rattle.card.specs.declared.header.Header.{Header}

abbrev pub range_numbers : List Range → List ℕ
range_numbers rs = pairs (λ (r : Range). r.oid) (λ (r : Range). r.pages) rs

-- the header that format and H write
unfoldable pub header_block : ℕ → ℕ → ℕ → List Range → List ℕ
header_block commit trailer area rs = pad (words (1 ∷ commit ∷ trailer ∷ area ∷ length rs ∷ range_numbers rs))

-- what a header says; there is room for the numbers of 8 ranges
unfoldable pub header_on : List ℕ → Header
header_on h = record {
  layout = get_u32 h 0;
  commit = get_u32 h 4;
  trailer = get_u32 h 8;
  area = get_u32 h 12;
  count = get_u32 h 16;
  ranges = read_words h 20 16;
}
