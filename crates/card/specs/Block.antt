-- Blocks of a card (document 01, 'The card'): 512 bytes each, numbered from 0.
-- Assumes nothing.
use Rattle.std.specs.Prelude.{Bool, ◌&&◌, List, ℕ, ◌*◌, ◌/◌, ◌%◌, leb, eqb}
use Rattle.card.specs.Bytes.{part, patch}

unfoldable pub block_at : List ℕ → ℕ → List ℕ
block_at c n = part c (512 * n) 512

unfoldable pub put_block : List ℕ → ℕ → List ℕ → List ℕ
put_block c n b = patch c (512 * n) b

-- so many bytes are whole blocks, low to high of them (questions 1 and 3)
unfoldable pub whole : ℕ → ℕ → ℕ → Bool
whole low high bytes = eqb (bytes % 512) 0 && (leb low (bytes / 512) && leb (bytes / 512) high)
