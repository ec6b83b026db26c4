-- A generation's directory on the card (document 01, 'A generation').
--
--   bytes of an entry   what
--   0 to 3              frame, named by its home block
--   4 to 7              area block
--
-- 64 entries fill a block, unused bytes are zero. The directory's blocks follow the generation's p page blocks in the ring.
-- Assumes nothing.
use Rattle.std.specs.Prelude.{ℕ, ◌+◌, ◌*◌, ◌/◌, ◌%◌, ◌<◌, take, drop, get_or, List}
use Rattle.card.specs.Block.{block_at}
use Rattle.card.specs.Bytes.{tabulate, pairs, get_u32, words, pad}
use Rattle.card.specs.Ring.{ring_at}
use Rattle.card.specs.declared.directory.Entry.{Entry}

-- entries held in two arrays, of frames and of places: entry i, and the first n; place i is the block i on from the
-- generation's first
abbrev pub entry_in : ℕ → ℕ → List ℕ → List ℕ → ℕ → Entry
entry_in area first frames places i = record { frame = get_or frames i 0; block = ring_at area first (get_or places i 0) }

unfoldable pub entries_of : ℕ → ℕ → List ℕ → List ℕ → ℕ → List Entry
entries_of area first frames places n = tabulate (entry_in area first frames places) 0 n

-- the first n places are below p
abbrev pub PlacesBelow : ℕ → ℕ → List ℕ → Type 0
PlacesBelow p n places = (i : ℕ) → i < n → get_or places i 0 < p

abbrev pub entry_numbers : List Entry → List ℕ
entry_numbers es = pairs (λ (e : Entry). e.frame) (λ (e : Entry). e.block) es

-- the j-th block of a directory
unfoldable pub dir_block : List Entry → ℕ → List ℕ
dir_block es j = pad (words (entry_numbers (take 64 (drop (64 * j) es))))

-- entry k of a directory block
unfoldable pub read_entry : List ℕ → ℕ → Entry
read_entry b k = record { frame = get_u32 b (8 * k); block = get_u32 b (8 * k + 4) }

-- entry i of the directory behind p page blocks from first on
unfoldable pub entry_on : List ℕ → ℕ → ℕ → ℕ → ℕ → Entry
entry_on c area first p i = read_entry (block_at c (ring_at area first (p + i / 64))) (i % 64)

-- its first e entries
unfoldable pub read_dir : List ℕ → ℕ → ℕ → ℕ → ℕ → List Entry
read_dir c area first p e = tabulate (entry_on c area first p) 0 e
