-- Allocation pots (document 01, 'The card').
--
--   byte of an entry   what
--   0 to 3             allocation count
--   4                  flags: bit 0 says that the page is all zeros
--
-- Entry i stands at byte 5 × i, i from 0 to 101. Bytes 510 and 511 are formatted zero and kept.
-- Assumes nothing.
use Rattle.std.specs.Prelude.{Bool, List, [], ◌∷◌, ◌++◌, ℕ, zero, suc, ◌+◌, ◌*◌, ◌/◌, ◌%◌, eqb, get_or}
use Rattle.card.specs.Bytes.{patch, get_u32, put_u32}

-- the byte position of entry i
abbrev pub entry_at : ℕ → ℕ
entry_at i = 5 * i

unfoldable pub count_at : List ℕ → ℕ → ℕ
count_at pot i = get_u32 pot (entry_at i)

unfoldable pub flags_at : List ℕ → ℕ → ℕ
flags_at pot i = get_or pot (entry_at i + 4) 0

unfoldable pub put_count : List ℕ → ℕ → ℕ → List ℕ
put_count pot i n = put_u32 pot (entry_at i) n

unfoldable pub put_flags : List ℕ → ℕ → ℕ → List ℕ
put_flags pot i flags = patch pot (entry_at i + 4) (flags ∷ [])

-- bit 0 tested, set and cleared; flags / 2 are the other seven bits
unfoldable pub is_zero : ℕ → Bool
is_zero flags = eqb (flags % 2) 1

unfoldable pub set_zero : ℕ → ℕ
set_zero flags = 2 * (flags / 2) + 1

unfoldable pub clear_zero : ℕ → ℕ
clear_zero flags = 2 * (flags / 2)

-- a formatted pot: 102 times count 0 and flags 1
unfoldable pub fresh_entries : ℕ → List ℕ
fresh_entries zero = []
fresh_entries (suc n) = 0 ∷ 0 ∷ 0 ∷ 0 ∷ 1 ∷ fresh_entries n

unfoldable pub fresh_pot : List ℕ
fresh_pot = fresh_entries 102 ++ (0 ∷ 0 ∷ [])
