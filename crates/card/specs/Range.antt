-- Home ranges (document 01, 'The card'; document 02, #101): what question 5 asks of them, and the place of an OID.
--
--   block of a range   what
--   0                  pot of pages 0 to 101
--   1 to 102           these pages
--   103                pot of pages 102 to 203
--   ..
-- Assumes nothing.
use Rattle.std.specs.Prelude.{Bool, false, cond, ◌&&◌, ◌||◌, List, [], ◌∷◌, ◌++◌, ℕ, ◌+◌, ◌-◌, ◌*◌, ◌/◌, ◌%◌, ltb, leb, eqb, length, get_or, Result, Ok, Err}
use Rattle.card.specs.Bytes.{tabulate}
use Rattle.card.specs.declared.range.Address.{Address}
use Rattle.card.specs.declared.refusal.Refusal.{Refusal}
use Rattle.card.specs.declared.refusal.Refusal.TheVariants as refusals

-- a range: its first OID and its n pages
pub record Range : Type 0 where
  pub oid : ℕ
  pub pages : ℕ

-- ranges given as numbers, first OID and n of each in turn, as the header has them: range i, and the first n
abbrev pub range_in : List ℕ → ℕ → Range
range_in numbers i = record { oid = get_or numbers (2 * i) 0; pages = get_or numbers (2 * i + 1) 0 }

unfoldable pub ranges_of : List ℕ → ℕ → List Range
ranges_of numbers n = tabulate (range_in numbers) 0 n

-- a pot for each run of 102 pages
abbrev pub pot_count : ℕ → ℕ
pot_count n = (n + 101) / 102

abbrev pub range_blocks : ℕ → ℕ
range_blocks n = n + pot_count n

-- ranges whose OIDs rise from low on, do not overlap and end below 4,294,967,296, and whose blocks follow from `at` without gaps to the card's last block
unfoldable pub ranges_fill : ℕ → ℕ → ℕ → List Range → Bool
ranges_fill low at blocks [] = eqb at blocks
ranges_fill low at blocks (r ∷ rs) =
    leb low r.oid && (leb 1 r.pages && (leb (r.oid + r.pages) 4294967296 && ranges_fill (r.oid + r.pages) (at + range_blocks r.pages) blocks rs))

-- question 5: A from 8 to 512, 1 to 8 ranges, from block 1 + A on
unfoldable pub geometry_fits : ℕ → ℕ → List Range → Bool
geometry_fits blocks area rs = leb 8 area && (leb area 512 && (leb 1 (length rs) && (leb (length rs) 8 && ranges_fill 0 (1 + area) blocks rs)))

-- the place of page r of a range whose first block is start: its block, its pot's block, its entry there
abbrev pub address_in : ℕ → ℕ → Address
address_in start r = record { page = start + r + r / 102 + 1; pot = start + 103 * (r / 102); entry = r % 102 }

-- what is at an OID: a page; a gap between two ranges; nothing, below the first range or above the last
pub data Lookup : Type 0 where
  Located : Address → Lookup
  Gap Outside : Lookup

-- does a range end at or below an OID, and does one begin above it?
unfoldable pub some_below : List Range → ℕ → Bool
some_below [] oid = false
some_below (r ∷ rs) oid = leb (r.oid + r.pages) oid || some_below rs oid

unfoldable pub some_above : List Range → ℕ → Bool
some_above [] oid = false
some_above (r ∷ rs) oid = ltb oid r.oid || some_above rs oid

-- an OID in no range: it lies between two of them (21), or below the first or above the last (9)
unfoldable pub missing : List Range → ℕ → Lookup
missing rs oid = cond (some_below rs oid && some_above rs oid) Gap Outside

-- the place of an OID, in ranges that follow from block start; `none` where no range has it
unfoldable pub locate_or : Lookup → List Range → ℕ → ℕ → Lookup
locate_or none [] start oid = none
locate_or none (r ∷ rs) start oid = cond (leb r.oid oid && ltb oid (r.oid + r.pages)) (Located (address_in start (oid - r.oid))) (locate_or none rs (start + range_blocks r.pages) oid)

unfoldable pub locate : List Range → ℕ → ℕ → Lookup
locate rs start oid = locate_or (missing rs oid) rs start oid

-- what the code answers of it
abbrev pub place_or : Lookup → Result Address Refusal
place_or (Located p) = Ok p
place_or Gap = Err refusals.Gap
place_or Outside = Err refusals.Outside

-- the OID behind the last range
abbrev pub last_end : Range → List Range → ℕ
last_end r [] = r.oid + r.pages
last_end r (x ∷ xs) = last_end x xs

-- the blocks that ranges take
abbrev pub all_blocks : List Range → ℕ
all_blocks [] = 0
all_blocks (r ∷ rs) = range_blocks r.pages + all_blocks rs

-- the pots of ranges that follow from block start, in order
unfoldable pub all_pots : List Range → ℕ → List ℕ
all_pots [] start = []
all_pots (r ∷ rs) start = tabulate (λ i. start + 103 * i) 0 (pot_count r.pages) ++ all_pots rs (start + range_blocks r.pages)
