-- Questions (document 01, 'Questions asked, in this order'), and those of start that go to the card: 3 to 8.
-- Assumes nothing.
use Rattle.std.specs.Prelude.{Bool, true, cond, ◌&&◌, List, [], ◌∷◌, ◌++◌, ℕ, ◌-◌, ◌/◌, ltb, leb, eqb, length}
use Rattle.card.specs.Block.{block_at, whole}
use Rattle.card.specs.Ring.{ring_at, ring_offset, half, generation_size}
use Rattle.card.specs.Range.{Range, ranges_of, geometry_fits}
use Rattle.card.specs.Header.{header_on}
use Rattle.card.specs.Directory.{read_dir}
use Rattle.card.specs.Trailer.{trailer_on}
use Rattle.card.specs.declared.directory.Entry.{Entry}
use Rattle.card.specs.declared.header.Header.{Header}
use Rattle.card.specs.declared.trailer.Trailer.{Trailer}

pub record Question : Type 0 where
  pub number : ℕ
  pub yes : Bool

abbrev pub ask : ℕ → Bool → Question
ask n b = record { number = n; yes = b }

-- the number of the first "no"; 0: there is none
unfoldable pub first_no : List Question → ℕ
first_no [] = 0
first_no (q ∷ qs) = cond q.yes (first_no qs) q.number

-- the ranges that a header names
abbrev pub header_ranges : Header → List Range
header_ranges h = ranges_of h.ranges h.count

-- 6: commit and trailer block both 0, or commit above 0 and trailer block in 1 to A
unfoldable pub commit_fits : ℕ → ℕ → ℕ → Bool
commit_fits commit trailer area = cond (eqb commit 0) (eqb trailer 0) (leb 1 trailer && leb trailer area)

-- 4 to 6, of the header of a card of so many blocks
unfoldable pub header_asks : ℕ → Header → List Question
header_asks blocks h = ask 4 (eqb h.layout 1) ∷ ask 5 (geometry_fits blocks h.area (header_ranges h)) ∷ ask 6 (commit_fits h.commit h.trailer h.area) ∷ []

-- a generation of p and e from first on has a size of at most H, and its last block is n
unfoldable pub ends_at : ℕ → ℕ → ℕ → ℕ → ℕ → Bool
ends_at area first p e n = leb (generation_size p e) (half area) && eqb (ring_at area first (generation_size p e - 1)) n

-- 7: of the trailer t that the header h names
unfoldable pub trailer_fits : Header → Trailer → Bool
trailer_fits h t =
    eqb t.commit h.commit
    && (leb 1 t.first
    && (leb t.first h.area && (leb 1 t.entries && (leb t.entries t.pages && ends_at h.area t.first t.pages t.entries h.trailer))))

-- 8, of one entry: its frame is above low and a home block, and its block among the p page blocks from first on
unfoldable pub entry_fits : ℕ → ℕ → ℕ → ℕ → ℕ → Entry → Bool
entry_fits blocks area first p low e =
    ltb low e.frame && (ltb e.frame blocks && (leb 1 e.block && (leb e.block area && ltb (ring_offset area first e.block) p)))

-- 8: each entry fits, and low is the frame before it
unfoldable pub entries_fit : ℕ → ℕ → ℕ → ℕ → ℕ → List Entry → Bool
entries_fit blocks area first p low [] = true
entries_fit blocks area first p low (e ∷ es) = entry_fits blocks area first p low e && entries_fit blocks area first p e.frame es

-- The committed generation that a card tells of, by its trailer. With commit 0 there is none, and the first generation starts at block 1.
unfoldable pub committed_on : List ℕ → Trailer
committed_on c = cond (eqb (header_on (block_at c 0)).commit 0) (record { commit = 0; first = 1; pages = 0; entries = 0 })
    (trailer_on (block_at c (header_on (block_at c 0)).trailer))

unfoldable pub entries_on : List ℕ → List Entry
entries_on c = read_dir c (header_on (block_at c 0)).area (committed_on c).first (committed_on c).pages (committed_on c).entries

-- 7 and 8, with commit above 0
unfoldable pub generation_asks : List ℕ → List Question
generation_asks c =
    let h = header_on (block_at c 0) in
    let t = committed_on c in
    cond (eqb h.commit 0) [] (ask 7 (trailer_fits h t) ∷ ask 8 (entries_fit (length c / 512) h.area t.first t.pages h.area (entries_on c)) ∷ [])

-- 3 to 8
unfoldable pub card_asks : List ℕ → List Question
card_asks c = ask 3 (whole 11 65536 (length c)) ∷ (header_asks (length c / 512) (header_on (block_at c 0)) ++ generation_asks c)
