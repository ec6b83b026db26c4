-- Blocks of the card, byte by byte, as document 01 lays them down: two headers, a trailer, a directory block, pots; and
-- OIDs at the borders of ranges. The definitions stand on both sides of demand 2, so that a wrong layout or place would
-- be wrong on both; here it is refused.
-- Assumes nothing.
use lib.ListN.{take, drop, length, replicate}
use mathlib.Core.List.{List, [], ◌∷◌, ◌++◌}
use mathlib.Core.Path.{◌≡◌, refl}
use Rattle.card.specs.Bytes.{pairs, patch, u32_bytes, words, pad}
use Rattle.card.specs.Directory.{dir_block}
use Rattle.card.specs.Header.{header_block}
use Rattle.card.specs.Pot.{put_count, put_flags, fresh_entries, fresh_pot}
use Rattle.card.specs.Range.{Range, some_below, some_above, missing, locate_or, locate, Located, Gap, Outside}
use Rattle.card.specs.Trailer.{trailer_block}

-- layout 1, commit 258, trailer block 4, A 8, one range: OID 100, 3 pages
pub header_bytes : header_block 258 4 8 (record { oid = 100; pages = 3 } ∷ [])
    ≡ (1 ∷ 0 ∷ 0 ∷ 0 ∷ 2 ∷ 1 ∷ 0 ∷ 0 ∷ 4 ∷ 0 ∷ 0 ∷ 0 ∷ 8 ∷ 0 ∷ 0 ∷ 0 ∷ 1 ∷ 0 ∷ 0 ∷ 0
    ∷ 100 ∷ 0 ∷ 0 ∷ 0 ∷ 3 ∷ 0 ∷ 0 ∷ 0 ∷ []) ++ replicate 484 0
unfolding header_block pad words u32_bytes pairs
header_bytes = refl

-- layout 1, commit 7, trailer block 300, A 512, two ranges: OID 5, 2 pages; OID 65,536, 1 page
pub ranges_bytes : header_block 7 300 512 (record { oid = 5; pages = 2 } ∷ record { oid = 65536; pages = 1 } ∷ [])
    ≡ (1 ∷ 0 ∷ 0 ∷ 0 ∷ 7 ∷ 0 ∷ 0 ∷ 0 ∷ 44 ∷ 1 ∷ 0 ∷ 0 ∷ 0 ∷ 2 ∷ 0 ∷ 0 ∷ 2 ∷ 0 ∷ 0 ∷ 0
    ∷ 5 ∷ 0 ∷ 0 ∷ 0 ∷ 2 ∷ 0 ∷ 0 ∷ 0 ∷ 0 ∷ 0 ∷ 1 ∷ 0 ∷ 1 ∷ 0 ∷ 0 ∷ 0 ∷ []) ++ replicate 476 0
unfolding header_block pad words u32_bytes pairs
ranges_bytes = refl

-- commit 258, first block 3, p 5, e 4
pub trailer_bytes : trailer_block (record { commit = 258; first = 3; pages = 5; entries = 4 })
    ≡ replicate 496 0 ++ (2 ∷ 1 ∷ 0 ∷ 0 ∷ 3 ∷ 0 ∷ 0 ∷ 0 ∷ 5 ∷ 0 ∷ 0 ∷ 0 ∷ 4 ∷ 0 ∷ 0 ∷ 0 ∷ [])
unfolding trailer_block words u32_bytes
trailer_bytes = refl

-- the whole run's directory: (9,2), (10,1)
pub directory_bytes : dir_block (record { frame = 9; block = 2 } ∷ record { frame = 10; block = 1 } ∷ []) 0
    ≡ (9 ∷ 0 ∷ 0 ∷ 0 ∷ 2 ∷ 0 ∷ 0 ∷ 0 ∷ 10 ∷ 0 ∷ 0 ∷ 0 ∷ 1 ∷ 0 ∷ 0 ∷ 0 ∷ []) ++ replicate 496 0
unfolding dir_block pad words u32_bytes pairs
directory_bytes = refl

-- a formatted pot: its first two entries, its last one with bytes 510 and 511, and its length
pub pot_bytes : (take 10 fresh_pot ≡ 0 ∷ 0 ∷ 0 ∷ 0 ∷ 1 ∷ 0 ∷ 0 ∷ 0 ∷ 0 ∷ 1 ∷ [])
    × (drop 505 fresh_pot ≡ 0 ∷ 0 ∷ 0 ∷ 0 ∷ 1 ∷ 0 ∷ 0 ∷ []) × (length fresh_pot ≡ 512)
unfolding fresh_pot fresh_entries
pot_bytes = (refl, refl, refl)

-- in a formatted pot count 258 of entry 1, and flags 3 of the last entry
pub entry_bytes : (take 10 (put_count fresh_pot 1 258) ≡ 0 ∷ 0 ∷ 0 ∷ 0 ∷ 1 ∷ 2 ∷ 1 ∷ 0 ∷ 0 ∷ 1 ∷ [])
    × (drop 500 (put_flags fresh_pot 101 3) ≡ 0 ∷ 0 ∷ 0 ∷ 0 ∷ 1 ∷ 0 ∷ 0 ∷ 0 ∷ 0 ∷ 3 ∷ 0 ∷ 0 ∷ [])
unfolding fresh_pot fresh_entries put_count put_flags u32_bytes patch
entry_bytes = (refl, refl)

-- OIDs 10 to 14 and 20 to 24, on a card with A 8: nothing at 9 and 25, a gap at 15 and 19
abbrev pub apart : List Range
apart = record { oid = 10; pages = 5 } ∷ record { oid = 20; pages = 5 } ∷ []

pub gap_lookups : (locate apart 9 9 ≡ Outside) × (locate apart 9 15 ≡ Gap) × (locate apart 9 19 ≡ Gap) × (locate apart 9 25 ≡ Outside)
unfolding locate locate_or missing some_below some_above
gap_lookups = (refl, refl, refl, refl)

pub page_lookups : (locate apart 9 14 ≡ Located (record { page = 14; pot = 9; entry = 4 })) × (locate apart 9 20 ≡ Located (record { page = 16; pot = 15; entry = 0 }))
unfolding locate locate_or missing some_below some_above
page_lookups = (refl, refl)

-- OIDs 10 to 14 and 15 to 19: ranges that touch
abbrev pub touching : List Range
touching = record { oid = 10; pages = 5 } ∷ record { oid = 15; pages = 5 } ∷ []

pub touching_lookups : (locate touching 9 9 ≡ Outside) × (locate touching 9 15 ≡ Located (record { page = 16; pot = 15; entry = 0 })) × (locate touching 9 20 ≡ Outside)
unfolding locate locate_or missing some_below some_above
touching_lookups = (refl, refl, refl)
