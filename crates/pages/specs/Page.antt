-- A page as its two frames tell of it, and what format leaves (document 01, 'The card' and 'The calls').
-- Assumes nothing.
use Rattle.std.specs.Prelude.{ℕ, ◌+◌, Bool, cond, List, [], ◌∷◌}
use Rattle.card.specs.Block.{put_block}
use Rattle.card.specs.Bytes.{zeros}
use Rattle.card.specs.Header.{header_block}
use Rattle.card.specs.Pot.{count_at, flags_at, is_zero, fresh_pot}
use Rattle.card.specs.Range.{Range, all_pots}
use Rattle.card.specs.declared.range.Address.{Address}
use Rattle.recovery.specs.Contents.{Contents}

-- what key and read show of a page
pub record Page : Type 0 where
  pub bytes : List ℕ
  pub count : ℕ

-- a page of zeros with count 0, as format leaves it
abbrev pub empty_page : Page
empty_page = record { bytes = zeros; count = 0 }

-- does the pot say that the page is all zeros?
abbrev pub flagged : Contents → Address → Bool
flagged v p = is_zero (flags_at (v p.pot) p.entry)

-- zeros if the flag is set, whatever the page's own frame holds
unfoldable pub page_bytes : Contents → Address → List ℕ
page_bytes v p = cond (flagged v p) zeros (v p.page)

unfoldable pub page_of : Contents → Address → Page
page_of v p = record { bytes = page_bytes v p; count = count_at (v p.pot) p.entry }

-- format: each pot, then the header, and no other block
unfoldable pub put_pots : List ℕ → List ℕ → List ℕ
put_pots c [] = c
put_pots c (n ∷ ns) = put_pots (put_block c n fresh_pot) ns

unfoldable pub format_card : ℕ → List Range → List ℕ → List ℕ
format_card area rs c = put_block (put_pots c (all_pots rs (1 + area))) 0 (header_block 0 0 area rs)
