-- Which frames the layer above needs (document 02, #104). A page whose flag is set is not; a pot always is.
-- Assumes nothing.
use Rattle.std.specs.Prelude.{ℕ, ◌+◌, ◌-◌, ◌*◌, ◌/◌, ◌%◌, ltb, eqb, Bool, true, cond, not, List, [], ◌∷◌, Option, Some, None}
use Rattle.card.specs.Range.{Range, range_blocks}
use Rattle.card.specs.declared.range.Address.{Address}
use Rattle.pages.specs.Page.{flagged}
use Rattle.recovery.specs.Contents.{Contents}

-- block o of a range whose first block is start: every 103rd is a pot, the others are pages, each with its place
unfoldable pub frame_in : ℕ → ℕ → Option Address
frame_in start o = cond (eqb (o % 103) 0) None (Some (record { page = start + o; pot = start + 103 * (o / 103); entry = o % 103 - 1 }))

-- the frame whose home block is f, in ranges that follow from block start; past them all it is told as a pot, which has none
unfoldable pub frame_at : List Range → ℕ → ℕ → Option Address
frame_at [] start f = None
frame_at (r ∷ rs) start f = cond (ltb f (start + range_blocks r.pages)) (frame_in start (f - start)) (frame_at rs (start + range_blocks r.pages) f)

abbrev pub needed_at : Option Address → Contents → Bool
needed_at None v = true
needed_at (Some p) v = not (flagged v p)

-- recovery's Needs, of a card with these ranges and this area
unfoldable pub needed : List Range → ℕ → Contents → ℕ → Bool
needed rs area v f = needed_at (frame_at rs (1 + area) f) v
