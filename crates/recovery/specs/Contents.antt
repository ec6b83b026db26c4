-- Frames' contents by layers: what a generation changed lies over what was there before.
-- Assumes nothing.
use Rattle.std.specs.Prelude.{ℕ, eqb, cond, List, [], ◌∷◌}
use Rattle.card.specs.Block.{block_at}
use Rattle.card.specs.declared.directory.Entry.{Entry}

-- the contents of all frames, each named by its home block
abbrev pub Contents : Type 0
Contents = ℕ → List ℕ

-- a changed frame with its bytes
pub record FrameBytes : Type 0 where
  pub frame : ℕ
  pub bytes : List ℕ

unfoldable pub overlay : List FrameBytes → Contents → Contents
overlay [] base f = base f
overlay (w ∷ ws) base f = cond (eqb f w.frame) w.bytes (overlay ws base f)

-- what a directory's blocks hold on a card
unfoldable pub stored_frames : List ℕ → List Entry → List FrameBytes
stored_frames c [] = []
stored_frames c (e ∷ es) = record { frame = e.frame; bytes = block_at c e.block } ∷ stored_frames c es
