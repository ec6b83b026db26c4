-- The book of frames (document 01, 'The book', for the frame layer's own calls).
-- Assumes nothing.
use Rattle.std.specs.Prelude.{◌≢◌, ℕ, ◌<◌, length, Bool, cond, true, List, [], ◌∷◌, ◌≡◌}
use Rattle.std.proofs.Math.Option.{Option, none, some, get_or}
use Rattle.card.specs.Bytes.{All}
use Rattle.recovery.specs.Contents.{Contents, FrameBytes, overlay}
use Rattle.recovery.specs.Step.{Kind, page, directory, trailer, migration, header, flush}

-- what was asked of frames: present now, as of the last snapshot (if its header is not yet written), as of the last header
pub record FrameBook : Type 0 where
  pub present : Contents
  pub marked : Option Contents
  pub kept : Contents

abbrev pub marked_or : FrameBook → Contents
marked_or b = get_or b.marked b.kept

-- the changed frames in one table
unfoldable pub apply_changes : List FrameBytes → Contents → Contents
apply_changes [] v = v
apply_changes (w ∷ ws) v = apply_changes ws (overlay (w ∷ []) v)

abbrev pub book_change : List FrameBytes → FrameBook → FrameBook
book_change ws b = record { present = apply_changes ws b.present; marked = b.marked; kept = b.kept }

abbrev pub book_snapshot : FrameBook → FrameBook
book_snapshot b = record { present = b.present; marked = some b.present; kept = b.kept }

abbrev pub book_start : FrameBook → FrameBook
book_start b = record { present = b.kept; marked = none; kept = b.kept }

-- a header write reached the card
abbrev pub book_header : FrameBook → FrameBook
book_header b = record { present = b.present; marked = none; kept = marked_or b }

abbrev pub book_wrote : Kind → FrameBook → FrameBook
book_wrote page b = b
book_wrote directory b = b
book_wrote trailer b = b
book_wrote migration b = b
book_wrote header b = book_header b
book_wrote flush b = b

-- ---- a header write that is not flushed may be found old

-- what was kept before it, if there is one
abbrev pub kept_before : Kind → FrameBook → Option Contents → Option Contents
kept_before page b o = o
kept_before directory b o = o
kept_before trailer b o = o
kept_before migration b o = o
kept_before header b o = some b.kept
kept_before flush b o = none

-- a cut: the header write that is not flushed was found, or what was kept before it is kept again; without one, the
-- header write being made, if any, has reached the card or not
abbrev pub book_cut : Option Contents → Bool → FrameBook → FrameBook
book_cut none reached b = cond reached (book_header b) b
book_cut (some k) reached b = record { present = b.present; marked = b.marked; kept = cond reached b.kept k }

-- ---- frames that a change may hand down: home frames, with a whole block of bytes

abbrev pub WholeFrame : ℕ → ℕ → FrameBytes → Type 0
WholeFrame area blocks w = (length w.bytes ≡ 512) × (area < w.frame) × (w.frame < blocks)

-- ---- frames that need not go home

-- The layer above says which frames of a table are needed: of every other one it never looks at the bytes, so that
-- they may be lost.
abbrev pub Needs : Type 0
Needs = Contents → ℕ → Bool

-- a change hands down every frame that it makes needed
abbrev pub Brings : Needs → ℕ → ℕ → List FrameBytes → Contents → Type 0
Brings needed area blocks ws v = (f : ℕ) → area < f → f < blocks → All (λ w. f ≢ w.frame) ws → needed (apply_changes ws v) f ≡ true → needed v f ≡ true
