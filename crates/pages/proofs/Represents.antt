-- The book of frames and the book of pages tell the same, and each call keeps that.
-- Assumes nothing.
use Prim.Native.Nat.{ℕ, ◌+◌, ◌/◌}
use lib.ListN.{length}
use mathlib.Core.Bool.{Bool, true, false}
use mathlib.Core.List.{List}
use mathlib.Core.Option.{Option, none, some, get_or}
use mathlib.Core.Path.{◌≡◌, ap, ◌∙◌}
use Rattle.card.proofs.RangeLaws.{geometry_tells}
use Rattle.card.specs.Block.{block_at}
use Rattle.card.specs.Header.{header_on}
use Rattle.card.specs.Question.{first_no, header_ranges}
use Rattle.card.specs.Range.{Range, all_blocks}
use Rattle.pages.proofs.EditLaws as edit
use Rattle.pages.proofs.EditLaws.{pages_after, place_on, AsTable, SameRows, changes_long, CanAll, Made, edits_made}
use Rattle.pages.specs.Book.{Book, present_to, header_reached, flushed_book, cut_book}
use Rattle.pages.specs.Change.{Table, Edit, applied, at_place, edit_frames}
use Rattle.pages.specs.Page.{flagged, page_of}
use Rattle.pages.specs.Plain.{Row, row_of}
use Rattle.recovery.proofs.FrameTheorem.{all_needed, accepted_stored, stored_geometry}
use Rattle.recovery.specs.Book.{FrameBook, marked_or, apply_changes, book_change, book_snapshot, book_start, book_header, book_cut}
use Rattle.recovery.specs.Contents.{Contents, FrameBytes}
use Rattle.recovery.specs.Questions.{start_asks}

-- ---- the two books

-- on a card that start accepts, header, area and ranges take all blocks
pub accepted_full : (m card : List ℕ) → first_no (start_asks m card) ≡ 0 → length card / 512 ≡ 1 + (header_on (block_at card 0)).area + all_blocks (header_ranges (header_on (block_at card 0)))
accepted_full m card accepted = (geometry_tells _ _ _ (stored_geometry {needed = all_needed} _ _ _ card _ (accepted_stored m card accepted))).full

module _ (rs : List Range) (blocks area : ℕ) (full : blocks ≡ 1 + area + all_blocks rs) where
  abbrev pub SamePages : Contents → Table → Type 0
  SamePages v t = AsTable rs blocks area full page_of v t

  abbrev Long : Contents → Type 0
  Long v = edit.Long rs blocks area full v

  -- marked is empty in both books or in neither
  abbrev pub Both : Option Contents → Option Table → Type 0
  Both none none = Unit {0}
  Both none (some t) = ⊥
  Both (some v) none = ⊥
  Both (some v) (some t) = Unit {0}

  -- what was kept before a header write that is not flushed
  abbrev pub SameBefore : Option Contents → Option Table → Type 0
  SameBefore none none = Unit {0}
  SameBefore none (some t) = ⊥
  SameBefore (some v) none = ⊥
  SameBefore (some v) (some t) = Long v × SamePages v t

  pub record Represents (b : FrameBook) (pb : Book) : Type 0 where
    pub long_present : Long b.present
    pub long_marked : Long (marked_or b)
    pub long_kept : Long b.kept
    pub present_is : SamePages b.present pb.present
    pub marked_is : SamePages (marked_or b) (get_or pb.marked pb.kept)
    pub kept_is : SamePages b.kept pb.kept
    pub both_marked : Both b.marked pb.marked

  pub represents_start : (b : FrameBook) (pb : Book) → Represents b pb → Represents (book_start b) (record { present = pb.kept; marked = none; kept = pb.kept; before = pb.before })
  represents_start b pb h = record { long_present = h.long_kept; long_marked = h.long_kept; long_kept = h.long_kept; present_is = h.kept_is; marked_is = h.kept_is; kept_is = h.kept_is; both_marked = tt }

  pub represents_snapshot : (b : FrameBook) (pb : Book) → Represents b pb → Represents (book_snapshot b) (record { present = pb.present; marked = some pb.present; kept = pb.kept; before = pb.before })
  represents_snapshot b pb h = record { long_present = h.long_present; long_marked = h.long_present; long_kept = h.long_kept; present_is = h.present_is; marked_is = h.present_is; kept_is = h.kept_is; both_marked = tt }

  pub represents_header : (b : FrameBook) (pb : Book) → Represents b pb → Represents (book_header b) (header_reached pb)
  represents_header b pb h = record { long_present = h.long_present; long_marked = h.long_marked; long_kept = h.long_marked; present_is = h.present_is; marked_is = h.marked_is; kept_is = h.marked_is; both_marked = tt }

  pub represents_flushed : (b : FrameBook) (pb : Book) → Represents b pb → Represents b (flushed_book pb)
  represents_flushed b pb h = record {
    long_present = h.long_present;
    long_marked = h.long_marked;
    long_kept = h.long_kept;
    present_is = h.present_is;
    marked_is = h.marked_is;
    kept_is = h.kept_is;
    both_marked = h.both_marked;
  }

  -- with something else kept
  represents_kept : (b : FrameBook) (pb : Book) (v : Contents) (t : Table) → Represents b pb → Long v → SamePages v t
      → Represents (record { present = b.present; marked = b.marked; kept = v }) (record { present = pb.present; marked = pb.marked; kept = t; before = none })
  represents_kept b pb v t h l s =
      let m = go b.marked pb.marked h.both_marked h.long_marked h.marked_is in
      record { long_present = h.long_present; long_marked = m.0; long_kept = l; present_is = h.present_is; marked_is = m.1; kept_is = s; both_marked = h.both_marked }
    where
      go : (x : Option Contents) (y : Option Table) → Both x y → Long (get_or x b.kept) → SamePages (get_or x b.kept) (get_or y pb.kept)
          → Long (get_or x v) × SamePages (get_or x v) (get_or y t)
      go none none e a c = (l, s)
      go none (some y) e a c = absurd e
      go (some x) none e a c = absurd e
      go (some x) (some y) e a c = (a, c)

  -- a cut
  pub represents_cut : (b : FrameBook) (pb : Book) (o : Option Contents) (ot : Option Table) → SameBefore o ot → (reached : Bool) → Represents b pb → Represents (book_cut o reached b) (cut_book ot reached pb)
  represents_cut b pb none none e true h = represents_flushed (book_header b) (header_reached pb) (represents_header b pb h)
  represents_cut b pb none none e false h = h
  represents_cut b pb none (some t) e reached h = absurd e
  represents_cut b pb (some v) none e reached h = absurd e
  represents_cut b pb (some v) (some t) e true h = represents_kept b pb b.kept pb.kept h h.long_kept h.kept_is
  represents_cut b pb (some v) (some t) e false h = represents_kept b pb v t h e.0 e.1

  -- what is present changes, the rest stays
  represents_present : (b : FrameBook) (pb : Book) (v : Contents) (t : Table) → Represents b pb → Long v → SamePages v t → Represents (record { present = v; marked = b.marked; kept = b.kept }) (present_to t pb)
  represents_present b pb v t h l s = record { long_present = l; long_marked = h.long_marked; long_kept = h.long_kept; present_is = s; marked_is = h.marked_is; kept_is = h.kept_is; both_marked = h.both_marked }

  -- ---- a list of changes

  -- rows of a table, with the flags that the frames have
  abbrev pub rows_from : Contents → Table → ℕ → Row
  rows_from v t o = record { page = t o; zero = at_place false (place_on rs area o) (flagged v) }

  module _ (b : FrameBook) (pb : Book) (h : Represents b pb) (es : List Edit) (can : CanAll rs blocks area full es (rows_from b.present pb.present)) where
    abbrev frames : List FrameBytes
    frames = edit_frames (place_on rs area) es b.present

    rows_same : SameRows rs blocks area full b.present (rows_from b.present pb.present)
    unfolding row_of at_place
    rows_same o p at_p = rw at_p (λ i. record { page = h.present_is o p at_p i; zero = flagged b.present p })

    -- the frames behind it
    pub book_made : Made rs blocks area full es b.present (rows_from b.present pb.present)
    book_made = edits_made rs blocks area full es b.present _ rows_same h.long_present can

    pub edits_represents : Represents (book_change (edit_frames (place_on rs area) es b.present) b) (present_to (applied es pb.present) pb)
    unfolding row_of
    edits_represents = represents_present b pb (apply_changes frames b.present) (applied es pb.present) h
        (changes_long rs blocks area full frames b.present book_made.whole h.long_present)
        (λ o p at_p. ap (λ (r : Row). r.page) (book_made.rows_are o p at_p) ∙ pages_after es (rows_from b.present pb.present) o)
