-- A change of a page: what it makes of the page, of a table of pages, and of the page's two frames (document 01, 'The
-- calls' and 'The book'). A call's effect is a list of them, for the promise, the book and the plain machine alike.
-- Assumes nothing.
use Rattle.card.specs.Range.{Lookup, Located, Gap, Outside}
use Rattle.std.specs.Prelude.{ℕ, suc, eqb, cond, List, [], ◌∷◌, ◌++◌}
use Rattle.card.specs.Bytes.{patch, zeros}
use Rattle.card.specs.Pot.{count_at, flags_at, put_count, put_flags, set_zero, clear_zero}
use Rattle.card.specs.declared.range.Address.{Address}
use Rattle.pages.specs.Page.{Page, flagged, page_bytes}
use Rattle.recovery.specs.Book.{apply_changes}
use Rattle.recovery.specs.Contents.{Contents, FrameBytes}

-- bytes put at an offset, as a write does; a page emptied, as a rescind does
pub data Change : Type 0 where
  put : (at : ℕ) (new : List ℕ) → Change
  empty : Change

-- a change of the page of an OID
pub record Edit : Type 0 where
  pub oid : ℕ
  pub change : Change

abbrev pub edit : ℕ → Change → Edit
edit o c = record { oid = o; change = c }

-- ---- in a table

-- a page for each OID; those of the ranges matter
abbrev pub Table : Type 0
Table = ℕ → Page

-- a table with another row
unfoldable pub update : {A : Type 0} → ℕ → A → (ℕ → A) → ℕ → A
update oid x t o = cond (eqb o oid) x (t o)

-- a page after a write: its bytes put at the offset; after a rescind: bytes of zeros, 1 added to the count
unfoldable pub changed : Change → Page → Page
changed (put at new) x = record { bytes = patch x.bytes at new; count = x.count }
changed empty x = record { bytes = zeros; count = suc x.count }

unfoldable pub applied : List Edit → Table → Table
applied [] t = t
applied (e ∷ es) t = applied es (update e.oid (changed e.change (t e.oid)) t)

-- ---- in frames

-- a write: the page first, on zeros if the flag was set, then, if it was, the pot with the flag cleared
unfoldable pub write_frames : Contents → Address → ℕ → List ℕ → List FrameBytes
write_frames v p at new =
    record { frame = p.page; bytes = patch (page_bytes v p) at new }
    ∷ cond (flagged v p) (record { frame = p.pot; bytes = put_flags (v p.pot) p.entry (clear_zero (flags_at (v p.pot) p.entry)) } ∷ []) []

-- a rescind: the pot alone, with 1 added to the count and the flag set
unfoldable pub rescind_pot : List ℕ → ℕ → List ℕ
rescind_pot pot i = put_flags (put_count pot i (suc (count_at pot i))) i (set_zero (flags_at pot i))

unfoldable pub changed_frames : Change → Contents → Address → List FrameBytes
changed_frames (put at new) v p = write_frames v p at new
changed_frames empty v p = record { frame = p.pot; bytes = rescind_pot (v p.pot) p.entry } ∷ []

-- what is made of an OID's place
unfoldable pub at_place : {A : Type 0} → A → Lookup → (Address → A) → A
at_place other Gap f = other
at_place other Outside f = other
at_place other (Located p) f = f p

-- of a list, each change on what the one before left
unfoldable pub edit_frames : (ℕ → Lookup) → List Edit → Contents → List FrameBytes
edit_frames place [] v = []
edit_frames place (e ∷ es) v = let ws = at_place [] (place e.oid) (changed_frames e.change v) in ws ++ edit_frames place es (apply_changes ws v)
