-- The homes of empty pages, those whose flag is set, may hold any bytes (document 02, #104): start accepts the card
-- and shows the same pages and counts, empty pages among them, with zeros.
-- Assumes nothing.
use Prim.Native.Nat.{ℕ, ◌+◌, ◌/◌, ◌<◌}
use lib.ListN.{length}
use mathlib.Core.Bool.{true, false, not, false≢true}
use mathlib.Core.List.{List}
use mathlib.Core.Option.{none}
use mathlib.Core.Path.{◌≡◌, ap, sym, ◌∙◌}
use native.Mathlib.Omega.{arith}
use Rattle.card.proofs.AddressLaws.{Within}
use Rattle.card.specs.Block.{block_at}
use Rattle.card.specs.Bytes.{zeros}
use Rattle.card.specs.Header.{header_on}
use Rattle.card.specs.Question.{first_no, header_ranges}
use Rattle.card.specs.Range.{Range, all_blocks, locate, Located}
use Rattle.card.specs.declared.range.Address.{Address}
use Rattle.pages.proofs.EditLaws.{in_p, page_alike}
use Rattle.pages.proofs.NeededLaws.{oid_needed}
use Rattle.pages.proofs.Represents.{accepted_full}
use Rattle.pages.specs.Needed.{needed}
use Rattle.pages.specs.Page.{Page, flagged, page_bytes, page_of}
use Rattle.recovery.proofs.Accept.{told}
use Rattle.recovery.proofs.Follows.{Stored, Follows}
use Rattle.recovery.proofs.FrameTheorem.{accepted_stored, stored_any, stored_accepts, stored_start, reads_present}
use Rattle.recovery.specs.Book.{FrameBook, book_start}
use Rattle.recovery.specs.Contents.{Contents}
use Rattle.recovery.specs.Questions.{start_asks}
use Rattle.recovery.specs.State.{read_frame}
use Rattle.recovery.specs.Step.{start_state}

-- what a start on the card shows of each frame
abbrev pub shown : List ℕ → List ℕ → Contents
shown m card = read_frame (start_state m card) card

module _ (m card : List ℕ) (accepted : first_no (start_asks m card) ≡ 0) where
  -- ---- the card's geometry

  abbrev blocks : ℕ
  blocks = length card / 512

  abbrev area : ℕ
  area = (header_on (block_at card 0)).area

  abbrev rs : List Range
  rs = header_ranges (header_on (block_at card 0))

  abbrev full : blocks ≡ 1 + area + all_blocks rs
  full = accepted_full m card accepted

  -- the home of an empty page
  abbrev pub EmptyAt : ℕ → Type 0
  EmptyAt n = (o : ℕ) × (p : Address) × (locate rs (1 + area) o ≡ Located p) × (flagged (shown m card) p ≡ true) × (n ≡ p.page)

  -- another card, which may have any bytes there, in as many of them as it likes
  module _ (other : List ℕ) (long : length other ≡ length card) (same : (n : ℕ) → (EmptyAt n → ⊥) → block_at other n ≡ block_at card n) where
    not_empty : (n : ℕ) → (area < n → needed rs area (shown m card) n ≡ true) → EmptyAt n → ⊥
    not_empty n need (o, p, at_p, empty, n-is) =
        let inside : Within (1 + area) blocks p = in_p rs blocks area full o p at_p in
        let none : needed rs area (shown m card) n ≡ false = ap (needed rs area (shown m card)) n-is ∙ (oid_needed rs area blocks full (shown m card) o p at_p).0 ∙ ap not empty in
        false≢true (sym none ∙ need (omega (arith, inside, n-is)))

    other_stored : Stored (needed rs area) blocks area rs other (shown m card)
    other_stored = stored_any blocks area rs card (shown m card) (accepted_stored m card accepted) other long (λ n need. same n (not_empty n need))

    -- what is needed is shown as it was
    frame_same : (f : ℕ) → area < f → f < blocks → needed rs area (shown m card) f ≡ true → shown m other f ≡ shown m card f
    frame_same f low high t =
        let book : FrameBook = record { present = shown m card; marked = none; kept = shown m card } in
        let follows : Follows (needed rs area) blocks area rs (start_state m other) other (book_start book) = stored_start blocks area rs other book other_stored m in
        reads_present blocks area rs (start_state m other) other (book_start book) follows f low high t

    same_pages : (u : ℕ) (q : Address) → locate rs (1 + area) u ≡ Located q → page_of (shown m other) q ≡ page_of (shown m card) q
    same_pages u q at-q = page_alike rs blocks area full (shown m other) (shown m card) frame_same u q at-q

    -- THE LAW: whatever bytes stand at the homes of empty pages, start accepts and shows the same pages and counts
    pub any_home : (first_no (start_asks m other) ≡ 0) × ((u : ℕ) (q : Address) → locate rs (1 + area) u ≡ Located q → page_of (shown m other) q ≡ page_of (shown m card) q)
    any_home = (stored_accepts blocks area rs other (shown m card) other_stored m (told m card accepted).memory, same_pages)

    -- so it shows zeros there
    pub zeros-shown : (u : ℕ) (q : Address) → locate rs (1 + area) u ≡ Located q → flagged (shown m card) q ≡ true → (page_of (shown m other) q).bytes ≡ zeros
    zeros-shown u q at-q empty = ap (λ (y : Page). y.bytes) (same_pages u q at-q) ∙ (unfold page_of page_bytes in (rw empty))
