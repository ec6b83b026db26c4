-- What format leaves on the card, what a start makes of it, and what code answers.
-- Assumes nothing.
use Prim.Native.Nat.{ℕ, ◌+◌, ◌*◌, ◌/◌, ◌%◌, ◌≤◌, ◌<◌}
use borrow.Author.Tests.{eqb-true, eq-eqb, ne_eqb}
use lib.Dec.{eqb}
use lib.ListN.{length}
use mathlib.Core.Bool.{Bool, true, false, cond, ◌&&◌, and-false}
use mathlib.Core.List.{List}
use mathlib.Core.Logic.{◌≢◌}
use mathlib.Core.Option.{none}
use mathlib.Core.Path.{◌≡◌, refl, ◌∙◌}
use native.Mathlib.Omega.{arith}
use Rattle.card.proofs.AddressLaws.{Within, lies, lies_home, pots_among, pot_in}
use Rattle.card.proofs.BlockLaws.{put_length, put_same, put_other}
use Rattle.card.proofs.CheckpointLaws.{whole_tells}
use Rattle.card.proofs.HeaderLaws.{header_length}
use Rattle.card.proofs.PotLaws.{fresh_count, fresh_flags}
use Rattle.card.proofs.QuestionLaws.{none_asked, asked_yes, asked_no, passed_both}
use Rattle.card.proofs.RangeLaws.{Geometry, geometry_tells}
use Rattle.card.proofs.Test.{both, joined}
use Rattle.card.specs.Block.{block_at, put_block, whole}
use Rattle.card.specs.Bytes.{All}
use Rattle.card.specs.Header.{header_block, header_on}
use Rattle.card.specs.Pot.{is_zero, fresh_pot}
use Rattle.card.specs.Question.{first_no, header_ranges}
use Rattle.card.specs.Range.{Range, geometry_fits, locate, all_pots, Located}
use Rattle.card.specs.declared.range.Address.{Address}
use Rattle.frames.specs.Promise.{numbered}
use Rattle.pages.proofs.PotsLaws.{put_pots-length, put_pots_other, put_pots-fresh}
use Rattle.pages.specs.Call.{done}
use Rattle.pages.specs.Page.{empty_page, page_bytes, page_of, put_pots, format_card}
use Rattle.pages.specs.Promise.{answered, ranges_in, format_asks, FormatKept}
use Rattle.recovery.proofs.Follows.{Stored}
use Rattle.recovery.proofs.FrameTheorem.{all_needed, format_stored, stored_accepts, stored_start, reads_present}
use Rattle.recovery.specs.Book.{FrameBook, book_start}
use Rattle.recovery.specs.Contents.{Contents}
use Rattle.recovery.specs.Questions.{start_asks}
use Rattle.recovery.specs.State.{read_frame}
use Rattle.recovery.specs.Step.{start_state}
use Rattle.frames.specs.Promise as frames

-- ---- the formatted card

module _ (blocks area : ℕ) (rs : List Range) (c : List ℕ) (long : length c ≡ 512 * blocks) (fits : geometry_fits blocks area rs ≡ true) where
  tells : Geometry blocks area rs
  tells = geometry_tells blocks area rs fits

  all_pots_lem : All (λ n. n < blocks) (all_pots rs (1 + area))
  all_pots_lem = pots_among (λ n. n < blocks) rs (1 + area) (λ m low high. omega (arith, tells.full))

  potted_long : length (put_pots c (all_pots rs (1 + area))) ≡ 512 * blocks
  potted_long = put_pots-length blocks c (all_pots rs (1 + area)) long all_pots_lem

  head_long : length (header_block 0 0 area rs) ≡ 512
  head_long = header_length 0 0 area rs tells.few

  head_fits : 512 * 0 + 512 ≤ length (put_pots c (all_pots rs (1 + area)))
  head_fits = omega (arith, potted_long, tells.full)

  format_long : length (format_card area rs c) ≡ 512 * blocks
  unfolding format_card
  format_long = put_length _ 0 (header_block 0 0 area rs) head_long head_fits ∙ potted_long

  pub format_head : block_at (format_card area rs c) 0 ≡ header_block 0 0 area rs
  unfolding format_card
  format_head = put_same _ 0 (header_block 0 0 area rs) head_long head_fits

  pub format_pots : (oid : ℕ) (p : Address) → locate rs (1 + area) oid ≡ Located p → block_at (format_card area rs c) p.pot ≡ fresh_pot
  unfolding format_card
  format_pots oid p e =
      put_other _ 0 (header_block 0 0 area rs) head_long head_fits p.pot (omega (arith, (lies rs (1 + area) oid p e).pot_low))
      ∙ put_pots-fresh blocks c (all_pots rs (1 + area)) p.pot long all_pots_lem (pot_in rs (1 + area) oid p e)

  pub format_other : (n : ℕ) → n ≢ 0 → All (λ m. n ≢ m) (all_pots rs (1 + area)) → block_at (format_card area rs c) n ≡ block_at c n
  unfolding format_card
  format_other n no-head other =
      put_other _ 0 (header_block 0 0 area rs) head_long head_fits n no-head ∙ put_pots_other blocks c (all_pots rs (1 + area)) n long all_pots_lem other

-- a page whose pot is fresh is zeros, and its count 0
fresh_page : (v : Contents) (p : Address) → v p.pot ≡ fresh_pot → p.entry < 102 → page_of v p ≡ empty_page
unfolding page_of page_bytes is_zero
fresh_page v p e h = rw (e, fresh_flags p.entry h, fresh_count p.entry h)

-- ---- a format that is done

module _ (area : ℕ) (numbers before : List ℕ) (ok : first_no (format_asks area numbers before) ≡ 0) where
  passed : (whole 11 65536 (length before) ≡ true) × (geometry_fits (length before / 512) area (ranges_in numbers) ≡ true)
  unfolding format_asks
  passed =
      let a = passed_both 2 (whole 11 65536 (length before)) _ ok in
      let b = passed_both 4 (eqb (length numbers % 2) 0 && geometry_fits (length before / 512) area (ranges_in numbers)) _ a.1 in
      (a.0, (both (eqb (length numbers % 2) 0) _ b.0).1)

  long_before : length before ≡ 512 * (length before / 512)
  long_before = (whole_tells 11 65536 (length before) passed.0).0

  card_long : length (format_card area (ranges_in numbers) before) ≡ 512 * (length before / 512)
  card_long = format_long (length before / 512) area (ranges_in numbers) before long_before passed.1

  -- it shows its home blocks
  format_keeps : Stored all_needed (length before / 512) area (ranges_in numbers) (format_card area (ranges_in numbers) before) (block_at (format_card area (ranges_in numbers) before))
  format_keeps =
      let w = whole_tells 11 65536 (length before) passed.0 in
      format_stored (length before / 512) area (ranges_in numbers) (format_card area (ranges_in numbers) before) card_long w.1.0 w.1.1 passed.1
      (format_head (length before / 512) area (ranges_in numbers) before long_before passed.1)

  -- its header tells the geometry that was asked for
  pub format_area : (header_on (block_at (format_card area (ranges_in numbers) before) 0)).area ≡ area
  format_area = format_keeps.2.head.area_is

  pub format_ranges : header_ranges (header_on (block_at (format_card area (ranges_in numbers) before) 0)) ≡ ranges_in numbers
  format_ranges = format_keeps.2.head.ranges_is

  -- start accepts it
  pub format_accepted : (m : List ℕ) → whole 4 64 (length m) ≡ true → first_no (start_asks m (format_card area (ranges_in numbers) before)) ≡ 0
  format_accepted = stored_accepts (length before / 512) area (ranges_in numbers) (format_card area (ranges_in numbers) before) _ format_keeps

  -- every page, as it is read after a start, is zeros, and its count 0
  module _ (oid : ℕ) (p : Address) (at : locate (ranges_in numbers) (1 + area) oid ≡ Located p) where
    pot_fresh : block_at (format_card area (ranges_in numbers) before) p.pot ≡ fresh_pot
    pot_fresh = format_pots (length before / 512) area (ranges_in numbers) before long_before passed.1 oid p at

    within : Within (1 + area) (length before / 512) p
    within = lies_home (length before / 512) area (ranges_in numbers) oid p passed.1 at

    pub format_shows : (m : List ℕ)
        → page_of (read_frame (start_state m (format_card area (ranges_in numbers) before)) (format_card area (ranges_in numbers) before)) p ≡ empty_page
    format_shows m =
        let card : List ℕ = format_card area (ranges_in numbers) before in
        let b : FrameBook = record { present = block_at card; marked = none; kept = block_at card } in
        let follows = stored_start (length before / 512) area (ranges_in numbers) card b format_keeps m in
        let reads = reads_present (length before / 512) area (ranges_in numbers) (start_state m card) card (book_start b) follows p.pot (omega (arith, within.pot_low)) within.pot_high refl in
        fresh_page (read_frame (start_state m card) card) p (reads ∙ pot_fresh) within.entry_high

number_done : (n : ℕ) → done ≡ answered (numbered n) → n ≡ 0
unfolding answered numbered
number_done n = go (eqb n 0) refl
  where
    go : (t : Bool) → eqb n 0 ≡ t → done ≡ answered (cond t frames.done (frames.refused n)) → n ≡ 0
    go true e h = eqb-true n 0 e
    go false e h = let z : ◌≡◌ {A = ℕ} 0 1 = cc in absurd (omega arith)

-- what its promise tells of a format that reports done
pub format_done : (area : ℕ) (numbers before card : List ℕ) → FormatKept area numbers before done card
    → (first_no (format_asks area numbers before) ≡ 0) × (card ≡ format_card area (ranges_in numbers) before)
format_done area numbers before card k =
    let e = number_done (first_no (format_asks area numbers before)) k.answer_is in
    (e, k.card_is ∙ rw e)

-- ---- what code answers

module _ (area : ℕ) (numbers before : List ℕ) where
  answers : (n : ℕ) (card : List ℕ) → first_no (format_asks area numbers before) ≡ n → card ≡ cond (eqb n 0) (format_card area (ranges_in numbers) before) before
      → FormatKept area numbers before (answered (numbered n)) card
  answers n card e is = record { answer_is = rw e; card_is = rw e is }

  pub refuses_3 : whole 11 65536 (length before) ≡ false → FormatKept area numbers before (answered (numbered 3)) before
  unfolding format_asks
  refuses_3 w = answers 3 before (asked_no 3 _ _ w) refl

  module _ (w : whole 11 65536 (length before) ≡ true) where
    refuses_5 : eqb (length numbers % 2) 0 && geometry_fits (length before / 512) area (ranges_in numbers) ≡ false → FormatKept area numbers before (answered (numbered 5)) before
    unfolding format_asks
    refuses_5 g = answers 5 before (asked_yes 3 _ _ w ∙ asked_no 5 _ _ g) refl

    pub refuses_odd : length numbers % 2 ≢ 0 → FormatKept area numbers before (answered (numbered 5)) before
    refuses_odd odd = refuses_5 (rw (ne_eqb (length numbers % 2) 0 odd))

    pub refuses_unfit : geometry_fits (length before / 512) area (ranges_in numbers) ≡ false → FormatKept area numbers before (answered (numbered 5)) before
    refuses_unfit g = refuses_5 (rw g (and-false (eqb (length numbers % 2) 0)))

    -- the pots, then the header
    pub formats : length numbers % 2 ≡ 0 → geometry_fits (length before / 512) area (ranges_in numbers) ≡ true → (potted head card : List ℕ)
        → potted ≡ put_pots before (all_pots (ranges_in numbers) (1 + area)) → head ≡ header_block 0 0 area (ranges_in numbers) → card ≡ put_block potted 0 head
        → FormatKept area numbers before (answered (numbered 0)) card
    unfolding format_asks format_card
    formats even fits potted head card p h e =
        answers 0 card
        (asked_yes 3 _ _ w ∙ asked_yes 5 _ _ (joined (eqb (length numbers % 2) 0) _ (eq-eqb (length numbers % 2) 0 even) fits) ∙ none_asked)
        (rw (e, p, h))
