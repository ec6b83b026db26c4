-- A call on a page that passes what is asked of the page: its changes can be made. And it touches each frame once.
-- Assumes nothing.
use Prim.Native.Nat.{ℕ, suc, ◌+◌, ◌≤◌, ◌<◌}
use borrow.Author.Tests.{ltb-true, leb-true, eqb-true}
use lib.Dec.{eqb}
use lib.ListN.{length}
use mathlib.Core.Bool.{Bool, true, false, cond}
use mathlib.Core.List.{List, [], ◌∷◌}
use mathlib.Core.Logic.{◌≢◌}
use mathlib.Core.Path.{◌≡◌}
use native.Mathlib.Omega.{arith}
use Rattle.card.proofs.QuestionLaws.{passed_both}
use Rattle.card.specs.Question.{first_no}
use Rattle.card.specs.Range.{Range, all_blocks, Located}
use Rattle.card.specs.declared.range.Address.{Address}
use Rattle.pages.proofs.EditLaws.{touches_one, place_on, in_p, CanAll}
use Rattle.pages.specs.Call.{PageCall, key, read, write, rescind, page_asks, edits}
use Rattle.pages.specs.Change.{Change, put, empty, edit}
use Rattle.pages.specs.Page.{Page}
use Rattle.pages.specs.Plain.{Row, touched, touches, edit_touches}
use Rattle.recovery.proofs.SumLaws.{Distinct}

-- ---- what the questions tell

write_short : (x : Page) (n at : ℕ) (new : List ℕ) → first_no (page_asks (write n at new) x) ≡ 0 → at + length new ≤ 512
unfolding page_asks
write_short x n at new e = let count = passed_both 9 _ _ e in leb-true _ _ (passed_both 10 _ _ count.1).0

rescind_rises : (x : Page) (n : ℕ) → first_no (page_asks (rescind n) x) ≡ 0 → suc x.count < 4294967296
unfolding page_asks
rescind_rises x n e =
    let count = passed_both 9 _ _ e in
    omega (arith, eqb-true x.count n count.0, ltb-true n 4294967295 (passed_both 14 _ _ count.1).0)

-- one change touches each frame once
touches-apart : (c : Change) (r : Row) (p : Address) → p.pot ≢ p.page → Distinct (touches c r p)
unfolding touches
touches-apart (put at new) r p d = go r.zero
  where
    go : (z : Bool) → Distinct (touched p.page ∷ cond z (touched p.pot ∷ []) [])
    go true = ((d, tt), (tt, tt))
    go false = (tt, tt)
touches-apart empty r p d = (tt, tt)

-- ---- the changes of a call

module _ (rs : List Range) (blocks area : ℕ) (full : blocks ≡ 1 + area + all_blocks rs) (o : ℕ) (p : Address) (at_p : place_on rs area o ≡ Located p) (rows : ℕ → Row) where
  pub passed_can : (c : PageCall) → first_no (page_asks c (rows o).page) ≡ 0 → CanAll rs blocks area full (edits o c) rows
  unfolding edits
  passed_can key e = tt
  passed_can (read n b) e = tt
  passed_can (write n at new) e = go (eqb (length new) 0)
    where
      go : (t : Bool) → CanAll rs blocks area full (cond t [] (edit o (put at new) ∷ [])) rows
      go true = tt
      go false = ((p, at_p), write_short (rows o).page n at new e, tt)
  passed_can (rescind n) e = ((p, at_p), rescind_rises (rows o).page n e, tt)

  one_apart : (c : Change) → Distinct (edit_touches (place_on rs area) (edit o c ∷ []) rows)
  one_apart c = rw (touches_one (place_on rs area) o p at_p c rows) (touches-apart c (rows o) p (omega (arith, in_p rs blocks area full o p at_p)))

  pub edits-apart : (c : PageCall) → Distinct (edit_touches (place_on rs area) (edits o c) rows)
  unfolding edits
  edits-apart key = unfold edit_touches in tt
  edits-apart (read n b) = unfold edit_touches in tt
  edits-apart (write n at new) = go (eqb (length new) 0)
    where
      go : (t : Bool) → Distinct (edit_touches (place_on rs area) (cond t [] (edit o (put at new) ∷ [])) rows)
      go true = unfold edit_touches in tt
      go false = one_apart (put at new)
  edits-apart (rescind n) = one_apart empty
