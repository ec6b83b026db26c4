-- What a call on a page tells the book; a refused call tells it nothing.
-- Assumes nothing.
use Prim.Native.Nat.{ℕ, suc}
use borrow.Author.Tests.{eqb-true, eq-eqb, ne_eqb}
use lib.Dec.{eqb}
use lib.ListN.{length}
use mathlib.Core.Bool.{Bool, true, false, cond}
use mathlib.Core.List.{List, [], ◌∷◌}
use mathlib.Core.Logic.{◌≢◌}
use mathlib.Core.Path.{◌≡◌, refl, ap, sym}
use Rattle.card.proofs.BytesLaws.{patch_none, none_long}
use Rattle.card.proofs.Test.{by_test}
use Rattle.card.specs.Bytes.{patch, zeros}
use Rattle.pages.specs.Book.{Book, called, present_to, is_done, is_header, is_flush, told}
use Rattle.pages.specs.Call.{PageCall, key, read, write, rescind, Call, start, on, snapshot, page_out, advance, forecast, Answer, done, edits, page_answer, page_refusal}
use Rattle.pages.specs.Change.{Change, put, empty, Edit, edit, update, changed, applied}
use Rattle.pages.specs.Page.{Page}
use Rattle.pages.specs.Promise.{refusal}

-- a call on a page that is done says so, and reports no flush
pub answered_page : (c : PageCall) (x : Page) → (is_done (page_answer c x) ≡ true) × (is_flush (page_answer c x) ≡ false)
unfolding page_answer is_done is_flush
answered_page key x = (refl, refl)
answered_page (read n b) x = (refl, refl)
answered_page (write n at new) x = (refl, refl)
answered_page (rescind n) x = (refl, refl)

-- one that is refused says so, and reports none
pub refused_page : (c : PageCall) (n : ℕ) → (n ≢ 0 → is_done (page_refusal c n) ≡ false) × (is_flush (page_refusal c n) ≡ false)
unfolding page_refusal is_done is_flush
refused_page key n = (λ z. refl, refl)
refused_page (read k b) n = (λ z. ne_eqb n 0 z, refl)
refused_page (write k at new) n = (λ z. refl, refl)
refused_page (rescind k) n = (λ z. refl, refl)

pub told_refused : (c : Call) (n : ℕ) (b : Book) → n ≢ 0 → told (called c (refusal c n)) b ≡ b
unfolding told refusal is_done is_header is_flush
told_refused (start m) n b z = refl
told_refused (on o c) n b z = ap (λ (t : Bool). cond t (present_to (applied (edits o c) b.present) b) b) ((refused_page c n).0 z)
told_refused snapshot n b z = refl
told_refused page_out n b z = refl
told_refused advance n b z = refl
told_refused forecast n b z = refl

-- ---- the book's step for each call on a page, in document 01's words: which changes a call makes, and what a change
-- makes of a page, the promise and the machine share with the book, so here they are held to the words

-- the page of an OID becomes x; all other pages, and what is marked and kept, stay
pub record Becomes (o : ℕ) (x : Page) (b b' : Book) : Type 0 where
  pub own : b'.present o ≡ x
  pub others : (u : ℕ) → u ≢ o → b'.present u ≡ b.present u
  pub marked_stays : b'.marked ≡ b.marked
  pub kept_stays : b'.kept ≡ b.kept
  pub before_stays : b'.before ≡ b.before

module _ (o n : ℕ) (b : Book) where
  abbrev was : Page
  was = b.present o

  one_change : (c : Change) (x : Page) → changed c was ≡ x → Becomes o x b (present_to (applied (edit o c ∷ []) b.present) b)
  unfolding applied update
  one_change c x e = record {
    own = rw (eq-eqb o o refl) e;
    others = λ u d. rw (ne_eqb u o d) refl;
    marked_stays = refl;
    kept_stays = refl;
    before_stays = refl;
  }

  -- a write done puts its bytes into present at the offset
  pub told_write : (at : ℕ) (new : List ℕ) → Becomes o (record { bytes = patch was.bytes at new; count = was.count }) b (told (called (on o (write n at new)) done) b)
  unfolding told is_done edits
  told_write at new = by_test (λ (es : List Edit). Becomes o (record { bytes = patch was.bytes at new; count = was.count }) b (present_to (applied es b.present) b)) (eqb (length new) 0)
      (λ e. unfold applied in (record { own = nothing (eqb-true _ _ e); others = λ u d. refl; marked_stays = refl; kept_stays = refl; before_stays = refl }))
      (λ e. one_change (put at new) _ (unfold changed in refl))
    where
      nothing : length new ≡ 0 → was ≡ record { bytes = patch was.bytes at new; count = was.count }
      nothing e = rw (none_long new e) (λ i. record { bytes = sym (patch_none was.bytes at) i; count = was.count })

  -- a rescind done adds 1 to present's count and makes the bytes zeros
  pub told_rescind : Becomes o (record { bytes = zeros; count = suc was.count }) b (told (called (on o (rescind n)) done) b)
  unfolding told is_done edits
  told_rescind = one_change empty _ (unfold changed in refl)

  -- key and read change nothing, whatever they answer
  pub told_key : (a : Answer) → told (called (on o key) a) b ≡ b
  unfolding told edits applied
  told_key a = by_test (λ (x : Book). x ≡ b) (is_done a) (λ e. refl) (λ e. refl)

  pub told_read : (x : List ℕ) (a : Answer) → told (called (on o (read n x)) a) b ≡ b
  unfolding told edits applied
  told_read x a = by_test (λ (y : Book). y ≡ b) (is_done a) (λ e. refl) (λ e. refl)
