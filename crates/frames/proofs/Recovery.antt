-- The claims over lists of calls and cuts: what every world of a list keeps, and what that tells of starts, loads and held records.
-- Assumes nothing.
use Prim.Native.Nat.{ℕ, ◌/◌, ◌<◌}
use lib.ListN.{length}
use mathlib.Core.Bool.{true}
use mathlib.Core.List.{List}
use mathlib.Core.Logic.{◌⊎◌, inl, inr, ⊎_elim}
use mathlib.Core.Option.{Option, none, some}
use mathlib.Core.Path.{◌≡◌, refl, ◌∙◌, subst}
use Rattle.card.specs.Block.{block_at, whole}
use Rattle.card.specs.Header.{header_on}
use Rattle.card.specs.Question.{first_no, header_ranges}
use Rattle.card.specs.Range.{Range}
use Rattle.frames.proofs.DriveWorld.{Stands, vacant, serving, stands_preserved, stands_persists, LentOn, called_on, cut_on}
use Rattle.frames.proofs.WorldLaws.{done_keeps, done_follows, done-common}
use Rattle.frames.specs.Promise.{Lent, meaning_of, common, FrameCall, start, change, snapshot, page_out, advance, FrameAnswer, done, asks, done_answer, done_write, FrameKept, Loads, LoadsCommitted}
use Rattle.frames.proofs.Run.{told, FrameWorld, start_lent, lent_to, FrameStep, called, cut_within, cut_between, FrameRun, stays, goes, first_world, Serves, FramesRecover, FramesPresent, FramesHold, FramesCommitted}
use Rattle.record.specs.Meaning.{zero_store}
use Rattle.recovery.proofs.Follows.{Follows}
use Rattle.recovery.proofs.FrameTheorem.{accepted_stored, stored_accepts, reads_present, follows_sound, reads_committed}
use Rattle.recovery.proofs.Persists.{Preserved, settled_preserved, preserved_stored, preserved_cut}
use Rattle.recovery.specs.Book.{FrameBook, book_start, Needs}
use Rattle.recovery.specs.Questions.{start_asks}
use Rattle.recovery.specs.Sound.{Sound}
use Rattle.recovery.specs.Contents.{Contents}
use Rattle.recovery.specs.Write.{Drive, seen}

module _ (needed : Needs) (blocks area : ℕ) (ranges : List Range) where
  -- ---- worlds

  abbrev HeldOk : Option Lent → Drive → FrameBook → Option Contents → Type 0
  HeldOk none v b before = Preserved needed blocks area ranges v b.kept before
  HeldOk (some l) v b before = (l.card ≡ seen v) × Stands needed blocks area ranges l v b before

  abbrev WorldOk : FrameWorld → Type 0
  WorldOk w = HeldOk w.held w.drive w.book w.before

  held_stands : (w : FrameWorld) (l : Lent) → w.held ≡ some l → WorldOk w → (l.card ≡ seen w.drive) × Stands needed blocks area ranges l w.drive w.book w.before
  held_stands w l e o = subst (λ (h : Option Lent). HeldOk h w.drive w.book w.before) e o

  world_preserved : (w : FrameWorld) → WorldOk w → Preserved needed blocks area ranges w.drive w.book.kept w.before
  world_preserved w o = go w.held o
    where
      go : (h : Option Lent) → HeldOk h w.drive w.book w.before → Preserved needed blocks area ranges w.drive w.book.kept w.before
      go none k = k
      go (some l) k = stands_preserved needed blocks area ranges l w.drive w.book w.before k.1

  lent_ok : (c : FrameCall) (w : FrameWorld) (l : Lent) → lent_to c w ≡ some l → WorldOk w → (l.card ≡ seen w.drive) × LentOn needed blocks area ranges c l w.drive w.book w.before
  lent_ok (start m) w l e o =
      let l-is : start_lent m (seen w.drive) ≡ l = cc in
      subst (λ (x : Lent). (x.card ≡ seen w.drive) × LentOn needed blocks area ranges (start m) x w.drive w.book w.before) l-is (refl, (refl, world_preserved w o))
  lent_ok (change ws) w l e o = held_stands w l e o
  lent_ok snapshot w l e o = held_stands w l e o
  lent_ok page_out w l e o = held_stands w l e o
  lent_ok (advance n) w l e o = held_stands w l e o

  step_ok : (u v : FrameWorld) → FrameStep needed u v → WorldOk u → WorldOk v
  step_ok u v (called c w l l' a e asked p) o = let q = lent_ok c w l e o in called_on needed blocks area ranges l w.drive w.book w.before q.0 c q.1 asked l' a p
  step_ok u v (cut_within c w l c' reached e asked left r) o = let q = lent_ok c w l e o in cut_on needed blocks area ranges l w.drive w.book w.before q.0 c q.1 asked c' reached left r
  step_ok u v (cut_between w c' reached left r) o = preserved_cut blocks area ranges w.drive w.book w.before (world_preserved w o) c' left reached r

  run_ok : (u w : FrameWorld) → FrameRun needed u w → WorldOk u → WorldOk w
  run_ok u w (stays x) o = o
  run_ok u w (goes x y z r s) o = step_ok y z s (run_ok x y r o)

  loads : (l : Lent) (b : FrameBook) → Follows needed blocks area ranges (meaning_of l) l.card b → (f : ℕ) (x : List ℕ) → (area < f) × (f < blocks) → needed b.present f ≡ true → Loads l f x → x ≡ b.present f
  loads l b i f x h t e = e ∙ reads_present blocks area ranges (meaning_of l) l.card b i f h.0 h.1 t

  -- a record that follows the book serves
  abbrev Fits : Lent → Type 0
  Fits l = (first_no (common l) ≡ 0) × Sound (meaning_of l) × ((meaning_of l).blocks ≡ blocks) × ((meaning_of l).area ≡ area) × ((meaning_of l).ranges ≡ ranges)

  fits : (l : Lent) (b : FrameBook) → Follows needed blocks area ranges (meaning_of l) l.card b → first_no (common l) ≡ 0 → Fits l
  fits l b f h = (h, follows_sound blocks area ranges (meaning_of l) l.card b f, f.blocks_is, f.area_is, f.ranges_is)

  -- ---- what a world shows

  module _ (w : FrameWorld) (o : WorldOk w) where
    recovers : (m : List ℕ) → whole 4 64 (length m) ≡ true → (a : FrameAnswer) (l : Lent) → FrameKept (start m) (start_lent m (seen w.drive)) a l
        → (a ≡ done) × (l.card ≡ seen w.drive) × Fits l × ((f : ℕ) (x : List ℕ) → (area < f) × (f < blocks) → needed w.book.kept f ≡ true → Loads l f x → x ≡ w.book.kept f)
    unfolding asks done_answer done_write told
    recovers m h a l p =
        let k = preserved_stored blocks area ranges w.drive w.book.kept w.before (world_preserved w o) in
        let e = stored_accepts blocks area ranges (seen w.drive) w.book.kept k m h in
        let d = done_keeps (start m) (start_lent m (seen w.drive)) l a p e in
        let f = done_follows needed blocks area ranges (start_lent m (seen w.drive)) w.book (start m) (refl, k) tt l a p e in
        (d.0, d.1, fits l _ f (done-common needed blocks area ranges (start_lent m (seen w.drive)) w.book (start m) (refl, k) tt l a p e), loads l (book_start w.book) (rw d.0 at f))

    module _ (l : Lent) (e : w.held ≡ some l) where
      follows : first_no (common l) ≡ 0 → Follows needed blocks area ranges (meaning_of l) l.card w.book
      follows h =
          let q = held_stands w l e o in
          rw q.0 (stands_persists needed blocks area ranges l w.drive w.book w.before q.1 h).follows

      shows : first_no (common l) ≡ 0 → (f : ℕ) (x : List ℕ) → (area < f) × (f < blocks) → needed w.book.kept f ≡ true → LoadsCommitted l f x → x ≡ w.book.kept f
      shows h f x k t q = q ∙ reads_committed blocks area ranges (meaning_of l) l.card w.book (follows h) f k.0 k.1 t

      presents : first_no (common l) ≡ 0 → (f : ℕ) (x : List ℕ) → (area < f) × (f < blocks) → needed w.book.present f ≡ true → Loads l f x → x ≡ w.book.present f
      presents h = loads l w.book (follows h)

      holds : ((l.store ≡ zero_store) ⊎ Fits l) × (l.card ≡ seen w.drive)
      holds = let q = held_stands w l e o in (either q.0 q.1, q.0)
        where
          either : l.card ≡ seen w.drive → Stands needed blocks area ranges l w.drive w.book w.before → (l.store ≡ zero_store) ⊎ Fits l
          either c (vacant z k) = inl z
          either c (serving p h) = inr (fits l w.book (rw c p.follows) h)

-- ---- the claims

-- the geometry is the first card's
reached : (needed : Needs) (m card : List ℕ) → first_no (start_asks m card) ≡ 0 → (w : FrameWorld) → FrameRun needed (first_world m card) w
    → WorldOk needed (length card / 512) (header_on (block_at card 0)).area (header_ranges (header_on (block_at card 0))) w
reached needed m card h w run = run_ok needed _ _ _ (first_world m card) w run (settled_preserved _ _ _ card _ (accepted_stored m card h))

serves : (needed : Needs) (card : List ℕ) (l : Lent) → Fits needed (length card / 512) (header_on (block_at card 0)).area (header_ranges (header_on (block_at card 0))) l → Serves card l
serves needed card l q = record { passes = q.0; sound = q.1; blocks_is = q.2; area_is = q.3; ranges_is = q.4 }

pub frames_recover : (needed : Needs) → FramesRecover needed
frames_recover needed m₀ card h w run m memory a l p = let q = recovers needed _ _ _ w (reached needed m₀ card h w run) m memory a l p in (q.0, q.1, serves needed card l q.2, q.3)

pub frames_present : (needed : Needs) → FramesPresent needed
frames_present needed m card h w run = presents needed _ _ _ w (reached needed m card h w run)

pub frames_committed : (needed : Needs) → FramesCommitted needed
frames_committed needed m card h w run = shows needed _ _ _ w (reached needed m card h w run)

pub frames_hold : (needed : Needs) → FramesHold needed
frames_hold needed m card h w run l e = let q = holds needed _ _ _ w (reached needed m card h w run) l e in (⊎_elim inl (λ s. inr (serves needed card l s)) q.0, q.1)
