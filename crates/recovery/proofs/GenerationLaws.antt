-- Laws of a sorted generation: a page-out of it, and entries that are home.
-- Assumes nothing.
use Prim.Native.Nat.{ℕ, zero, suc, ◌+◌, ◌≤◌, ◌<◌}
use borrow.Author.Tests.{ltb-true, ltb-false, eqb-true, eqb-false, eq-eqb, ne_eqb}
use lib.Dec.{ltb, eqb}
use lib.ListN.{length, get_or}
use mathlib.Core.Bool.{Bool, true, false, cond}
use mathlib.Core.List.{List, [], ◌∷◌, tail}
use mathlib.Core.Logic.{◌≢◌}
use mathlib.Core.Path.{◌≡◌, refl, ap, sym, ◌∙◌}
use native.Mathlib.Omega.{arith}
use Rattle.card.proofs.AllLaws.{all_at, all_map, all_both}
use Rattle.card.proofs.BytesLaws.{length_tail}
use Rattle.card.proofs.Test.{by_test}
use Rattle.card.specs.Block.{block_at}
use Rattle.card.specs.Bytes.{All}
use Rattle.card.specs.Ring.{ring_at, ring_offset}
use Rattle.card.specs.declared.directory.Entry.{Entry}
use Rattle.recovery.proofs.ContentsLaws.{overlay_base, overlay_last, overlay-insert_by_frame, all_insert_by_frame}
use Rattle.recovery.proofs.Invariant.{GenerationFits}
use Rattle.recovery.proofs.SizeLaws.{oldest-first}
use Rattle.recovery.proofs.Sorted.{Without, Once, Absent, SortedGeneration, count_of, oldest, paged_out}
use Rattle.recovery.specs.Book.{WholeFrame}
use Rattle.recovery.specs.Contents.{Contents, FrameBytes, overlay, stored_frames}
use Rattle.recovery.specs.Directory.{insert_by_frame}
use Rattle.recovery.specs.Sound.{Rising, Home, Between}

pub rising_insert_by_frame : (e : Entry) (es : List Entry) → Rising es → Rising (insert_by_frame e es)
unfolding insert_by_frame
rising_insert_by_frame e [] h = (tt, tt)
rising_insert_by_frame e (x ∷ xs) h =
    by_test Rising (ltb e.frame x.frame)
    (λ p. let l : e.frame < x.frame = ltb-true _ _ p in
    ((l, all_map (λ y. x.frame < y.frame) (λ y. e.frame < y.frame) xs (λ y k. omega arith) h.0), h))
    (λ p. by_test Rising (eqb e.frame x.frame)
    (λ q. let s : e.frame ≡ x.frame = eqb-true _ _ q in
    (all_map (λ y. x.frame < y.frame) (λ y. e.frame < y.frame) xs (λ y k. omega arith) h.0, h.1))
    (λ q. let l : x.frame ≤ e.frame = ltb-false _ _ p in
    let d : x.frame ≢ e.frame = λ k. eqb-false _ _ q (sym k) in
    (all_insert_by_frame (λ y. x.frame < y.frame) e xs (omega arith) h.0, rising_insert_by_frame e xs h.1)))

pub length-insert_by_frame : (e : Entry) (es : List Entry) → (1 ≤ length (insert_by_frame e es)) × (length (insert_by_frame e es) ≤ suc (length es))
unfolding insert_by_frame
length-insert_by_frame e [] = omega arith
length-insert_by_frame e (x ∷ xs) =
    by_test (λ l. (1 ≤ length l) × (length l ≤ suc (suc (length xs)))) (ltb e.frame x.frame) {x = e ∷ x ∷ xs} (λ p. omega arith)
    (λ p. by_test (λ l. (1 ≤ length l) × (length l ≤ suc (suc (length xs)))) (eqb e.frame x.frame) {x = e ∷ xs} {y = x ∷ insert_by_frame e xs} (λ q. omega arith) (λ q. omega (arith, length-insert_by_frame e xs)))

-- the oldest waiting frame, written to block n, shows as it did while it waited
pub pop_view : (c d : List ℕ) (dir : List Entry) (w : FrameBytes) (ws : List FrameBytes) (n : ℕ) (base : Contents) (f : ℕ)
    → Without w.frame ws → block_at d n ≡ w.bytes → stored_frames d dir ≡ stored_frames c dir
    → overlay ws (overlay (stored_frames d (insert_by_frame (record { frame = w.frame; block = n }) dir)) base) f ≡ overlay (w ∷ ws) (overlay (stored_frames c dir) base) f
unfolding overlay stored_frames
pop_view c d dir w ws n base f once there same =
    let e : Entry = record { frame = w.frame; block = n } in
    overlay_base ws (overlay (stored_frames d (insert_by_frame e dir)) base) (overlay (w ∷ []) (overlay (stored_frames c dir) base)) f
    (overlay-insert_by_frame d e dir base f ∙ cc (there, same))
    ∙ sym (overlay_last w ws (overlay (stored_frames c dir) base) f once)

-- the i-th entry of a rising directory is the one that is found
pub overlay_at : (c : List ℕ) (es : List Entry) (i : ℕ) (base : Contents) (none : Entry) → Rising es → i < length es
    → overlay (stored_frames c es) base (get_or es i none).frame ≡ block_at c (get_or es i none).block
unfolding overlay stored_frames
overlay_at c [] i base none r h = absurd (omega arith)
overlay_at c (e ∷ es) zero base none r h = rw (eq-eqb e.frame e.frame refl)
overlay_at c (e ∷ es) (suc i) base none r h =
    let later : e.frame < (get_or es i none).frame = all_at (λ x. e.frame < x.frame) es i none r.0 (omega arith) in
    rw (ne_eqb (get_or es i none).frame e.frame (omega arith)) (overlay_at c es i base none r.1 (omega arith))

-- where every needed entry is home, so is what the view shows
pub home_kept : (needed : ℕ → Bool) (c : List ℕ) (es : List Entry) (base kept : Contents) (f : ℕ) → All (λ e. needed e.frame ≡ true → base e.frame ≡ kept e.frame) es
    → needed f ≡ true → overlay (stored_frames c es) base f ≡ kept f → base f ≡ kept f
unfolding overlay stored_frames
home_kept needed c [] base kept f h n = λ v. v
home_kept needed c (e ∷ es) base kept f h n =
    elim (eqb f e.frame) as (λ t. eqb f e.frame ≡ t → cond t (block_at c e.block) (overlay (stored_frames c es) base f) ≡ kept f → base f ≡ kept f) [
      | true ↦ λ q v. let same : f ≡ e.frame = eqb-true f e.frame q in rw same (h.0 (rw same at n))
      | false ↦ λ q v. home_kept needed c es base kept f h.1 n v
    ] refl

module _ (blocks area first lo : ℕ) (g : SortedGeneration) (ok : GenerationFits blocks area first lo g) (some : 0 < length g.waiting) where
  -- of the oldest waiting frame, and of the others
  pub out_held : WholeFrame area blocks (oldest g.waiting) × All (WholeFrame area blocks) (tail g.waiting)
  out_held = rw (oldest-first g.waiting some) at ok.held

  pub out_once : Without (oldest g.waiting).frame (tail g.waiting) × Once (tail g.waiting)
  out_once = rw (oldest-first g.waiting some) at ok.once

  pub out_apart : Absent (oldest g.waiting).frame g.dir × All (λ w. Absent w.frame g.dir) (tail g.waiting)
  out_apart = rw (oldest-first g.waiting some) at ok.apart

  -- put down at its next place, it still fits
  pub paged_out_ok : 1 ≤ ring_at area g.first g.pages_down → ring_at area g.first g.pages_down ≤ area
      → ring_offset area first (ring_at area g.first g.pages_down) ≡ lo + g.pages_down → GenerationFits blocks area first lo (paged_out area g)
  unfolding paged_out count_of
  paged_out_ok low high at = record {
    inside = all_insert_by_frame (Between area first lo (lo + suc g.pages_down)) _ g.dir (low, high, omega arith, omega arith)
        (all_map (Between area first lo (lo + g.pages_down)) (Between area first lo (lo + suc g.pages_down)) g.dir (λ e h. omega arith) ok.inside);
    named = all_insert_by_frame (Home area blocks) _ g.dir (out_held.0.1, out_held.0.2) ok.named;
    rising = rising_insert_by_frame _ g.dir ok.rising;
    few = omega (arith, ok.few, length-insert_by_frame (record { frame = (oldest g.waiting).frame; block = ring_at area g.first g.pages_down }) g.dir);
    any = λ h. omega (arith, length-insert_by_frame (record { frame = (oldest g.waiting).frame; block = ring_at area g.first g.pages_down }) g.dir);
    once = out_once.1;
    held = out_held.1;
    apart = all_both (λ w. (oldest g.waiting).frame ≢ w.frame) (λ w. Absent w.frame g.dir) _ (tail g.waiting)
        (λ w n a. all_insert_by_frame (λ x. w.frame ≢ x.frame) _ g.dir (λ k. n (sym k)) a) out_once.0 out_apart.1;
  }

  pub paged_out-first : (paged_out area g).first ≡ g.first
  unfolding paged_out
  paged_out-first = refl

  pub paged_out-length : suc (length (paged_out area g).waiting) ≡ length g.waiting
  unfolding paged_out
  paged_out-length = length_tail g.waiting some

  pub paged_out_pages_down : (paged_out area g).pages_down ≡ suc g.pages_down
  unfolding paged_out
  paged_out_pages_down = refl

  -- written to its block, the frame shows as it did while it waited
  pub paged_out_view : (c d : List ℕ) (base : Contents) (f : ℕ) → block_at d (ring_at area g.first g.pages_down) ≡ (oldest g.waiting).bytes → stored_frames d g.dir ≡ stored_frames c g.dir
      → overlay (paged_out area g).waiting (overlay (stored_frames d (paged_out area g).dir) base) f ≡ overlay g.waiting (overlay (stored_frames c g.dir) base) f
  unfolding paged_out
  paged_out_view c d base f there same =
      pop_view c d g.dir (oldest g.waiting) (tail g.waiting) (ring_at area g.first g.pages_down) base f out_once.0 there same
      ∙ sym (ap (λ (ws : List FrameBytes). overlay ws (overlay (stored_frames c g.dir) base) f) (oldest-first g.waiting some))
