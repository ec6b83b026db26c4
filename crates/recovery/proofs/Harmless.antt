-- Blocks outside the committed generation, the homes of frames that it names, and the homes of frames that are not
-- needed may hold any bytes: what a started card shows of the needed frames stays.
-- Assumes nothing.
use Prim.Native.Nat.{ℕ, ◌+◌, ◌*◌, ◌≤◌, ◌<◌}
use lib.ListN.{length}
use mathlib.Core.Bool.{true}
use mathlib.Core.List.{List, [], ◌∷◌}
use mathlib.Core.Logic.{◌≢◌}
use mathlib.Core.Path.{◌≡◌, refl, ap, sym, ◌∙◌, subst}
use native.Mathlib.Decide.{ℕ_discrete}
use native.Mathlib.Omega.{arith}
use Rattle.card.proofs.AllLaws.{all_map}
use Rattle.card.proofs.BlockLaws.{put_length, put_other}
use Rattle.card.proofs.DirectoryLaws.{read_dir_same}
use Rattle.card.proofs.RingLaws.{on_in, from_on}
use Rattle.card.specs.Block.{block_at, put_block}
use Rattle.card.specs.Bytes.{All}
use Rattle.card.specs.Range.{Range}
use Rattle.card.specs.Ring.{ring_at, ring_offset, dir_blocks}
use Rattle.card.specs.declared.directory.Entry.{Entry}
use Rattle.recovery.proofs.ContentsLaws.{overlay_base, overlay_hides, stored_frames_same}
use Rattle.recovery.proofs.Invariant.{Tail, Recoverable}
use Rattle.recovery.proofs.SizeLaws.{quiet_size, pages_down_below}
use Rattle.recovery.proofs.Sorted.{Without, SortedGeneration, size_of, trailer_at}
use Rattle.recovery.specs.Book.{Needs}
use Rattle.recovery.specs.Contents.{Contents, overlay, stored_frames}
use Rattle.recovery.specs.Sound.{Between}

-- where a write does no harm to the committed generation g
pub data Harmless (blocks area : ℕ) (g : SortedGeneration) (n : ℕ) : Type 0 where
  free : 1 ≤ n → n ≤ area → size_of g ≤ ring_offset area g.first n → Harmless blocks area g n
  moving : area < n → n < blocks → (All (λ e. n ≢ e.frame) g.dir → ⊥) → Harmless blocks area g n

pub harmless_low : (blocks area : ℕ) (g : SortedGeneration) (n : ℕ) → area < blocks → Harmless blocks area g n → (1 ≤ n) × (n < blocks)
harmless_low blocks area g n h (free l k q) = omega arith
harmless_low blocks area g n h (moving l k q) = omega arith

-- a block of the committed stretch is no such place
pub harmless_apart : (blocks area : ℕ) (g : SortedGeneration) (n : ℕ) → 1 ≤ g.first → g.first ≤ area → size_of g ≤ area → Harmless blocks area g n
    → (i : ℕ) → i < size_of g → ring_at area g.first i ≢ n
harmless_apart blocks area g n low high fits (free l k q) i h e =
    omega (arith, from_on area g.first low high i (omega arith), ap (ring_offset area g.first) e)
harmless_apart blocks area g n low high fits (moving l k q) i h e = omega (arith, on_in area g.first low high i (omega arith))

harmless_entry : (blocks area : ℕ) (g : SortedGeneration) (n : ℕ) → g.pages_down ≤ size_of g → Harmless blocks area g n → (e : Entry) → Between area g.first 0 g.pages_down e → e.block ≢ n
harmless_entry blocks area g n h (free l k q) e t p = omega (arith, ap (ring_offset area g.first) p)
harmless_entry blocks area g n h (moving l k q) e t p = omega arith

without_stored_frames : (c : List ℕ) (f : ℕ) (es : List Entry) → Without f (stored_frames c es) → All (λ e. f ≢ e.frame) es
unfolding stored_frames
without_stored_frames c f [] h = tt
without_stored_frames c f (e ∷ es) h = (h.0, without_stored_frames c f es h.1)

absent_or_not : (f : ℕ) (es : List Entry) → Dec (All (λ e. f ≢ e.frame) es)
absent_or_not f [] = yes tt
absent_or_not f (e ∷ es) = go (ℕ_discrete f e.frame) (absent_or_not f es)
  where
    go : Dec (f ≡ e.frame) → Dec (All (λ x. f ≢ x.frame) es) → Dec (All (λ x. f ≢ x.frame) (e ∷ es))
    go (yes p) r = no (λ h. h.0 p)
    go (no d) (yes h) = yes (d, h)
    go (no d) (no n) = no (λ h. n h.1)

-- ---- another card that differs only in such blocks and in the homes of frames that are not needed

module _ {needed : Needs} (blocks area : ℕ) (ranges : List Range) (commit : ℕ) (g : SortedGeneration) (c : List ℕ) (kept : Contents) (k : Recoverable needed blocks area ranges commit g c kept)
    (c' : List ℕ) (long : length c' ≡ length c) (head-same : block_at c' 0 ≡ block_at c 0)
    (other : (n : ℕ) → 1 ≤ n → (Harmless blocks area g n → ⊥) → (area < n → needed kept n ≡ true) → block_at c' n ≡ block_at c n) where
  -- what the committed directory names stands
  committed_same : stored_frames c' g.dir ≡ stored_frames c g.dir
  committed_same = stored_frames_same c c' g.dir
      (all_map (Between area g.first 0 g.pages_down) (λ e. block_at c' e.block ≡ block_at c e.block) g.dir
      (λ e h. other e.block h.0 (λ bad. harmless_entry blocks area g e.block (pages_down_below g k.any) bad e h refl) (λ a. absurd (omega (arith, a, h.1)))) k.inside)

  tail_same : Tail c area commit g → Tail c' area commit g
  unfolding trailer_at
  tail_same t =
      let long_size : size_of g ≡ g.pages_down + dir_blocks (length g.dir) + 1 = quiet_size g k.quiet t.some_named in
      let block : (i : ℕ) → i < size_of g → block_at c' (ring_at area g.first i) ≡ block_at c (ring_at area g.first i) =
      λ i h. let in_area_lem = on_in area g.first k.low k.high i (omega (arith, k.fits)) in
      other (ring_at area g.first i) in_area_lem.0
      (λ bad. harmless_apart blocks area g (ring_at area g.first i) k.low k.high k.fits bad i h refl) (λ a. absurd (omega (arith, a, in_area_lem.1))) in
      let last : block_at c' (trailer_at area g) ≡ block_at c (trailer_at area g) = block (g.pages_down + dir_blocks (length g.dir)) (omega arith) in
      record {
        some_named = t.some_named;
        place_is = rw head-same t.place_is;
        trailer_is = rw last t.trailer_is;
        dir_is = read_dir_same c c' area g.first g.pages_down (length g.dir) (λ j h. block (g.pages_down + j) (omega arith)) ∙ t.dir_is;
      }

  same_view : (f : ℕ) → area < f → needed kept f ≡ true → Dec (All (λ e. f ≢ e.frame) g.dir) → overlay (stored_frames c g.dir) (block_at c') f ≡ overlay (stored_frames c g.dir) (block_at c) f
  same_view f l t (yes none) = overlay_base (stored_frames c g.dir) (block_at c') (block_at c) f (other f (omega arith) (no_harm none) (λ a. t))
    where
      no_harm : All (λ e. f ≢ e.frame) g.dir → Harmless blocks area g f → ⊥
      no_harm a (free p q r) = omega arith
      no_harm a (moving p q r) = r a
  same_view f l t (no some) = overlay_hides (stored_frames c g.dir) (block_at c') (block_at c) f (λ w. some (without_stored_frames c f g.dir w))

  -- it shows what the first did
  pub harmless_left : Recoverable needed blocks area ranges commit g c' kept
  harmless_left = record {
    whole = long ∙ k.whole;
    home = k.home;
    many = k.many;
    small = k.small;
    geo = k.geo;
    low = k.low;
    high = k.high;
    fits = k.fits;
    quiet = k.quiet;
    inside = k.inside;
    named = k.named;
    rising = k.rising;
    head = record { layout_is = rw head-same k.head.layout_is; commit_is = rw head-same k.head.commit_is; area_is = rw head-same k.head.area_is; ranges_is = rw head-same k.head.ranges_is };
    half = k.half;
    few = k.few;
    any = k.any;
    unset = λ e. rw head-same (k.unset e);
    fresh = k.fresh;
    there = λ h. tail_same (k.there h);
    view = λ f l h t. rw committed_same (same_view f l t (absent_or_not f g.dir) ∙ k.view f l h t);
  }

-- one such block written, whatever bytes it has
pub harmless_write : {needed : Needs} (blocks area : ℕ) (ranges : List Range) (commit : ℕ) (g : SortedGeneration) (c : List ℕ) (kept : Contents) → Recoverable needed blocks area ranges commit g c kept
    → (n : ℕ) → Harmless blocks area g n → (x : List ℕ) → length x ≡ 512 → Recoverable needed blocks area ranges commit g (put_block c n x) kept
harmless_write blocks area ranges commit g c kept k n harmless x long =
    let low = harmless_low blocks area g n k.home harmless in
    let fit : 512 * n + 512 ≤ length c = omega (arith, low, k.whole) in
    harmless_left blocks area ranges commit g c kept k (put_block c n x) (put_length c n x long fit) (put_other c n x long fit 0 (omega (arith, low)))
    (λ m h bad need. put_other c n x long fit m (λ e. bad (subst (Harmless blocks area g) (sym e) harmless)))
