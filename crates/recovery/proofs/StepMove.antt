-- A committed entry is copied home.
-- Assumes nothing.
use mathlib.Core.Bool.{true}
use Prim.Native.Nat.{ℕ, ◌+◌, ◌*◌, ◌≤◌, ◌<◌}
use lib.ListN.{length, take}
use mathlib.Core.List.{List}
use mathlib.Core.Logic.{◌≢◌}
use mathlib.Core.Path.{◌≡◌, refl, sym, ◌∙◌}
use native.Mathlib.Decide.{ℕ_discrete}
use native.Mathlib.Omega.{arith}
use Rattle.card.proofs.AllLaws.{all_next, all_at, all_map}
use Rattle.card.proofs.BlockLaws.{put_same, put_other, block_length}
use Rattle.card.proofs.RingLaws.{on_in}
use Rattle.card.specs.Block.{block_at, put_block}
use Rattle.card.specs.Bytes.{All}
use Rattle.card.specs.Ring.{ring_at}
use Rattle.card.specs.declared.directory.Entry.{Entry}
use Rattle.recovery.proofs.ContentsLaws.{stored_frames_same}
use Rattle.recovery.proofs.GenerationLaws.{overlay_at}
use Rattle.recovery.proofs.Harmless.{Harmless, moving, harmless_write}
use Rattle.recovery.proofs.Invariant.{Invariant}
use Rattle.recovery.proofs.Sorted.{size_of, Sorted, copy_home, next_home, sorted_write, card_after, sorted_after}
use Rattle.recovery.proofs.Writes.{pending_place}
use Rattle.recovery.specs.Book.{FrameBook, Needs}
use Rattle.recovery.specs.Contents.{stored_frames}
use Rattle.recovery.specs.Sound.{Home, Between}

module _ {needed : Needs} (blocks : ℕ) (s : Sorted) (c : List ℕ) (b : FrameBook) (i : Invariant needed blocks s c b) (more : s.migrated < length s.committed.dir) where
  n : ℕ
  n = (next_home s).frame

  x : List ℕ
  x = block_at c (next_home s).block

  high : (s.area < n) × (n < blocks)
  unfolding n next_home
  high = all_at (Home s.area blocks) s.committed.dir s.migrated _ i.recoverable.named more

  within : Between s.area s.committed.first 0 s.committed.pages_down (next_home s)
  unfolding next_home
  within = all_at (Between s.area s.committed.first 0 s.committed.pages_down) s.committed.dir s.migrated _ i.recoverable.inside more

  fits : 512 * n + 512 ≤ length c
  fits = omega (arith, high, i.recoverable.whole)

  long : length x ≡ 512
  unfolding x
  long = block_length c (next_home s).block (omega (arith, within.1, i.recoverable.whole, i.recoverable.home))

  -- the copied bytes are the kept ones, where the frame is needed
  right : needed b.kept n ≡ true → x ≡ b.kept n
  unfolding x n next_home
  right t = sym (overlay_at c s.committed.dir s.migrated (block_at c) _ i.recoverable.rising more) ∙ i.recoverable.view n high.0 high.1 t

  pub copies_kept : needed b.kept (next_home s).frame ≡ true → block_at c (next_home s).block ≡ b.kept (next_home s).frame
  unfolding x n
  copies_kept = right

  harmless : Harmless blocks s.area s.committed n
  unfolding n next_home
  harmless = moving high.0 high.1 (λ none.
      let other : n ≢ (next_home s).frame = all_at (λ e. n ≢ e.frame) s.committed.dir s.migrated _ none more in
      other refl)

  pub harmless_M : Harmless blocks s.area s.committed (sorted_write copy_home s c).block
  unfolding sorted_write n
  harmless_M = harmless

  pub long_M : length (sorted_write copy_home s c).bytes ≡ 512
  unfolding sorted_write x
  long_M = long

  other : (m : ℕ) → m ≢ n → block_at (put_block c n x) m ≡ block_at c m
  other m h = put_other c n x long fits m h

  area_stored_frames : (lo hi : ℕ) (dir : List Entry) → All (Between s.area s.committed.first lo hi) dir → stored_frames (put_block c n x) dir ≡ stored_frames c dir
  area_stored_frames lo hi dir h = stored_frames_same c (put_block c n x) dir
      (all_map (Between s.area s.committed.first lo hi) (λ e. block_at (put_block c n x) e.block ≡ block_at c e.block) dir
      (λ e p. other e.block (omega (arith, p.1, high))) h)

  home_one : (f : ℕ) → (needed b.kept f ≡ true → block_at c f ≡ b.kept f) → Dec (f ≡ n) → needed b.kept f ≡ true → block_at (put_block c n x) f ≡ b.kept f
  home_one f h (yes e) t = rw e (put_same c n x long fits ∙ right (rw e at t))
  home_one f h (no d) t = other f d ∙ h t

  low_place : (k : ℕ) → k < size_of s.pending → ring_at s.area s.pending.first k ≢ n
  low_place k h =
      let inn = on_in s.area s.committed.first i.recoverable.low i.recoverable.high (size_of s.committed + k) (omega (arith, i.room)) in
      omega (arith, pending_place blocks s c b i k (omega arith), inn, high)

  pub step_M : Invariant needed blocks (sorted_after copy_home s) (card_after copy_home s c) b
  unfolding sorted_write sorted_after n x next_home
  step_M = record {
    recoverable = harmless_write blocks s.area s.ranges s.commit s.committed c b.kept i.recoverable n harmless x long;
    half_pending = i.half_pending;
    half_current = i.half_current;
    seated = i.seated;
    pending_ok = i.pending_ok;
    current_ok = i.current_ok;
    pending_first_lem = i.pending_first_lem;
    current_first_lem = i.current_first_lem;
    room = i.room;
    limit = i.limit;
    tail_down_fits = i.tail_down_fits;
    tail_down_after = i.tail_down_after;
    tail_down_ok = λ j h. other _ (λ k. low_place (s.pending.pages_down + j) (omega (arith, i.tail_down_fits)) k) ∙ i.tail_down_ok j h;
    migrated_ok = all_next (λ e. needed b.kept e.frame ≡ true → block_at (put_block c n x) e.frame ≡ b.kept e.frame) s.migrated s.committed.dir _
        (all_map (λ e. needed b.kept e.frame ≡ true → block_at c e.frame ≡ b.kept e.frame) (λ e. needed b.kept e.frame ≡ true → block_at (put_block c n x) e.frame ≡ b.kept e.frame) (take s.migrated s.committed.dir)
        (λ e h. home_one e.frame h (ℕ_discrete e.frame n)) i.migrated_ok)
        (λ t. put_same c n x long fits ∙ right t);
    mark = λ u f l h t. rw (area_stored_frames _ _ s.pending.dir i.pending_ok.inside) (i.mark u f l h t);
    now = λ u f l h t. rw (area_stored_frames _ _ s.current.dir i.current_ok.inside) (i.now u f l h t);
  }
