-- Writes of the store's steps: what each leaves as it was.
-- Assumes nothing.
use mathlib.Core.Bool.{true}
use Prim.Native.Nat.{ℕ, suc, ◌+◌, ◌*◌, ◌≤◌, ◌<◌}
use lib.ListN.{length, take}
use mathlib.Core.List.{List, [], ◌∷◌}
use mathlib.Core.Logic.{◌≢◌}
use mathlib.Core.Path.{◌≡◌, ap, sym, ◌∙◌}
use native.Mathlib.Omega.{arith}
use Rattle.card.proofs.AllLaws.{all_take, all_map}
use Rattle.card.proofs.BlockLaws.{put_same, put_other}
use Rattle.card.proofs.RingLaws.{on_in, from_on, on_on}
use Rattle.card.specs.Block.{block_at, put_block}
use Rattle.card.specs.Bytes.{All}
use Rattle.card.specs.Ring.{ring_at, ring_offset}
use Rattle.card.specs.declared.directory.Entry.{Entry}
use Rattle.recovery.proofs.ContentsLaws.{stored_frames_same}
use Rattle.recovery.proofs.Harmless.{Harmless, free, harmless_write}
use Rattle.recovery.proofs.Invariant.{Recoverable, Invariant}
use Rattle.recovery.proofs.Sorted.{size_of, Sorted, tail_block}
use Rattle.recovery.specs.Book.{FrameBook, Needs}
use Rattle.recovery.specs.Contents.{stored_frames}
use Rattle.recovery.specs.Sound.{Home, Between}

-- a place of the pending generation's stretch, counted from the committed one's first block
pub pending_place : {needed : Needs} (blocks : ℕ) (s : Sorted) (c : List ℕ) (b : FrameBook) (i : Invariant needed blocks s c b) (k : ℕ) → k ≤ size_of s.pending
    → ring_at s.area s.pending.first k ≡ ring_at s.area s.committed.first (size_of s.committed + k)
pending_place blocks s c b i k h =
    rw i.pending_first_lem (on_on s.area s.committed.first i.recoverable.low i.recoverable.high (size_of s.committed) k (omega (arith, i.room)))

-- ---- a write in the area, q places on from the committed generation's first block

module _ {needed : Needs} (blocks : ℕ) (s : Sorted) (c : List ℕ) (b : FrameBook) (i : Invariant needed blocks s c b)
    (n q : ℕ) (at : n ≡ ring_at s.area s.committed.first q) (above : size_of s.committed ≤ q) (below : q < s.area) where
  pub spot_in : (1 ≤ n) × (n ≤ s.area)
  spot_in = rw at (on_in s.area s.committed.first i.recoverable.low i.recoverable.high q (omega arith))

  pub spot_at : ring_offset s.area s.committed.first n ≡ q
  spot_at = rw at (from_on s.area s.committed.first i.recoverable.low i.recoverable.high q below)

  pub spot_harmless : Harmless blocks s.area s.committed n
  spot_harmless = free spot_in.0 spot_in.1 (omega (arith, spot_at))

  spot_fits : 512 * n + 512 ≤ length c
  spot_fits = omega (arith, spot_in, i.recoverable.whole, i.recoverable.home)

  module _ (x : List ℕ) (long : length x ≡ 512) where
    pub spot_recoverable : Recoverable needed blocks s.area s.ranges s.commit s.committed (put_block c n x) b.kept
    spot_recoverable = harmless_write blocks s.area s.ranges s.commit s.committed c b.kept i.recoverable n spot_harmless x long

    pub spot_same : block_at (put_block c n x) n ≡ x
    spot_same = put_same c n x long spot_fits

    -- a directory that has no block at that place
    pub spot_stored_frames : (lo hi : ℕ) (dir : List Entry) → All (Between s.area s.committed.first lo hi) dir → ((m : ℕ) → lo ≤ m → m < hi → m ≢ q)
        → stored_frames (put_block c n x) dir ≡ stored_frames c dir
    spot_stored_frames lo hi dir h apart = stored_frames_same c (put_block c n x) dir
        (all_map (Between s.area s.committed.first lo hi) (λ e. block_at (put_block c n x) e.block ≡ block_at c e.block) dir
        (λ e p. put_other c n x long spot_fits e.block (λ k. apart (ring_offset s.area s.committed.first e.block) p.2 p.3 (ap (ring_offset s.area s.committed.first) k ∙ spot_at))) h)

    -- another place of the ring
    pub spot_other : (r : ℕ) → r < s.area → r ≢ q → block_at (put_block c n x) (ring_at s.area s.committed.first r) ≡ block_at c (ring_at s.area s.committed.first r)
    spot_other r h d = put_other c n x long spot_fits (ring_at s.area s.committed.first r)
        (λ k. d (sym (from_on s.area s.committed.first i.recoverable.low i.recoverable.high r h) ∙ ap (ring_offset s.area s.committed.first) k ∙ spot_at))

    pub spot_migrated : All (λ e. needed b.kept e.frame ≡ true → block_at (put_block c n x) e.frame ≡ b.kept e.frame) (take s.migrated s.committed.dir)
    spot_migrated = joined (take s.migrated s.committed.dir) (all_take (Home s.area blocks) s.migrated s.committed.dir i.recoverable.named) i.migrated_ok
      where
        joined : (es : List Entry) → All (Home s.area blocks) es → All (λ e. needed b.kept e.frame ≡ true → block_at c e.frame ≡ b.kept e.frame) es
            → All (λ e. needed b.kept e.frame ≡ true → block_at (put_block c n x) e.frame ≡ b.kept e.frame) es
        joined [] h k = tt
        joined (e ∷ es) h k = ((λ t. put_other c n x long spot_fits e.frame (omega (arith, h.0, spot_in)) ∙ k.0 t), joined es h.1 k.1)

    -- what is down of the pending generation's directory stays
    pub spot_tail_down : ((k : ℕ) → k < s.pending.pages_down + s.tail_down → size_of s.committed + k ≢ q) → (j : ℕ) → j < s.tail_down
        → block_at (put_block c n x) (ring_at s.area s.pending.first (s.pending.pages_down + j)) ≡ tail_block (suc s.commit) s.pending j
    spot_tail_down apart j h =
        let e : ring_at s.area s.pending.first (s.pending.pages_down + j) ≡ ring_at s.area s.committed.first (size_of s.committed + (s.pending.pages_down + j)) =
        pending_place blocks s c b i (s.pending.pages_down + j) (omega (arith, i.tail_down_fits)) in
        ap (block_at (put_block c n x)) e ∙ spot_other (size_of s.committed + (s.pending.pages_down + j)) (omega (arith, i.room, i.tail_down_fits)) (apart (s.pending.pages_down + j) (omega arith))
        ∙ sym (ap (block_at c) e) ∙ i.tail_down_ok j h
