-- A page-out, of the pending generation and of the current one, keeps the invariant, and its block is safe.
-- Assumes nothing.
use Prim.Native.Nat.{ℕ, zero, suc, ◌+◌, ◌≤◌, ◌<◌}
use lib.ListN.{length}
use mathlib.Core.List.{List}
use mathlib.Core.Path.{◌≡◌, refl, ap, ◌∙◌}
use native.Mathlib.Omega.{arith}
use Rattle.card.proofs.RingLaws.{on_on, from_shift}
use Rattle.card.specs.Block.{put_block}
use Rattle.card.specs.Ring.{ring_at, ring_offset}
use Rattle.recovery.proofs.GenerationLaws.{out_held, out_apart, paged_out_ok, paged_out-first, paged_out-length, paged_out_pages_down, paged_out_view}
use Rattle.recovery.proofs.Harmless.{Harmless, free}
use Rattle.recovery.proofs.Invariant.{Invariant}
use Rattle.recovery.proofs.SizeLaws.{paged_out_count, paged_out-size, pages_below, pages_down_below}
use Rattle.recovery.proofs.Sorted.{places_of, count_of, size_of, Sorted, oldest, pending_out, current_out, paged_out, sorted_write, card_after, sorted_after}
use Rattle.recovery.proofs.Writes.{pending_place, spot_in, spot_at, spot_harmless, spot_recoverable, spot_same, spot_stored_frames, spot_migrated, spot_tail_down}
use Rattle.recovery.specs.Book.{FrameBook, Needs}

pub none_tail_down : {needed : Needs} (blocks : ℕ) (s : Sorted) (c : List ℕ) (b : FrameBook) → Invariant needed blocks s c b → 0 < length s.pending.waiting → s.tail_down ≡ 0
none_tail_down blocks s c b i h = go s.tail_down refl
  where
    go : (k : ℕ) → s.tail_down ≡ k → s.tail_down ≡ 0
    go zero e = e
    go (suc k) e = absurd (omega (arith, ap length (i.tail_down_after (omega arith))))

module _ {needed : Needs} (blocks : ℕ) (s : Sorted) (c : List ℕ) (b : FrameBook) (i : Invariant needed blocks s c b) (some : 0 < length s.pending.waiting) where
  fits_P : s.pending.pages_down < size_of s.pending
  unfolding places_of
  fits_P = omega (arith, pages_below s.pending i.pending_ok.any)

  at_P : ring_at s.area s.pending.first s.pending.pages_down ≡ ring_at s.area s.committed.first (size_of s.committed + s.pending.pages_down)
  at_P = pending_place blocks s c b i s.pending.pages_down (omega (arith, fits_P))

  pub harmless_P : Harmless blocks s.area s.committed (sorted_write pending_out s c).block
  unfolding sorted_write
  harmless_P = spot_harmless blocks s c b i _ (size_of s.committed + s.pending.pages_down) at_P (omega arith) (omega (arith, i.room, fits_P))

  pub long_P : length (sorted_write pending_out s c).bytes ≡ 512
  unfolding sorted_write
  long_P = (out_held blocks s.area s.committed.first (size_of s.committed) s.pending i.pending_ok some).0.0

  pub step_P : Invariant needed blocks (sorted_after pending_out s) (card_after pending_out s c) b
  unfolding sorted_write sorted_after
  step_P =
      let n : ℕ = ring_at s.area s.pending.first s.pending.pages_down in
      let q : ℕ = size_of s.committed + s.pending.pages_down in
      let up : size_of s.committed ≤ q = omega arith in
      let under : q < s.area = omega (arith, i.room, fits_P) in
      let held = out_held blocks s.area s.committed.first (size_of s.committed) s.pending i.pending_ok some in
      let x : List ℕ = (oldest s.pending.waiting).bytes in
      let long : length x ≡ 512 = held.0.0 in
      let same_size : size_of (paged_out s.area s.pending) ≡ size_of s.pending = paged_out-size s.area s.pending some (out_apart blocks s.area s.committed.first (size_of s.committed) s.pending i.pending_ok some).0 in
      let same_count : count_of (paged_out s.area s.pending) ≡ count_of s.pending = paged_out_count s.area s.pending some (out_apart blocks s.area s.committed.first (size_of s.committed) s.pending i.pending_ok some).0 in
      let zero-tailDown : s.tail_down ≡ 0 = none_tail_down blocks s c b i some in
      let inn = spot_in blocks s c b i n q at_P up under in
      record {
        recoverable = spot_recoverable blocks s c b i n q at_P up under x long;
        half_pending = rw same_size i.half_pending;
        half_current = i.half_current;
        seated = omega (arith, i.seated, paged_out-length blocks s.area s.committed.first (size_of s.committed) s.pending i.pending_ok some);
        pending_ok = paged_out_ok blocks s.area s.committed.first (size_of s.committed) s.pending i.pending_ok some inn.0 inn.1 (spot_at blocks s c b i n q at_P up under);
        current_ok = rw same_size i.current_ok;
        pending_first_lem = paged_out-first blocks s.area s.committed.first (size_of s.committed) s.pending i.pending_ok some ∙ i.pending_first_lem;
        current_first_lem = rw same_size i.current_first_lem;
        room = rw same_size i.room;
        limit = rw same_count i.limit;
        tail_down_fits = omega (arith, fits_P, same_size, paged_out_pages_down blocks s.area s.committed.first (size_of s.committed) s.pending i.pending_ok some);
        tail_down_after = λ h. absurd (omega arith);
        tail_down_ok = λ j h. absurd (omega arith);
        migrated_ok = spot_migrated blocks s c b i n q at_P up under x long;
        mark = λ u f l h t. paged_out_view blocks s.area s.committed.first (size_of s.committed) s.pending i.pending_ok some c (put_block c n x) u f
            (spot_same blocks s c b i n q at_P up under x long)
            (spot_stored_frames blocks s c b i n q at_P up under x long _ _ s.pending.dir i.pending_ok.inside (λ m p k. omega arith)) ∙ i.mark u f l h t;
        now = λ u f l h t. rw (spot_stored_frames blocks s c b i n q at_P up under x long _ _ s.current.dir i.current_ok.inside (λ m p k. omega (arith, fits_P))) (i.now u f l h t);
      }

module _ {needed : Needs} (blocks : ℕ) (s : Sorted) (c : List ℕ) (b : FrameBook) (i : Invariant needed blocks s c b) (some : 0 < length s.current.waiting) where
  lo : ℕ
  lo = size_of s.committed + size_of s.pending

  fits_C : s.current.pages_down < size_of s.current
  unfolding places_of
  fits_C = omega (arith, pages_below s.current i.current_ok.any)

  at_C : ring_at s.area s.current.first s.current.pages_down ≡ ring_at s.area s.committed.first (lo + s.current.pages_down)
  unfolding lo
  at_C = rw i.current_first_lem (on_on s.area s.committed.first i.recoverable.low i.recoverable.high lo s.current.pages_down (omega (arith, i.room, fits_C)))

  pub harmless_C : Harmless blocks s.area s.committed (sorted_write current_out s c).block
  unfolding sorted_write lo
  harmless_C = spot_harmless blocks s c b i _ (lo + s.current.pages_down) at_C (omega arith) (omega (arith, i.room, fits_C))

  pub long_C : length (sorted_write current_out s c).bytes ≡ 512
  unfolding sorted_write lo
  long_C = (out_held blocks s.area s.committed.first lo s.current i.current_ok some).0.0

  -- nor does it lie in the pending stretch
  pub beyond_C : Harmless blocks s.area s.pending (sorted_write current_out s c).block
  unfolding sorted_write lo
  beyond_C =
      let n : ℕ = ring_at s.area s.current.first s.current.pages_down in
      let q : ℕ = size_of s.committed + size_of s.pending + s.current.pages_down in
      let inn = spot_in blocks s c b i n q at_C (omega arith) (omega (arith, i.room, fits_C)) in
      let at = spot_at blocks s c b i n q at_C (omega arith) (omega (arith, i.room, fits_C)) in
      let there = from_shift s.area s.committed.first i.recoverable.low i.recoverable.high (size_of s.committed) n inn.0 inn.1 (omega (arith, at)) in
      let from-pending : ring_offset s.area s.pending.first n ≡ ring_offset s.area (ring_at s.area s.committed.first (size_of s.committed)) n = ap (λ (x : ℕ). ring_offset s.area x n) i.pending_first_lem in
      free inn.0 inn.1 (omega (arith, there, at, from-pending))

  pub step_C : Invariant needed blocks (sorted_after current_out s) (card_after current_out s c) b
  unfolding sorted_write sorted_after lo
  step_C =
      let n : ℕ = ring_at s.area s.current.first s.current.pages_down in
      let q : ℕ = lo + s.current.pages_down in
      let up : size_of s.committed ≤ q = omega arith in
      let under : q < s.area = omega (arith, i.room, fits_C) in
      let held = out_held blocks s.area s.committed.first lo s.current i.current_ok some in
      let x : List ℕ = (oldest s.current.waiting).bytes in
      let long : length x ≡ 512 = held.0.0 in
      let same_size : size_of (paged_out s.area s.current) ≡ size_of s.current = paged_out-size s.area s.current some (out_apart blocks s.area s.committed.first lo s.current i.current_ok some).0 in
      let inn = spot_in blocks s c b i n q at_C up under in
      record {
        recoverable = spot_recoverable blocks s c b i n q at_C up under x long;
        half_pending = i.half_pending;
        half_current = rw same_size i.half_current;
        seated = omega (arith, i.seated, paged_out-length blocks s.area s.committed.first lo s.current i.current_ok some);
        pending_ok = i.pending_ok;
        current_ok = paged_out_ok blocks s.area s.committed.first lo s.current i.current_ok some inn.0 inn.1 (spot_at blocks s c b i n q at_C up under);
        pending_first_lem = i.pending_first_lem;
        current_first_lem = paged_out-first blocks s.area s.committed.first lo s.current i.current_ok some ∙ i.current_first_lem;
        room = rw same_size i.room;
        limit = i.limit;
        tail_down_fits = i.tail_down_fits;
        tail_down_after = i.tail_down_after;
        tail_down_ok = spot_tail_down blocks s c b i n q at_C up under x long (λ k h. omega (arith, i.tail_down_fits));
        migrated_ok = spot_migrated blocks s c b i n q at_C up under x long;
        mark = λ u f l h t. rw (spot_stored_frames blocks s c b i n q at_C up under x long _ _ s.pending.dir i.pending_ok.inside (λ m p k. omega (arith, pages_down_below s.pending i.pending_ok.any))) (i.mark u f l h t);
        now = λ u f l h t. paged_out_view blocks s.area s.committed.first lo s.current i.current_ok some c (put_block c n x) u f
            (spot_same blocks s c b i n q at_C up under x long)
            (spot_stored_frames blocks s c b i n q at_C up under x long _ _ s.current.dir i.current_ok.inside (λ m p k. omega arith)) ∙ i.now u f l h t;
      }
