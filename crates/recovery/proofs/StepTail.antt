-- A directory block or the trailer of the pending generation is put down.
-- Assumes nothing.
use Prim.Native.Nat.{ℕ, suc, ◌+◌, ◌≤◌, ◌<◌}
use lib.ListN.{length}
use mathlib.Core.List.{List, []}
use mathlib.Core.Path.{◌≡◌}
use native.Mathlib.Decide.{dec_lt}
use native.Mathlib.Omega.{arith}
use Rattle.card.specs.Block.{block_at, put_block}
use Rattle.card.specs.Ring.{ring_at}
use Rattle.recovery.proofs.Harmless.{Harmless}
use Rattle.recovery.proofs.Invariant.{Invariant}
use Rattle.recovery.proofs.Sorted.{size_of, Sorted, tail_block, directory_down, trailer_down, sorted_write, card_after, sorted_after}
use Rattle.recovery.proofs.TailLaws.{tail_length}
use Rattle.recovery.proofs.Writes.{pending_place, spot_harmless, spot_recoverable, spot_same, spot_stored_frames, spot_migrated, spot_tail_down}
use Rattle.recovery.specs.Book.{FrameBook, Needs}

module _ {needed : Needs} (blocks : ℕ) (s : Sorted) (c : List ℕ) (b : FrameBook) (i : Invariant needed blocks s c b)
    (still : s.pending.waiting ≡ []) (more : s.pending.pages_down + s.tail_down < size_of s.pending) where
  n : ℕ
  n = ring_at s.area s.pending.first (s.pending.pages_down + s.tail_down)

  q : ℕ
  q = size_of s.committed + (s.pending.pages_down + s.tail_down)

  at : n ≡ ring_at s.area s.committed.first q
  unfolding n q
  at = pending_place blocks s c b i (s.pending.pages_down + s.tail_down) (omega arith)

  up : size_of s.committed ≤ q
  unfolding q
  up = omega arith

  under : q < s.area
  unfolding q
  under = omega (arith, i.room)

  pub harmless_D : Harmless blocks s.area s.committed (sorted_write directory_down s c).block
  unfolding sorted_write n
  harmless_D = spot_harmless blocks s c b i n q at up under

  pub harmless_T : Harmless blocks s.area s.committed (sorted_write trailer_down s c).block
  unfolding sorted_write n
  harmless_T = spot_harmless blocks s c b i n q at up under

  x : List ℕ
  x = tail_block (suc s.commit) s.pending s.tail_down

  long : length x ≡ 512
  unfolding x
  long = tail_length (suc s.commit) s.pending s.tail_down

  pub long_D : length (sorted_write directory_down s c).bytes ≡ 512
  unfolding sorted_write x
  long_D = long

  pub long_T : length (sorted_write trailer_down s c).bytes ≡ 512
  unfolding sorted_write x
  long_T = long

  next_tail_down : (j : ℕ) → j < suc s.tail_down → Dec (j < s.tail_down)
      → block_at (put_block c n x) (ring_at s.area s.pending.first (s.pending.pages_down + j)) ≡ tail_block (suc s.commit) s.pending j
  unfolding n q x
  next_tail_down j h (yes l) = spot_tail_down blocks s c b i n q at up under x long (λ k m. omega arith) j l
  next_tail_down j h (no l) =
      let e : j ≡ s.tail_down = omega arith in
      rw e (spot_same blocks s c b i n q at up under x long)

  pub step_D : Invariant needed blocks (sorted_after directory_down s) (card_after directory_down s c) b
  unfolding sorted_write sorted_after n q x
  step_D = record {
    recoverable = spot_recoverable blocks s c b i n q at up under x long;
    half_pending = i.half_pending;
    half_current = i.half_current;
    seated = i.seated;
    pending_ok = i.pending_ok;
    current_ok = i.current_ok;
    pending_first_lem = i.pending_first_lem;
    current_first_lem = i.current_first_lem;
    room = i.room;
    limit = i.limit;
    tail_down_fits = omega arith;
    tail_down_after = λ h. still;
    tail_down_ok = λ j h. next_tail_down j h (dec_lt j s.tail_down);
    migrated_ok = spot_migrated blocks s c b i n q at up under x long;
    mark = λ u f l h t. rw (spot_stored_frames blocks s c b i n q at up under x long _ _ s.pending.dir i.pending_ok.inside (λ m p k. omega arith)) (i.mark u f l h t);
    now = λ u f l h t. rw (spot_stored_frames blocks s c b i n q at up under x long _ _ s.current.dir i.current_ok.inside (λ m p k. omega arith)) (i.now u f l h t);
  }

  pub step_T : Invariant needed blocks (sorted_after trailer_down s) (card_after trailer_down s c) b
  unfolding sorted_write sorted_after
  step_T = step_D
