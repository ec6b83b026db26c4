-- The header write: the pending generation becomes the committed one, and what was marked is kept.
-- Assumes nothing.
use mathlib.Core.Bool.{true}
use Prim.Native.Nat.{ℕ, suc, ◌+◌, ◌*◌, ◌≤◌, ◌<◌}
use lib.ListN.{length}
use lib.Seq.{take_all}
use mathlib.Core.List.{List, []}
use mathlib.Core.Path.{◌≡◌, refl, sym, ◌∙◌, subst}
use native.Mathlib.Nat.{add-zero}
use native.Mathlib.Omega.{arith}
use Rattle.card.proofs.AllLaws.{all_map, all_both}
use Rattle.card.proofs.BlockLaws.{put_length, put_same, put_other}
use Rattle.card.proofs.DirectoryLaws.{FitsEntry, read_back}
use Rattle.card.proofs.HeaderLaws.{header_length, HeaderBack, header_back}
use Rattle.card.proofs.RangeLaws.{geometry_tells, geometry_numbers}
use Rattle.card.proofs.RingLaws.{on_in, from_shift}
use Rattle.card.proofs.TrailerLaws.{trailer_back}
use Rattle.card.specs.Block.{block_at, put_block}
use Rattle.card.specs.Bytes.{All}
use Rattle.card.specs.Header.{header_block, header_on}
use Rattle.card.specs.Ring.{ring_at, dir_blocks}
use Rattle.card.specs.Trailer.{trailer_block}
use Rattle.card.specs.declared.directory.Entry.{Entry}
use Rattle.recovery.proofs.ContentsLaws.{stored_frames_same, overlay_without}
use Rattle.recovery.proofs.GenerationLaws.{home_kept}
use Rattle.recovery.proofs.Invariant.{Tail, Recoverable, Invariant, fresh_same, fresh-needed}
use Rattle.recovery.proofs.SizeLaws.{quiet_count, quiet_size, empty-size}
use Rattle.recovery.proofs.Sorted.{count_of, size_of, Sorted, sorted_empty, trailer_of, tail_block, trailer_at, header_down, sorted_write, card_after, sorted_after}
use Rattle.recovery.proofs.TailLaws.{tail_dir, tail_trailer}
use Rattle.recovery.proofs.Writes.{pending_place}
use Rattle.recovery.specs.Book.{FrameBook, marked_or, book_header, Needs}
use Rattle.recovery.specs.Contents.{overlay, stored_frames}
use Rattle.recovery.specs.Sound.{Home, Between}

-- counted from a first block s places further on
pub shift : (area first s lo hi lo' hi' : ℕ) → 1 ≤ first → first ≤ area → s + lo' ≤ lo → hi ≤ s + hi'
    → (e : Entry) → Between area first lo hi e → Between area (ring_at area first s) lo' hi' e
shift area first s lo hi lo' hi' low high l h e p =
    let q = from_shift area first low high s e.block p.0 p.1 (omega arith) in
    (p.0, p.1, omega arith, omega arith)

module _ {needed : Needs} (blocks : ℕ) (s : Sorted) (c : List ℕ) (b : FrameBook) (i : Invariant needed blocks s c b)
    (some : 0 < count_of s.pending) (still : s.pending.waiting ≡ []) (all-tailDown : dir_blocks (length s.pending.dir) < s.tail_down) (all-migrated : length s.committed.dir ≤ s.migrated) where
  some_named : 1 ≤ length s.pending.dir
  some_named = omega (arith, quiet_count s.pending still)

  long_size : size_of s.pending ≡ s.pending.pages_down + dir_blocks (length s.pending.dir) + 1
  long_size = quiet_size s.pending still some_named

  first_in : (1 ≤ s.pending.first) × (s.pending.first ≤ s.area)
  first_in = rw i.pending_first_lem (on_in s.area s.committed.first i.recoverable.low i.recoverable.high (size_of s.committed) (omega (arith, i.room)))

  spot_in : (k : ℕ) → k ≤ s.area → (1 ≤ ring_at s.area s.pending.first k) × (ring_at s.area s.pending.first k ≤ s.area)
  spot_in k h = on_in s.area s.pending.first first_in.0 first_in.1 k h

  trailer_in : (1 ≤ trailer_at s.area s.pending) × (trailer_at s.area s.pending ≤ s.area)
  unfolding trailer_at
  trailer_in = spot_in _ (omega (arith, long_size, i.room))

  few_ranges : length s.ranges ≤ 8
  few_ranges = (geometry_tells blocks s.area s.ranges i.recoverable.geo).few

  h : List ℕ
  h = header_block (suc s.commit) (trailer_at s.area s.pending) s.area s.ranges

  h_long : length h ≡ 512
  unfolding h
  h_long = header_length (suc s.commit) (trailer_at s.area s.pending) s.area s.ranges few_ranges

  fits : 512 * 0 + 512 ≤ length c
  fits = omega (arith, i.recoverable.whole, i.recoverable.home)

  d : List ℕ
  d = put_block c 0 h

  other : (m : ℕ) → 1 ≤ m → block_at d m ≡ block_at c m
  unfolding d
  other m k = put_other c 0 h h_long fits m (omega arith)

  head_is : block_at d 0 ≡ h
  unfolding d
  head_is = put_same c 0 h h_long fits

  small_area : s.area < 65536
  small_area = omega (arith, i.recoverable.home, i.recoverable.small)

  commit_fits : suc s.commit < 4294967296
  commit_fits = omega (arith, i.limit some)

  -- the pending generation's directory and trailer stand on the card
  tail_there : (j : ℕ) → j ≤ dir_blocks (length s.pending.dir) → block_at d (ring_at s.area s.pending.first (s.pending.pages_down + j)) ≡ tail_block (suc s.commit) s.pending j
  tail_there j k = other _ (spot_in (s.pending.pages_down + j) (omega (arith, long_size, i.room))).0 ∙ i.tail_down_ok j (omega arith)

  trailer_there : block_at d (trailer_at s.area s.pending) ≡ trailer_block (trailer_of (suc s.commit) s.pending)
  unfolding trailer_at
  trailer_there = tail_there (dir_blocks (length s.pending.dir)) (omega arith) ∙ tail_trailer (suc s.commit) s.pending

  all_fit : All FitsEntry s.pending.dir
  all_fit = all_both (Home s.area blocks) (Between s.area s.committed.first (size_of s.committed) (size_of s.committed + s.pending.pages_down)) FitsEntry s.pending.dir
      (λ e p q. (omega (arith, p, i.recoverable.small), omega (arith, q.1, small_area))) i.pending_ok.named i.pending_ok.inside

  says : HeaderBack (suc s.commit) (trailer_at s.area s.pending) s.area s.ranges (header_on h)
  unfolding h
  says = header_back (suc s.commit) (trailer_at s.area s.pending) s.area s.ranges commit_fits (omega (arith, trailer_in, small_area)) (omega (arith, small_area))
      (geometry_numbers blocks s.area s.ranges i.recoverable.geo i.recoverable.small) few_ranges

  new_tail : Tail d s.area (suc s.commit) s.pending
  new_tail = record {
    some_named = some_named;
    place_is = rw head_is says.trailer_is;
    trailer_is = rw trailer_there (trailer_back (trailer_of (suc s.commit) s.pending) commit_fits (omega (arith, first_in, small_area)) (omega (arith, long_size, i.room, small_area))
        (omega (arith, long_size, i.room, small_area)));
    dir_is = read_back d s.area s.pending.first s.pending.pages_down s.pending.dir all_fit
        (λ j k. tail_there j (omega arith) ∙ tail_dir (suc s.commit) s.pending j (omega arith));
  }

  same_stored_frames : (lo hi : ℕ) (dir : List Entry) → All (Between s.area s.committed.first lo hi) dir → stored_frames d dir ≡ stored_frames c dir
  same_stored_frames lo hi dir k = stored_frames_same c d dir
      (all_map (Between s.area s.committed.first lo hi) (λ e. block_at d e.block ≡ block_at c e.block) dir (λ e p. other e.block p.0) k)

  -- what migration left at home is what was kept, where it is needed
  home_is : (f : ℕ) → s.area < f → f < blocks → needed b.kept f ≡ true → block_at d f ≡ b.kept f
  home_is f l k t = other f (omega arith) ∙ home_kept (needed b.kept) c s.committed.dir (block_at c) b.kept f
      (rw (take_all s.migrated s.committed.dir all-migrated) at i.migrated_ok) t (i.recoverable.view f l k t)

  -- a frame that is needed now and was not is in the pending directory, which hides what is at home
  new_view : (f : ℕ) → s.area < f → f < blocks → needed (marked_or b) f ≡ true → overlay (stored_frames d s.pending.dir) (block_at d) f ≡ marked_or b f
  new_view f l k t =
      rw (same_stored_frames _ _ s.pending.dir i.pending_ok.inside)
      (sym (overlay_without s.pending.waiting (overlay (stored_frames c s.pending.dir) (block_at d)) f (rw still tt))
      ∙ i.mark (block_at d) f l k (λ e. home_is f l k (fresh-needed needed b.kept (marked_or b) f e t)))

  new_recoverable : Recoverable needed blocks s.area s.ranges (suc s.commit) s.pending d (marked_or b)
  unfolding h d
  new_recoverable = record {
    whole = put_length c 0 h h_long fits ∙ i.recoverable.whole;
    home = i.recoverable.home;
    many = i.recoverable.many;
    small = i.recoverable.small;
    geo = i.recoverable.geo;
    low = first_in.0;
    high = first_in.1;
    fits = omega (arith, i.room);
    quiet = still;
    inside = rw i.pending_first_lem (all_map (Between s.area s.committed.first (size_of s.committed) (size_of s.committed + s.pending.pages_down)) _ s.pending.dir
        (shift s.area s.committed.first (size_of s.committed) _ _ 0 s.pending.pages_down i.recoverable.low i.recoverable.high (omega arith) (omega arith)) i.pending_ok.inside);
    named = i.pending_ok.named;
    rising = i.pending_ok.rising;
    half = i.half_pending;
    few = i.pending_ok.few;
    any = i.pending_ok.any;
    head = record {
      layout_is = rw head_is says.layout_is;
      commit_is = rw head_is says.commit_is;
      area_is = rw head_is says.area_is;
      ranges_is = rw head_is says.ranges_is;
    };
    unset = λ e. absurd (omega arith);
    fresh = λ e. absurd (omega arith);
    there = λ k. new_tail;
    view = new_view;
  }

  pub recoverable_H : Recoverable needed blocks s.area s.ranges (suc s.commit) s.pending (card_after header_down s c) (book_header b).kept
  unfolding sorted_write h d
  recoverable_H = new_recoverable

  pub long_H : length (sorted_write header_down s c).bytes ≡ 512
  unfolding sorted_write h
  long_H = h_long

  current_at : s.current.first ≡ ring_at s.area s.pending.first (size_of s.pending)
  current_at = i.current_first_lem ∙ sym (pending_place blocks s c b i (size_of s.pending) (omega arith))

  pub step_H : Invariant needed blocks (sorted_after header_down s) (card_after header_down s c) (book_header b)
  unfolding sorted_write sorted_after h d overlay stored_frames count_of
  step_H =
      let none : size_of (sorted_empty s.current.first) ≡ 0 = empty-size s.current.first in
      record {
        recoverable = new_recoverable;
        half_pending = omega arith;
        half_current = i.half_current;
        seated = omega (arith, i.seated);
        pending_ok = record { inside = tt; named = tt; rising = tt; few = omega arith; any = λ k. absurd (omega arith); once = tt; held = tt; apart = tt };
        current_ok = record {
          inside = subst (λ (x : ℕ). All (Between s.area x (size_of s.pending + size_of (sorted_empty s.current.first)) (size_of s.pending + size_of (sorted_empty s.current.first) + s.current.pages_down)) s.current.dir)
              (sym i.pending_first_lem) (all_map (Between s.area s.committed.first (size_of s.committed + size_of s.pending) (size_of s.committed + size_of s.pending + s.current.pages_down)) _ s.current.dir
              (shift s.area s.committed.first (size_of s.committed) _ _ _ _ i.recoverable.low i.recoverable.high (omega arith) (omega arith)) i.current_ok.inside);
          named = i.current_ok.named;
          rising = i.current_ok.rising;
          few = i.current_ok.few;
          any = i.current_ok.any;
          once = i.current_ok.once;
          held = i.current_ok.held;
          apart = i.current_ok.apart;
        };
        pending_first_lem = current_at;
        current_first_lem = rw (none, add-zero) current_at;
        room = omega (arith, i.room);
        limit = λ k. absurd (omega arith);
        tail_down_fits = omega arith;
        tail_down_after = λ k. refl;
        tail_down_ok = λ j k. absurd (omega arith);
        migrated_ok = tt;
        mark = λ u f l k e. e (fresh_same needed (marked_or b) f);
        now = λ u f l k e. rw (same_stored_frames _ _ s.current.dir i.current_ok.inside) (i.now u f l k e);
      }
