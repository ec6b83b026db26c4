-- The calls that write nothing, and start.
-- Assumes nothing.
use Prim.Native.Nat.{ℕ, zero, suc, ◌+◌, ◌*◌, ◌/◌, ◌≤◌, ◌<◌}
use borrow.Author.Tests.{ne_eqb}
use lib.Dec.{eqb}
use lib.ListN.{length}
use mathlib.Core.Bool.{true, false}
use mathlib.Core.List.{List, [], ◌∷◌}
use mathlib.Core.Logic.{◌≢◌, ◌⊎◌, inl, inr}
use mathlib.Core.Path.{◌≡◌, refl, ap, sym, ◌∙◌}
use native.Mathlib.Decide.{ℕ_discrete}
use native.Mathlib.Omega.{arith}
use Rattle.card.proofs.AllLaws.{all_map}
use Rattle.card.proofs.RangeLaws.{geometry_tells}
use Rattle.card.proofs.RingLaws.{on_on}
use Rattle.card.proofs.Test.{by_test}
use Rattle.card.specs.Block.{block_at}
use Rattle.card.specs.Bytes.{tabulate, All}
use Rattle.card.specs.Directory.{read_dir}
use Rattle.card.specs.Header.{header_on}
use Rattle.card.specs.Question.{committed_on, entries_on}
use Rattle.card.specs.Range.{Range, geometry_fits}
use Rattle.card.specs.Ring.{ring_at}
use Rattle.card.specs.declared.directory.Entry.{Entry}
use Rattle.recovery.proofs.ContentsLaws.{overlay_base, overlay_hides, overlay-queue_change, once-queue_change, overlay_remove, all_remove, remove_absent, length_remove}
use Rattle.recovery.proofs.Invariant.{Headed, Tail, Recoverable, Invariant, fresh, fresh_same, fresh-needed, fresh-told}
use Rattle.recovery.proofs.SizeLaws.{idle_size, empty-size, pages_down_below, idle_dir, idle_waiting}
use Rattle.recovery.proofs.Sorted.{without_frame, queue_change, Once, Absent, SortedGeneration, count_of, size_of, Sorted, sorted_empty, sorted_committed_on, sorted_start, sorted_read, queue_all, without_all, sorted_change, sorted_snapshot, Without}
use Rattle.recovery.specs.Book.{FrameBook, marked_or, apply_changes, book_change, book_snapshot, book_start, WholeFrame, Needs, Brings}
use Rattle.recovery.specs.Contents.{Contents, FrameBytes, overlay, stored_frames}
use Rattle.recovery.specs.Sound.{Rising}
use Rattle.recovery.specs.Step.{start_committed}

-- ---- a change

pub apply_changes_same : (us : List FrameBytes) (u v : Contents) (x : ℕ) → u x ≡ v x → apply_changes us u x ≡ apply_changes us v x
unfolding apply_changes
apply_changes_same [] u v x h = h
apply_changes_same (y ∷ ys) u v x h = apply_changes_same ys (overlay (y ∷ []) u) (overlay (y ∷ []) v) x (overlay_base (y ∷ []) u v x h)

overlay_front : (w : FrameBytes) (q : List FrameBytes) (a : Contents) (f : ℕ) → overlay (w ∷ q) a f ≡ overlay (w ∷ []) (overlay q a) f
unfolding overlay
overlay_front w q a f = refl

-- the frame waits now: its entry is hidden, and goes
overlay_again : (w : FrameBytes) (q : List FrameBytes) (c : List ℕ) (es : List Entry) (a : Contents) (f : ℕ)
    → overlay (queue_change w q) (overlay (stored_frames c (without_frame w.frame es)) a) f ≡ overlay (w ∷ []) (overlay q (overlay (stored_frames c es) a)) f
overlay_again w q c es a f = overlay-queue_change w q _ f ∙ overlay_front w q _ f ∙ go (ℕ_discrete f w.frame)
  where
    go : Dec (f ≡ w.frame) → overlay (w ∷ []) (overlay q (overlay (stored_frames c (without_frame w.frame es)) a)) f ≡ overlay (w ∷ []) (overlay q (overlay (stored_frames c es) a)) f
    go (yes e) = overlay_hides (w ∷ []) _ _ f (λ n. n.0 e)
    go (no d) = overlay_base (w ∷ []) _ _ f (overlay_base q _ _ f (overlay_remove c w.frame es a f d))

-- queued one after the other, changes show as the book has them
pub overlay_all : (ws q : List FrameBytes) (c : List ℕ) (es : List Entry) (a : Contents) (f : ℕ) → overlay (queue_all ws q) (overlay (stored_frames c (without_all ws es)) a) f ≡ apply_changes ws (overlay q (overlay (stored_frames c es) a)) f
unfolding queue_all without_all apply_changes
overlay_all [] q c es a f = refl
overlay_all (w ∷ ws) q c es a f = overlay_all ws (queue_change w q) c (without_frame w.frame es) a f ∙ apply_changes_same ws _ _ f (overlay_again w q c es a f)

all_without_all : (P : Entry → Type 0) (ws : List FrameBytes) (es : List Entry) → All P es → All P (without_all ws es)
unfolding without_all
all_without_all P [] es h = h
all_without_all P (w ∷ ws) es h = all_without_all P ws (without_frame w.frame es) (all_remove P w.frame es h)

pub rising_remove : (f : ℕ) (es : List Entry) → Rising es → Rising (without_frame f es)
unfolding without_frame
rising_remove f [] h = tt
rising_remove f (e ∷ es) h = by_test Rising (eqb f e.frame) (λ q. rising_remove f es h.1) (λ q. (all_remove (λ x. e.frame < x.frame) f es h.0, rising_remove f es h.1))

rising_without_all : (ws : List FrameBytes) (es : List Entry) → Rising es → Rising (without_all ws es)
unfolding without_all
rising_without_all [] es h = h
rising_without_all (w ∷ ws) es h = rising_without_all ws (without_frame w.frame es) (rising_remove w.frame es h)

few_without_all : (ws : List FrameBytes) (es : List Entry) (n : ℕ) → length es ≤ n → length (without_all ws es) ≤ n
unfolding without_all
few_without_all [] es n h = h
few_without_all (w ∷ ws) es n h = few_without_all ws (without_frame w.frame es) n (omega (arith, length_remove w.frame es))

some_queue_change : (w : FrameBytes) (q : List FrameBytes) → 1 ≤ length (queue_change w q)
unfolding queue_change
some_queue_change w [] = omega arith
some_queue_change w (x ∷ xs) = by_test (λ (l : List FrameBytes). 1 ≤ length l) (eqb w.frame x.frame) {x = w ∷ xs} {y = x ∷ queue_change w xs} (λ e. omega arith) (λ e. omega arith)

some_all : (ws q : List FrameBytes) (es : List Entry) → 1 ≤ length es + length q → 1 ≤ length (without_all ws es) + length (queue_all ws q)
unfolding without_all queue_all
some_all [] q es h = h
some_all (w ∷ ws) q es h = some_all ws (queue_change w q) (without_frame w.frame es) (omega (arith, some_queue_change w q))

once_all : (ws q : List FrameBytes) → Once q → Once (queue_all ws q)
unfolding queue_all
once_all [] q h = h
once_all (w ∷ ws) q h = once_all ws (queue_change w q) (once-queue_change w q h)

all_queue_change : (P : FrameBytes → Type 0) (w : FrameBytes) (q : List FrameBytes) → P w → All P q → All P (queue_change w q)
unfolding queue_change
all_queue_change P w [] p h = (p, tt)
all_queue_change P w (x ∷ xs) p h = by_test (All P) (eqb w.frame x.frame) (λ e. (p, h.1)) (λ e. (h.0, all_queue_change P w xs p h.1))

held_all : (P : FrameBytes → Type 0) (ws q : List FrameBytes) → All P ws → All P q → All P (queue_all ws q)
unfolding queue_all
held_all P [] q k h = h
held_all P (w ∷ ws) q k h = held_all P ws (queue_change w q) k.1 (all_queue_change P w q k.0 h)

apart_all : (ws q : List FrameBytes) (es : List Entry) → All (λ w. Absent w.frame es) q → All (λ w. Absent w.frame (without_all ws es)) (queue_all ws q)
unfolding without_all queue_all
apart_all [] q es h = h
apart_all (w ∷ ws) q es h = apart_all ws (queue_change w q) (without_frame w.frame es)
    (all_queue_change (λ v. Absent v.frame (without_frame w.frame es)) w q (remove_absent w.frame es)
    (all_map (λ v. Absent v.frame es) (λ v. Absent v.frame (without_frame w.frame es)) q (λ v a. all_remove (λ e. v.frame ≢ e.frame) w.frame es a) h))

-- a change hides a frame, or has not got it
apply_changes_cases : (ws : List FrameBytes) (f : ℕ) → Without f ws ⊎ ((u v : Contents) → apply_changes ws u f ≡ apply_changes ws v f)
unfolding apply_changes
apply_changes_cases [] f = inl tt
apply_changes_cases (w ∷ ws) f = go (ℕ_discrete f w.frame) (apply_changes_cases ws f)
  where
    go : Dec (f ≡ w.frame) → Without f ws ⊎ ((u v : Contents) → apply_changes ws u f ≡ apply_changes ws v f) → Without f (w ∷ ws) ⊎ ((u v : Contents) → apply_changes ws (overlay (w ∷ []) u) f ≡ apply_changes ws (overlay (w ∷ []) v) f)
    go (yes e) r = inr (λ u v. apply_changes_same ws _ _ f (overlay_hides (w ∷ []) u v f (λ n. n.0 e)))
    go (no d) (inl k) = inl (d, k)
    go (no d) (inr k) = inr (λ u v. k (overlay (w ∷ []) u) (overlay (w ∷ []) v))

-- a change for which there is room
pub call_change : {needed : Needs} (blocks : ℕ) (s : Sorted) (c : List ℕ) (b : FrameBook) (ws : List FrameBytes) → Invariant needed blocks s c b → All (WholeFrame s.area blocks) ws → Brings needed s.area blocks ws b.present
    → size_of (sorted_change ws s).current ≤ s.area / 2 → size_of s.committed + size_of s.pending + size_of (sorted_change ws s).current ≤ s.area
    → length s.pending.waiting + length (sorted_change ws s).current.waiting ≤ s.memory_frames → Invariant needed blocks (sorted_change ws s) c (book_change ws b)
unfolding sorted_change count_of
call_change {needed} blocks s c b ws i frames brings half room seated =
    record {
      recoverable = i.recoverable;
      half_pending = i.half_pending;
      half_current = half;
      seated = seated;
      pending_ok = i.pending_ok;
      current_ok = record {
        inside = all_without_all _ ws s.current.dir i.current_ok.inside;
        named = all_without_all _ ws s.current.dir i.current_ok.named;
        rising = rising_without_all ws s.current.dir i.current_ok.rising;
        few = few_without_all ws s.current.dir s.current.pages_down i.current_ok.few;
        any = λ h. some_all ws s.current.waiting s.current.dir (i.current_ok.any h);
        once = once_all ws s.current.waiting i.current_ok.once;
        held = held_all (WholeFrame s.area blocks) ws s.current.waiting frames i.current_ok.held;
        apart = apart_all ws s.current.waiting s.current.dir i.current_ok.apart;
      };
      pending_first_lem = i.pending_first_lem;
      current_first_lem = i.current_first_lem;
      room = room;
      limit = i.limit;
      tail_down_fits = i.tail_down_fits;
      tail_down_after = i.tail_down_after;
      tail_down_ok = i.tail_down_ok;
      migrated_ok = i.migrated_ok;
      mark = i.mark;
      now = λ u f l h e. overlay_all ws s.current.waiting c s.current.dir u f ∙ go u f l h e (apply_changes_cases ws f);
    }
  where
    -- a frame that the change has not got is needed after it only if it was before
    go : (u : Contents) (f : ℕ) → s.area < f → f < blocks → (fresh needed (marked_or b) (apply_changes ws b.present) f ≡ false → u f ≡ marked_or b f)
        → Without f ws ⊎ ((u v : Contents) → apply_changes ws u f ≡ apply_changes ws v f)
        → apply_changes ws (overlay s.current.waiting (overlay (stored_frames c s.current.dir) u)) f ≡ apply_changes ws b.present f
    go u f l h e (inr k) = k _ _
    go u f l h e (inl k) = apply_changes_same ws _ b.present f (i.now u f l h (λ q. e (fresh-told needed (marked_or b) (apply_changes ws b.present) f
        (λ t. fresh-needed needed (marked_or b) b.present f q (brings f l h k t)))))

-- ---- a snapshot

pub call_mark : {needed : Needs} (blocks : ℕ) (s : Sorted) (c : List ℕ) (b : FrameBook) → Invariant needed blocks s c b → count_of s.pending ≡ 0 → s.commit < 4294967295 → Invariant needed blocks (sorted_snapshot s) c (book_snapshot b)
unfolding sorted_snapshot overlay stored_frames
call_mark {needed} blocks s c b i idle under =
    let none_size : size_of s.pending ≡ 0 = idle_size s.pending idle in
    let no-dir : s.pending.dir ≡ [] = idle_dir s.pending idle in
    let no-wait : s.pending.waiting ≡ [] = idle_waiting s.pending idle in
    let lo : size_of s.committed + size_of s.pending ≡ size_of s.committed = omega arith in
    let at : s.current.first ≡ ring_at s.area s.committed.first (size_of s.committed) = rw lo at i.current_first_lem in
    let nil : size_of (sorted_empty (ring_at s.area s.current.first (size_of s.current))) ≡ 0 = empty-size (ring_at s.area s.current.first (size_of s.current)) in
    record {
      recoverable = i.recoverable;
      half_pending = i.half_current;
      half_current = omega arith;
      seated = omega (arith, i.seated);
      pending_ok = rw lo at i.current_ok;
      current_ok = record { inside = tt; named = tt; rising = tt; few = omega arith; any = λ k. absurd (omega arith); once = tt; held = tt; apart = tt };
      pending_first_lem = at;
      current_first_lem = ap (λ (x : ℕ). ring_at s.area x (size_of s.current)) at ∙ on_on s.area s.committed.first i.recoverable.low i.recoverable.high (size_of s.committed) (size_of s.current) (omega (arith, i.room));
      room = omega (arith, i.room);
      limit = λ h. under;
      tail_down_fits = omega (arith, pages_down_below s.current i.current_ok.any);
      tail_down_after = λ h. absurd (omega arith);
      tail_down_ok = λ j h. absurd (omega arith);
      migrated_ok = i.migrated_ok;
      mark = λ u f l h e. i.now u f l h (λ q. rw (no-wait, no-dir) at (i.mark u f l h
          (λ r. e (fresh-told needed b.kept b.present f (λ t. fresh-needed needed b.kept (marked_or b) f r (fresh-needed needed (marked_or b) b.present f q t))))));
      now = λ u f l h e. e (fresh_same needed b.present f);
    }

-- ---- start

quiet_gen : (g : SortedGeneration) → g.waiting ≡ [] → g ≡ record { first = g.first; pages_down = g.pages_down; dir = g.dir; waiting = [] }
quiet_gen g h = λ j. record { first = g.first; pages_down = g.pages_down; dir = g.dir; waiting = h j }

-- what a start reads of a recoverable card is its committed generation
pub committed_read : {needed : Needs} (blocks area : ℕ) (ranges : List Range) (commit : ℕ) (g : SortedGeneration) (c : List ℕ) (kept : Contents) → Recoverable needed blocks area ranges commit g c kept → sorted_committed_on c ≡ g
unfolding sorted_committed_on start_committed committed_on entries_on read_dir tabulate
committed_read blocks area ranges commit g c kept k = go commit refl
  where
    go : (m : ℕ) → commit ≡ m → sorted_committed_on c ≡ g
    go zero e = rw (k.head.commit_is, e) (sym (k.fresh e))
    go (suc m) e =
        let t : Tail c area commit g = k.there (omega arith) in
        rw (k.head.commit_is, ne_eqb commit 0 (omega arith), t.place_is, t.trailer_is, k.head.area_is, t.dir_is)
        (sym (quiet_gen g k.quiet))

pub start_ok : {needed : Needs} (blocks area : ℕ) (ranges : List Range) (commit : ℕ) (g : SortedGeneration) (c : List ℕ) (b : FrameBook) → Recoverable needed blocks area ranges commit g c b.kept → (memory_frames : ℕ) → Invariant needed blocks (sorted_start memory_frames c) c (book_start b)
unfolding sorted_start overlay stored_frames count_of
start_ok {needed} blocks area ranges commit g c b k memory_frames =
    rw (k.head.area_is, committed_read blocks area ranges commit g c b.kept k, k.head.commit_is, k.head.ranges_is)
    (let nil : size_of (sorted_empty (ring_at area g.first (size_of g))) ≡ 0 = empty-size (ring_at area g.first (size_of g)) in
    let sum : size_of g + size_of (sorted_empty (ring_at area g.first (size_of g))) ≡ size_of g = omega arith in
    record {
      recoverable = k;
      half_pending = omega arith;
      half_current = omega arith;
      seated = omega arith;
      pending_ok = record { inside = tt; named = tt; rising = tt; few = omega arith; any = λ k. absurd (omega arith); once = tt; held = tt; apart = tt };
      current_ok = record { inside = tt; named = tt; rising = tt; few = omega arith; any = λ k. absurd (omega arith); once = tt; held = tt; apart = tt };
      pending_first_lem = refl;
      current_first_lem = rw sum;
      room = omega (arith, k.fits);
      limit = λ h. absurd (omega arith);
      tail_down_fits = omega arith;
      tail_down_after = λ h. refl;
      tail_down_ok = λ j h. absurd (omega arith);
      migrated_ok = tt;
      mark = λ u f l h e. e (fresh_same needed b.kept f);
      now = λ u f l h e. e (fresh_same needed b.kept f);
    })

-- ---- read

pub read_present : {needed : Needs} (blocks : ℕ) (s : Sorted) (c : List ℕ) (b : FrameBook) → Invariant needed blocks s c b → (f : ℕ) → s.area < f → f < blocks
    → needed b.present f ≡ true → sorted_read s c f ≡ b.present f
unfolding sorted_read
read_present {needed} blocks s c b i f l h t =
    i.now _ f l h (λ q. i.mark _ f l h
    (λ r. i.recoverable.view f l h (fresh-needed needed b.kept (marked_or b) f r (fresh-needed needed (marked_or b) b.present f q t))))

-- ---- a formatted card

-- a card with the header that a format writes
pub format_ok : {needed : Needs} (blocks area : ℕ) (ranges : List Range) (c : List ℕ) → length c ≡ 512 * blocks → area < blocks → 11 ≤ blocks → blocks ≤ 65536
    → geometry_fits blocks area ranges ≡ true → Headed c 0 area ranges → (header_on (block_at c 0)).trailer ≡ 0 → Recoverable needed blocks area ranges 0 (sorted_empty 1) c (block_at c)
unfolding overlay stored_frames
format_ok blocks area ranges c whole home many small geo head unset =
    let t = geometry_tells blocks area ranges geo in
    record {
      whole = whole;
      home = home;
      many = many;
      small = small;
      geo = geo;
      low = omega arith;
      high = omega (arith, t.area_low);
      fits = omega (arith, empty-size 1);
      half = omega (arith, empty-size 1);
      few = omega arith;
      any = λ h. absurd (omega arith);
      quiet = refl;
      inside = tt;
      named = tt;
      rising = tt;
      head = head;
      unset = λ e. unset;
      fresh = λ e. refl;
      there = λ h. absurd (omega arith);
      view = λ f l h t. refl;
    }
