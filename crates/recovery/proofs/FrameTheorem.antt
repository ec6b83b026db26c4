-- A start accepts every card that is stored, shows what is kept and follows the book, whatever bytes stand at the
-- homes of frames that are not needed; what each write puts down; and a state that follows is sound.
-- Assumes nothing.
use Prim.Native.Nat.{ℕ, ◌*◌, ◌/◌, ◌≤◌, ◌<◌}
use lib.ListN.{length}
use mathlib.Core.Bool.{true, false≢true}
use mathlib.Core.List.{List}
use mathlib.Core.Option.{some}
use mathlib.Core.Path.{◌≡◌, refl, ap, sym, ◌∙◌, subst}
use native.Mathlib.Omega.{arith}
use Rattle.card.proofs.AllLaws.{all_map}
use Rattle.card.proofs.BlockLaws.{block_length}
use Rattle.card.proofs.HeaderLaws.{HeaderBack, header_back}
use Rattle.card.proofs.RangeLaws.{geometry_tells, geometry_numbers}
use Rattle.card.specs.Block.{block_at, whole}
use Rattle.card.specs.Header.{header_block, header_on}
use Rattle.card.specs.Question.{first_no, header_ranges}
use Rattle.card.specs.Range.{Range, geometry_fits}
use Rattle.card.specs.Ring.{ring_at}
use Rattle.recovery.proofs.Accept.{start_accepts, accepted_card}
use Rattle.recovery.proofs.Calls.{start_ok, read_present, format_ok}
use Rattle.recovery.proofs.ContentsLaws.{overlay-first, overlay-whole, stored_whole}
use Rattle.recovery.proofs.Follows.{Stored, Follows, empty_ordered, sorted-empty, same_committed, Facts, FactsOf, due_facts, size_pending, size_current, count_pending}
use Rattle.recovery.proofs.GenerationLaws.{out_held}
use Rattle.recovery.proofs.Harmless.{harmless_left}
use Rattle.recovery.proofs.Invariant.{GenerationFits}
use Rattle.recovery.proofs.OrderedLaws.{oldest_is, long_waiting, same_count, some_waiting}
use Rattle.recovery.proofs.SizeLaws.{idle_size}
use Rattle.recovery.proofs.Sorted.{SortedGeneration, count_of, size_of, sorted_empty, sorted_generation, sorted, oldest, sorted_committed_on, sorted_start, recovered, sorted_read, next_home}
use Rattle.recovery.proofs.StepMove.{copies_kept}
use Rattle.recovery.proofs.WaitLaws.{oldest_frame}
use Rattle.recovery.specs.Book.{FrameBook, marked_or, book_start, Needs}
use Rattle.recovery.specs.Contents.{Contents, overlay, stored_frames}
use Rattle.recovery.specs.Directory.{by_frame, down_entries, dir_of, frame_of, waiting_from}
use Rattle.recovery.specs.Questions.{start_asks}
use Rattle.recovery.specs.Sound.{Ordered, Sound}
use Rattle.recovery.specs.State.{Generation, State, places, entry_count, committed_size, directory_of, waiting_frames, empty, read_frame, committed_frame}
use Rattle.recovery.specs.Step.{page, migration, oldest_bytes, next_migration, advance_due, start_committed, start_state}

-- ---- a card that a start accepts, and one that a format has left

-- every frame is needed, where nothing is to be said of the layer above
abbrev pub all_needed : Needs
all_needed v f = true

-- a card that start accepts shows what is read of it then
pub accepted_stored : {needed : Needs} (m c : List ℕ) → first_no (start_asks m c) ≡ 0 → Stored needed (length c / 512) (header_on (block_at c 0)).area (header_ranges (header_on (block_at c 0))) c (read_frame (start_state m c) c)
unfolding read_frame start_state recovered sorted_committed_on overlay empty waiting_frames directory_of stored_frames dir_of down_entries by_frame waiting_from
accepted_stored m c ok = ((header_on (block_at c 0)).commit, sorted_committed_on c, accepted_card m c ok)

-- a card with the header that a format writes shows its home blocks
pub format_stored : {needed : Needs} (blocks area : ℕ) (ranges : List Range) (c : List ℕ) → length c ≡ 512 * blocks → 11 ≤ blocks → blocks ≤ 65536 → geometry_fits blocks area ranges ≡ true
    → block_at c 0 ≡ header_block 0 0 area ranges → Stored needed blocks area ranges c (block_at c)
format_stored blocks area ranges c whole many small geo head =
    let t = geometry_tells blocks area ranges geo in
    let says : HeaderBack 0 0 area ranges (header_on (block_at c 0)) =
    rw head (header_back 0 0 area ranges (omega arith) (omega arith) (omega (arith, t.area_high)) (geometry_numbers blocks area ranges geo small) t.few) in (
      0,
      sorted_empty 1,
      format_ok blocks area ranges c whole (omega (arith, t.full)) many small geo
          (record { layout_is = says.layout_is; commit_is = says.commit_is; area_is = says.area_is; ranges_is = says.ranges_is }) says.trailer_is,
    )

sorted_start_lem : (m c : List ℕ) → sorted (start_state m c) ≡ sorted_start (length m / 512) c
unfolding start_state sorted_start sorted_committed_on
sorted_start_lem m c =
    rw (
      sorted-empty (header_on (block_at c 0)).area (ring_at (header_on (block_at c 0)).area (start_committed c).first (committed_size (start_committed c))),
      same_committed (start_committed c),
    )

module _ {needed : Needs} (blocks area : ℕ) (ranges : List Range) where
  -- every kept frame that is needed is a whole block
  pub stored_long : (c : List ℕ) (kept : Contents) → Stored needed blocks area ranges c kept → (f : ℕ) → area < f → f < blocks → needed kept f ≡ true → length (kept f) ≡ 512
  stored_long c kept k f l h t =
      rw (← (k.2.view f l h t)) (overlay-whole (stored_frames c k.1.dir) (block_at c) f
      (stored_whole c area blocks k.2.whole k.2.home k.1.dir (all_map _ _ k.1.dir (λ e p. p.1) k.2.inside))
      (block_length c f (omega (arith, k.2.whole))))

  pub stored_geometry : (c : List ℕ) (kept : Contents) → Stored needed blocks area ranges c kept → geometry_fits blocks area ranges ≡ true
  stored_geometry c kept k = k.2.geo

  -- any bytes at the homes of frames that are not needed: it is stored as before
  pub stored_any : (c : List ℕ) (kept : Contents) → Stored needed blocks area ranges c kept → (c' : List ℕ) → length c' ≡ length c
      → ((n : ℕ) → (area < n → needed kept n ≡ true) → block_at c' n ≡ block_at c n) → Stored needed blocks area ranges c' kept
  stored_any c kept k c' long same =
      (k.0, k.1, harmless_left blocks area ranges k.0 k.1 c kept k.2 c' long (same 0 (λ a. absurd (omega (arith, a)))) (λ n low bad need. same n need))

  -- start accepts it
  pub stored_accepts : (c : List ℕ) (kept : Contents) → Stored needed blocks area ranges c kept → (m : List ℕ) → whole 4 64 (length m) ≡ true → first_no (start_asks m c) ≡ 0
  stored_accepts c kept k m h = start_accepts blocks area ranges k.0 k.1 c kept k.2 m h

  -- the state after a start follows the book
  pub stored_start : (c : List ℕ) (b : FrameBook) → Stored needed blocks area ranges c b.kept → (m : List ℕ) → Follows needed blocks area ranges (start_state m c) c (book_start b)
  stored_start c b k m = record {
    blocks_is = unfold start_state in (omega (arith, k.2.whole));
    area_is = unfold start_state in k.2.head.area_is;
    ranges_is = unfold start_state in k.2.head.ranges_is;
    invariant = rw (sorted_start_lem m c) (start_ok blocks area ranges k.0 k.1 c b k.2 (length m / 512));
    pending_ordered = unfold start_state in (empty_ordered _);
    current_ordered = unfold start_state in (empty_ordered _);
    migrated_within = unfold start_state in (omega arith);
    flushed_after = unfold start_state in (λ p. absurd (false≢true p));
    owed_before = unfold start_state in (λ p. (refl, refl));
  }

  -- ---- read

  pub reads_present : (s : State) (c : List ℕ) (b : FrameBook) → Follows needed blocks area ranges s c b → (f : ℕ) → area < f → f < blocks → needed b.present f ≡ true → read_frame s c f ≡ b.present f
  unfolding read_frame sorted_read
  reads_present s c b i f l h t = read_present blocks (sorted s) c b i.invariant f (omega (arith, i.area_is)) h t

  -- what the committed generation shows is what is kept
  pub reads_committed : (s : State) (c : List ℕ) (b : FrameBook) → Follows needed blocks area ranges s c b → (f : ℕ) → area < f → f < blocks → needed b.kept f ≡ true → committed_frame s c f ≡ b.kept f
  unfolding committed_frame
  reads_committed s c b i f l h t = i.invariant.recoverable.view f (omega (arith, i.area_is)) h t

  module _ (s : State) (c : List ℕ) (b : FrameBook) (f : Follows needed blocks area ranges s c b) where
    -- ---- the bytes that are written

    module _ (g : Generation) (v w : Contents) (lo : ℕ) (ok : GenerationFits blocks s.area s.committed.first lo (sorted_generation s.area g)) (more : 0 < length g.waiting)
        (is : (x : ℕ) → s.area < x → x < blocks → overlay (waiting_frames g) v x ≡ w x) where
      waiting_bytes : oldest_bytes g.waiting ≡ w (frame_of g.pages_down g.entries)
      waiting_bytes =
          let long = some_waiting g more in
          let held = (out_held blocks s.area s.committed.first lo (sorted_generation s.area g) ok long).0 in
          oldest_is s.area g ∙ sym (overlay-first (waiting_frames g) v long) ∙ is (oldest (waiting_frames g)).frame held.1 held.2 ∙ ap w (oldest_frame g more)

    -- page-out writes what was marked, or else what is present; M writes what is kept
    pub pending_bytes : 0 < length s.pending.waiting → oldest_bytes s.pending.waiting ≡ marked_or b (frame_of s.pending.pages_down s.pending.entries)
    pending_bytes h = waiting_bytes s.pending (overlay (stored_frames c (directory_of s.area s.pending)) b.kept) (marked_or b) _ f.invariant.pending_ok h (λ x l k. f.invariant.mark b.kept x l k (λ q. refl))

    pub current_bytes : 0 < length s.current.waiting → oldest_bytes s.current.waiting ≡ b.present (frame_of s.current.pages_down s.current.entries)
    current_bytes h = waiting_bytes s.current (overlay (stored_frames c (directory_of s.area s.current)) (marked_or b)) b.present _ f.invariant.current_ok h (λ x l k. f.invariant.now (marked_or b) x l k (λ q. refl))

    pub home_bytes : s.migrated < length s.committed.entries → needed b.kept (next_migration s).frame ≡ true → block_at c (next_migration s).block ≡ b.kept (next_migration s).frame
    unfolding next_migration next_home
    home_bytes h = copies_kept blocks (sorted s) c b f.invariant h

    pub due_page : advance_due s ≡ some page → 0 < length s.pending.waiting
    due_page e = let h : Facts s page = subst (FactsOf s) e (due_facts s) in h.0

    pub due_migration : advance_due s ≡ some migration → s.migrated < length s.committed.entries
    due_migration e = let h : Facts s migration = subst (FactsOf s) e (due_facts s) in h.0

    -- ---- question 2's facts hold of every state that follows

    few_of : (g : Generation) → Ordered g → length (directory_of s.area g) ≤ g.pages_down → entry_count g ≤ places g
    unfolding places count_of
    few_of g o h = omega (arith, same_count s.area g o, long_waiting g)

    none_of : entry_count s.pending ≡ 0 → (places s.pending ≡ 0) × (s.tail_down ≡ 0)
    unfolding places count_of
    none_of e =
        let idle : count_of (sorted_generation s.area s.pending) ≡ 0 = sym (count_pending f) ∙ e in
        let none_size : size_of (sorted_generation s.area s.pending) ≡ 0 = idle_size (sorted_generation s.area s.pending) idle in
        (omega (arith, f.invariant.tail_down_fits, long_waiting s.pending), omega (arith, f.invariant.tail_down_fits))

    pub follows_sound : Sound s
    follows_sound = record {
      geometry = rw f.blocks_is f.invariant.recoverable.geo;
      none_committed = λ e. let q = f.invariant.recoverable.fresh e in
          (ap (λ (g : SortedGeneration). length g.dir) q, ap (λ (g : SortedGeneration). g.pages_down) q, ap (λ (g : SortedGeneration). g.first) q);
      some_committed = λ h. (f.invariant.recoverable.there h).some_named;
      commit_limit = λ h. f.invariant.limit (omega (arith, count_pending f));
      committed_home = rw f.blocks_is f.invariant.recoverable.named;
      committed_rising = f.invariant.recoverable.rising;
      committed_inside = f.invariant.recoverable.inside;
      pending_home = rw f.blocks_is (f.invariant.pending_ok.named, f.invariant.pending_ok.held);
      current_home = rw f.blocks_is (f.invariant.current_ok.named, f.invariant.current_ok.held);
      pending_ordered = f.pending_ordered;
      current_ordered = f.current_ordered;
      pending_first_lem = rw (same_committed s.committed) f.invariant.pending_first_lem;
      current_first_lem = rw (same_committed s.committed, size_pending f) f.invariant.current_first_lem;
      halves = rw (same_committed s.committed, size_pending f, size_current f) (f.invariant.recoverable.half, f.invariant.half_pending, f.invariant.half_current);
      together = rw (same_committed s.committed, size_pending f, size_current f) f.invariant.room;
      seated = omega (arith, f.invariant.seated, long_waiting s.pending, long_waiting s.current);
      migrated_within = f.migrated_within;
      tail_within = rw (size_pending f) f.invariant.tail_down_fits;
      tail_after = λ h. sym (long_waiting s.pending) ∙ ap length (f.invariant.tail_down_after h);
      flushed_after = f.flushed_after;
      owed_before = f.owed_before;
      committed_few = f.invariant.recoverable.few;
      pending_few = few_of s.pending f.pending_ordered f.invariant.pending_ok.few;
      current_few = few_of s.current f.current_ordered f.invariant.current_ok.few;
      none_pending = none_of;
    }
