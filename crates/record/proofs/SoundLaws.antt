-- A record that holds together means a sound state, and its waiting frames have a memory frame apiece.
-- Assumes nothing.
use Prim.Native.Nat.{ℕ, zero, suc, ◌+◌, ◌*◌, ◌≤◌, ◌<◌}
use borrow.Author.Tests.{eq-eqb, ne_eqb}
use lib.Dec.{ltb}
use lib.ListN.{length, get_or}
use mathlib.Core.Bool.{true, false≢true}
use mathlib.Core.List.{List, [], ◌∷◌, ◌++◌}
use mathlib.Core.Logic.{◌≢◌, ⊎_elim}
use mathlib.Core.Path.{◌≡◌, refl, ap, sym, ◌∙◌}
use native.Mathlib.Decide.{ℕ_discrete}
use native.Mathlib.Nat.{zero-add}
use native.Mathlib.Omega.{arith}
use Rattle.card.proofs.AllLaws.{all_tab, tab_all}
use Rattle.card.proofs.BlockLaws.{block_length}
use Rattle.card.proofs.BytesLaws.{tab_length, tab_append, tab_get_d}
use Rattle.card.proofs.DirectoryLaws.{entries_length}
use Rattle.card.proofs.RingLaws.{size_some, size_above, on_in, from_on, ring_high}
use Rattle.card.proofs.Test.{by_test, apart}
use Rattle.card.specs.Block.{block_at}
use Rattle.card.specs.Bytes.{tabulate, All}
use Rattle.card.specs.Directory.{entry_in, entries_of}
use Rattle.card.specs.Ring.{ring_at, generation_size, dir_blocks}
use Rattle.record.proofs.Held.{Listed, Held, held}
use Rattle.record.proofs.SeatLaws.{seat_low, seat_apiece}
use Rattle.record.specs.Holds.{tail_for, holds_together}
use Rattle.record.specs.Meaning.{size_of, waits, note_in, notes_of, committed_size_of, seat_at, queue_of, generation_of, committed_of, pending_first, current_first, phase_of, state_of}
use Rattle.record.specs.declared.store.Changes.{Changes}
use Rattle.record.specs.declared.store.Store.{Store}
use Rattle.recovery.proofs.ContentsLaws.{all_by_frame}
use Rattle.recovery.specs.Book.{WholeFrame}
use Rattle.recovery.specs.Directory.{Note, down_entries, dir_of, frame_of, waiting_from}
use Rattle.recovery.specs.Sound.{Unnoted, Rises, Holds, Ordered, Rising, Home, Between, Sound, Seated}
use Rattle.recovery.specs.State.{places, size, committed_size, directory_of, waiting_frames, is_owed, is_flushed}

-- ---- the notes of a generation

module _ (frames spots : List ℕ) where
  -- the frame of a place that stands at index t only
  frame_at : (k t i n : ℕ) → i ≤ t → t < i + n → get_or spots t 0 ≡ k → ((j : ℕ) → i ≤ j → j < i + n → get_or spots j 0 ≡ k → j ≡ t)
      → frame_of k (tabulate (note_in frames spots) i n) ≡ get_or frames t 0
  unfolding tabulate frame_of
  frame_at k t i zero a b e u = absurd (omega arith)
  frame_at k t i (suc n) a b e u = go (ℕ_discrete k (get_or spots i 0)) (λ c. frame_at k t (suc i) n c (omega arith) e (λ j p q r. u j (omega arith) (omega arith) r))
    where
      go : Dec (k ≡ get_or spots i 0) → (suc i ≤ t → frame_of k (tabulate (note_in frames spots) (suc i) n) ≡ get_or frames t 0) → frame_of k (tabulate (note_in frames spots) i (suc n)) ≡ get_or frames t 0
      go (yes q) rec = rw (eq-eqb k (get_or spots i 0) q) (ap (λ (j : ℕ). get_or frames j 0) (u i (omega arith) (omega arith) (sym q)))
      go (no d) rec = let other : i ≢ t = λ q. d (sym (ap (λ (j : ℕ). get_or spots j 0) q ∙ e)) in rw (ne_eqb k (get_or spots i 0) d) (rec (omega arith))

  rising_notes : (i n : ℕ) → ((j k : ℕ) → i ≤ j → j < k → k < i + n → get_or frames j 0 < get_or frames k 0) → Rises (tabulate (note_in frames spots) i n)
  unfolding tabulate
  rising_notes i zero h = tt
  rising_notes i (suc n) h =
      (all_tab (λ e. get_or frames i 0 < e.frame) (note_in frames spots) (suc i) n (λ k a b. h i k (omega arith) (omega arith) (omega arith)), rising_notes (suc i) n (λ j k a l b. h j k (omega arith) l (omega arith)))

pub rising_entries : (area first : ℕ) (frames spots : List ℕ) (i n : ℕ) → ((j k : ℕ) → i ≤ j → j < k → k < i + n → get_or frames j 0 < get_or frames k 0)
    → Rising (tabulate (entry_in area first frames spots) i n)
unfolding tabulate
rising_entries area first frames spots i zero h = tt
rising_entries area first frames spots i (suc n) h = (
  all_tab (λ e. get_or frames i 0 < e.frame) (entry_in area first frames spots) (suc i) n (λ k a b. h i k (omega arith) (omega arith) (omega arith)),
  rising_entries area first frames spots (suc i) n (λ j k a l b. h j k (omega arith) l (omega arith)),
)

pub notes_length : (g : Changes) → length (notes_of g) ≡ g.count
notes_length g = tab_length (note_in g.frames g.places) 0 g.count

module _ {area blocks : ℕ} {g : Changes} (h : Listed area blocks g) where
  -- the frame of a place that waits
  pub frame_is : (k t : ℕ) → g.down ≤ k → k < g.taken → t < g.count → get_or g.places t 0 ≡ k → frame_of k (notes_of g) ≡ get_or g.frames t 0
  frame_is k t a b c e =
      let p = h.stands k a b in
      frame_at g.frames g.places k t 0 g.count (omega arith) (omega arith) e (λ j x y q. p.3 j (omega arith) q ∙ sym (p.3 t c e))

  -- two entries of one frame are one
  pub same_index : (i j : ℕ) → i < g.count → j < g.count → get_or g.frames i 0 ≡ get_or g.frames j 0 → i ≡ j
  same_index i j a b e = go (ℕ_discrete i j)
    where
      go : Dec (i ≡ j) → i ≡ j
      go (yes q) = q
      go (no d) = absurd (⊎_elim (λ l. omega (arith, h.filed.rises i j l b, e)) (λ l. omega (arith, h.filed.rises j i l a, e)) (apart i j d))

  holder : (k : ℕ) → g.down ≤ k → k < g.taken → Holds (frame_of k (notes_of g)) k (notes_of g) × (Unnoted (frame_of k (notes_of g)) (notes_of g) → ⊥)
  holder k a b =
      let p = h.stands k a b in
      rw (frame_is k p.0 a b p.1 p.2) (
        all_tab (λ e. (e.frame ≡ get_or g.frames p.0 0 → e.place ≡ k) × (e.place ≡ k → e.frame ≡ get_or g.frames p.0 0)) (note_in g.frames g.places) 0 g.count
            (λ j c d. (
              λ q. ap (λ (i : ℕ). get_or g.places i 0) (same_index j p.0 (omega arith) p.1 q) ∙ p.2,
              λ q. ap (λ (i : ℕ). get_or g.frames i 0) (p.3 j (omega arith) q),
            )),
        λ u. tab_all (λ e. get_or g.frames p.0 0 ≢ e.frame) (note_in g.frames g.places) 0 g.count u p.0 (omega arith) (omega (arith, p.1)) refl,
      )

module _ (first : ℕ) (w : List (List ℕ)) (g : Changes) (long : length w ≡ waits g) (down : g.down ≤ g.taken) where
  pub places_is : places (generation_of first w g) ≡ g.taken
  unfolding places
  places_is = omega arith

  pub size_is : size (generation_of first w g) ≡ size_of g
  unfolding size
  size_is = cc (places_is, notes_length g)

  pub ordered : {area blocks : ℕ} → Listed area blocks g → Ordered (generation_of first w g)
  ordered h = record {
    rises = rising_notes g.frames g.places 0 g.count (λ i j a l b. h.filed.rises i j l (omega arith));
    taken = rw places_is (all_tab (λ e. e.place < g.taken) (note_in g.frames g.places) 0 g.count (λ i a b. h.filed.taken i (omega arith)));
    waits = λ k a b. holder h k a (omega (arith, places_is));
  }

-- ---- home frames

module _ (area blocks : ℕ) where
  down_home : (first put : ℕ) (es : List Note) → All (λ e. (area < e.frame) × (e.frame < blocks)) es → All (Home area blocks) (down_entries area first put es)
  unfolding down_entries
  down_home first put [] h = tt
  down_home first put (e ∷ es) h = by_test (All (Home area blocks)) (ltb e.place put) (λ t. (h.0, down_home first put es h.1)) (λ t. down_home first put es h.1)

  waiting_whole : (es : List Note) (k : ℕ) (xs : List (List ℕ)) → All (λ x. length x ≡ 512) xs
      → ((j : ℕ) → k ≤ j → j < k + length xs → (area < frame_of j es) × (frame_of j es < blocks)) → All (WholeFrame area blocks) (waiting_from es k xs)
  unfolding waiting_from
  waiting_whole es k [] h f = tt
  waiting_whole es k (x ∷ xs) h f = let p = f k (omega arith) (omega arith) in ((h.0, p.0, p.1), waiting_whole es (suc k) xs h.1 (λ j a b. f j (omega arith) (omega arith)))

  pub listed_home : (first : ℕ) (w : List (List ℕ)) (g : Changes) → length w ≡ waits g → All (λ x. length x ≡ 512) w → Listed area blocks g
      → All (Home area blocks) (directory_of area (generation_of first w g)) × All (WholeFrame area blocks) (waiting_frames (generation_of first w g))
  unfolding directory_of dir_of waiting_frames
  listed_home first w g long bytes h = (
    all_by_frame (Home area blocks) _ (down_home first g.down (notes_of g) (all_tab (λ e. (area < e.frame) × (e.frame < blocks)) (note_in g.frames g.places) 0 g.count (λ i a b. h.filed.home i (omega arith)))),
    waiting_whole (notes_of g) g.down w bytes (λ k a b. let p = h.stands k a (omega arith) in rw (frame_is h k p.0 a (omega arith) p.1 p.2) (h.filed.home p.0 p.1)),
  )

-- ---- a record that holds together

pub committed_size_lem : (s : Store) → committed_size (committed_of s) ≡ committed_size_of s
unfolding committed_size
committed_size_lem s = ap (generation_size s.pages) (entries_length s.geometry.area s.first s.committed.frames s.committed.places s.committed.count)

pub queue_length : (s : Store) (m : List ℕ) (i n : ℕ) → length (queue_of s m i n) ≡ n
queue_length s m i n = tab_length (λ k. block_at m (seat_at s.frames s.head k)) i n

module _ (s : Store) (h : Held s) where
  pub no_tail : s.pending.count ≡ 0 → s.tail ≡ 0
  unfolding tail_for
  no_tail z = omega (arith, rw (eq-eqb s.pending.count 0 z) at h.tail_within)

  pub tail_fits : s.pending.down + s.tail ≤ size_of s.pending
  unfolding tail_for
  tail_fits = go (ℕ_discrete s.pending.count 0)
    where
      go : Dec (s.pending.count ≡ 0) → s.pending.down + s.tail ≤ size_of s.pending
      go (yes z) = omega (arith, h.none_pending z, h.pending_down_lem, no_tail z)
      go (no z) = omega (arith, h.pending_down_lem, size_some s.pending.taken s.pending.count (omega arith), rw (ne_eqb s.pending.count 0 z) at h.tail_within)

  module _ (m : List ℕ) where
    pending_long : length (state_of s m).pending.waiting ≡ waits s.pending
    pending_long = queue_length s m 0 (waits s.pending)

    current_long : length (state_of s m).current.waiting ≡ waits s.current
    current_long = queue_length s m (waits s.pending) (waits s.current)

    pub pending_places : places (state_of s m).pending ≡ s.pending.taken
    pending_places = places_is (pending_first s) (state_of s m).pending.waiting s.pending pending_long h.pending_down_lem

    pub current_places : places (state_of s m).current ≡ s.current.taken
    current_places = places_is (current_first s) (state_of s m).current.waiting s.current current_long h.current_down_lem

    pub pending_size : size (state_of s m).pending ≡ size_of s.pending
    pending_size = size_is (pending_first s) (state_of s m).pending.waiting s.pending pending_long h.pending_down_lem

    pub current_size : size (state_of s m).current ≡ size_of s.current
    current_size = size_is (current_first s) (state_of s m).current.waiting s.current current_long h.current_down_lem

    -- every waiting frame has a block of bytes
    queue_whole : length m ≡ 512 * s.frames → (i n : ℕ) → i + n ≤ s.frames → All (λ x. length x ≡ 512) (queue_of s m i n)
    queue_whole long i n fits =
        all_tab (λ x. length x ≡ 512) (λ k. block_at m (seat_at s.frames s.head k)) i n
        (λ k a b. let c : seat_at s.frames s.head k < s.frames = seat_low s.frames s.head k h.head_low (omega arith) in block_length m (seat_at s.frames s.head k) (omega arith))

-- ---- how flushes stand

tail_some : (e : ℕ) → 0 < e → tail_for e ≡ dir_blocks e + 1
unfolding tail_for
tail_some e l = rw (ne_eqb e 0 (omega (arith, l)))

pub phase_flushed : (n : ℕ) → is_flushed (phase_of n) ≡ true → n ≡ 1
unfolding phase_of
phase_flushed n e = go (ℕ_discrete n 0) (ℕ_discrete n 1)
  where
    go : Dec (n ≡ 0) → Dec (n ≡ 1) → n ≡ 1
    go (yes z) q = absurd (false≢true (rw (eq-eqb n 0 z) at e))
    go (no d) (yes o) = o
    go (no d) (no o) = absurd (false≢true (rw (ne_eqb n 0 d, ne_eqb n 1 o) at e))

pub phase_owed : (n : ℕ) → n ≤ 2 → is_owed (phase_of n) ≡ true → n ≡ 2
unfolding phase_of
phase_owed n l e = go (ℕ_discrete n 0) (ℕ_discrete n 1)
  where
    go : Dec (n ≡ 0) → Dec (n ≡ 1) → n ≡ 2
    go (yes z) q = absurd (false≢true (rw (eq-eqb n 0 z) at e))
    go (no d) (yes o) = absurd (false≢true (rw (ne_eqb n 0 d, eq-eqb n 1 o) at e))
    go (no d) (no o) = omega (arith, l, d, o)

-- ---- the committed directory

module _ (s : Store) (h : Held s) where
  -- a place is below the area's length
  pub place_low : (i : ℕ) → i < s.committed.count → get_or s.committed.places i 0 < s.geometry.area
  place_low i l = omega (arith, h.committed.taken i l, h.half_committed, size_above s.pages s.committed.count (omega (arith, l)))

  -- a committed entry names a block of the area and a block of the card
  pub entry_inside : (i : ℕ) → i < s.committed.count
      → (ring_at s.geometry.area s.first (get_or s.committed.places i 0) ≤ s.geometry.area) × (get_or s.committed.frames i 0 < s.geometry.blocks)
  entry_inside i l = (ring_high s.geometry.area s.first (get_or s.committed.places i 0) h.first_high (omega (arith, place_low i l)), (h.committed.home i l).1)

  filed_home : All (Home s.geometry.area s.geometry.blocks) (committed_of s).entries
  unfolding entries_of
  filed_home = all_tab (Home s.geometry.area s.geometry.blocks) (entry_in s.geometry.area s.first s.committed.frames s.committed.places) 0 s.committed.count
      (λ i a b. h.committed.home i (omega arith))

  filed_inside : All (Between s.geometry.area s.first 0 s.pages) (committed_of s).entries
  unfolding entries_of
  filed_inside =
      all_tab (Between s.geometry.area s.first 0 s.pages) (entry_in s.geometry.area s.first s.committed.frames s.committed.places) 0 s.committed.count
      (λ i a b.
      let low = place_low i (omega arith) in
      let in_area_lem = on_in s.geometry.area s.first h.first_low h.first_high (get_or s.committed.places i 0) (omega (arith, low)) in
      let back = from_on s.geometry.area s.first h.first_low h.first_high (get_or s.committed.places i 0) low in
      (in_area_lem.0, in_area_lem.1, omega arith, omega (arith, back, h.committed.taken i (omega arith))))

  filed_rising : Rising (committed_of s).entries
  unfolding entries_of
  filed_rising = rising_entries s.geometry.area s.first s.committed.frames s.committed.places 0 s.committed.count (λ i j a l b. h.committed.rises i j l (omega arith))

-- the meaning of a record that passes question 2
pub sound : (s : Store) (m : List ℕ) → holds_together s ≡ true → length m ≡ 512 * s.frames → Sound (state_of s m)
sound s m q long =
    let h = held s q in
    let area = s.geometry.area in
    let blocks = s.geometry.blocks in
    let count : length (committed_of s).entries ≡ s.committed.count = entries_length area s.first s.committed.frames s.committed.places s.committed.count in
    let pending-count = notes_length s.pending in
    let current-count = notes_length s.current in
    let p = pending_long s h m in
    let c = current_long s h m in
    record {
      geometry = h.geometry;
      none_committed = λ z. let n = h.none_committed z in (count ∙ n.0, n.1, n.2);
      some_committed = λ l. rw count (h.some_committed l);
      commit_limit = λ l. h.commit_limit (omega arith);
      committed_home = filed_home s h;
      committed_rising = filed_rising s h;
      committed_inside = filed_inside s h;
      pending_home = listed_home area blocks (pending_first s) (state_of s m).pending.waiting s.pending p (queue_whole s h m long 0 (waits s.pending) (omega (arith, h.seated))) h.pending;
      current_home = listed_home area blocks (current_first s) (state_of s m).current.waiting s.current c (queue_whole s h m long (waits s.pending) (waits s.current) h.seated) h.current;
      pending_ordered = ordered (pending_first s) (state_of s m).pending.waiting s.pending p h.pending_down_lem h.pending;
      current_ordered = ordered (current_first s) (state_of s m).current.waiting s.current c h.current_down_lem h.current;
      pending_first_lem = rw (committed_size_lem s);
      current_first_lem = rw (committed_size_lem s, pending_size s h m);
      halves = rw (committed_size_lem s, pending_size s h m, current_size s h m) (h.half_committed, h.half_pending, h.half_current);
      together = rw (committed_size_lem s, pending_size s h m, current_size s h m) h.room;
      seated = rw (p, c) h.seated;
      migrated_within = rw count h.migrated_within;
      tail_within = rw (pending_size s h m) (tail_fits s h);
      tail_after = λ l. p ∙ h.tail_after l;
      flushed_after = λ e. let a = h.flushed_after (phase_flushed s.phase e) in
          let full : tail_for s.pending.count ≡ dir_blocks s.pending.count + 1 = tail_some s.pending.count a.0 in
          (rw pending-count a.0, p ∙ h.tail_after (omega (arith, a.1, full)), rw pending-count (omega (arith, a.1, full)), rw count a.2);
      owed_before = λ e. h.owed_before (phase_owed s.phase h.phase_known e);
      committed_few = rw count h.committed_few;
      pending_few = omega (arith, h.pending_few, pending_places s h m);
      current_few = omega (arith, h.current_few, current_places s h m);
      none_pending = λ z. (pending_places s h m ∙ h.none_pending (omega arith), no_tail s h (omega arith));
    }

-- and its memory frames
pub seated : (s : Store) (m : List ℕ) → holds_together s ≡ true → Seated (state_of s m) m (seat_at s.frames s.head)
seated s m q =
    let h = held s q in
    let a = waits s.pending in
    let b = waits s.current in
    let at : ℕ → List ℕ = λ k. block_at m (seat_at s.frames s.head k) in
    let p = pending_long s h m in
    let c = current_long s h m in
    let fits = h.seated in
    let all : queue_of s m 0 a ++ queue_of s m a b ≡ queue_of s m 0 (a + b) = ap (λ (k : ℕ). queue_of s m 0 a ++ queue_of s m k b) (sym (zero-add a)) ∙ tab_append at 0 a b in
    record {
      below = λ i l. seat_low s.frames s.head i h.head_low (omega arith);
      apiece = λ i j k l e. seat_apiece s.frames s.head i j (omega arith) (omega arith) e;
      bytes = λ i l. rw all (tab_get_d at 0 (a + b) i [] (omega arith) ∙ ap at (zero-add i));
    }
