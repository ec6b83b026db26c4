-- The writes that advance makes after the waiting frames: their bytes, what the record then means, and that it holds together.
-- Assumes nothing.
use Prim.Native.Nat.{ℕ, ◌+◌, ◌≤◌, ◌<◌}
use borrow.Author.Tests.{lt-ltb, le-ltb, ne_eqb}
use lib.ListN.{length, get_or}
use mathlib.Core.Bool.{true}
use mathlib.Core.List.{List}
use mathlib.Core.Logic.{◌≢◌}
use mathlib.Core.Path.{◌≡◌, refl, ap, sym, ◌∙◌}
use native.Mathlib.Nat.{add-zero, zero-add}
use native.Mathlib.Numerals.{add-one}
use native.Mathlib.Omega.{arith}
use Rattle.card.proofs.BytesLaws.{tab_get_d}
use Rattle.card.proofs.RingLaws.{on_on, ring_high, size_some}
use Rattle.card.specs.Block.{block_at, put_block}
use Rattle.card.specs.Directory.{entry_in, entries_of, PlacesBelow, dir_block}
use Rattle.card.specs.Header.{header_block}
use Rattle.card.specs.Range.{ranges_of}
use Rattle.card.specs.Ring.{ring_at, half, dir_blocks}
use Rattle.card.specs.Trailer.{trailer_block}
use Rattle.frames.proofs.ReadyLaws.{firsts}
use Rattle.frames.proofs.RisingLaws.{directory_as_held}
use Rattle.frames.specs.Parts.{KindDone, StepDone}
use Rattle.frames.specs.Promise.{passing}
use Rattle.record.proofs.Held.{Held, together, bounds}
use Rattle.record.proofs.NoneLaws.{NoChange, none_means, none_size, none_waits, none_listed}
use Rattle.record.proofs.SoundLaws.{notes_length, ordered, queue_length, place_low, entry_inside}
use Rattle.record.specs.Holds.{tail_for, holds_together}
use Rattle.record.specs.Meaning.{waits, size_of, notes_of, committed_size_of, queue_of, pending_first, current_first, phase_of, state_of}
use Rattle.record.specs.declared.store.Changes.{Changes}
use Rattle.record.specs.declared.store.Store.{Store}
use Rattle.recovery.proofs.OrderedLaws.{long_waiting, same_count}
use Rattle.recovery.proofs.Sorted.{count_of}
use Rattle.recovery.specs.Directory.{dir_of}
use Rattle.recovery.specs.State.{directory_of, empty, owed}
use Rattle.recovery.specs.Step.{Kind, directory, trailer, migration, header, flush, tail_bytes, trailer_block_no, next_migration, kind_write, after_kind}

-- a write and the step on the record that goes with it
pub kind_done : (k : Kind) (s t : Store) (to : ℕ) (bytes card end : List ℕ) → ((m : List ℕ) → kind_write k (state_of s m) card ≡ record { block = to; bytes = bytes })
    → end ≡ put_block card to bytes → StepDone (after_kind k) s t → KindDone k s card to t end
kind_done k s t to bytes card end w e d m = rw (w m) (record { block_is = refl; card_is = e; meaning = d.meaning m; together = d.together })

-- ---- M, D and T: one more committed entry is home, or one more block of the pending directory and trailer is down

abbrev pub counted_to : Store → ℕ → ℕ → Store
counted_to s home down = record {
  frames = s.frames;
  head = s.head;
  geometry = s.geometry;
  commit = s.commit;
  first = s.first;
  pages = s.pages;
  committed = s.committed;
  migrated = home;
  pending = s.pending;
  tail = down;
  current = s.current;
  phase = s.phase;
}

module _ (s : Store) (h : Held s) where
  counted_held : (home down : ℕ) → home ≤ s.committed.count → down ≤ tail_for s.pending.count → (0 < down → waits s.pending ≡ 0) → s.phase ≢ 2
      → (s.phase ≡ 1 → (0 < s.pending.count) × (down ≡ tail_for s.pending.count) × (s.committed.count ≤ home)) → Held (counted_to s home down)
  counted_held home down a b c calm late = record {
    geometry = h.geometry;
    first_low = h.first_low;
    first_high = h.first_high;
    none_committed = h.none_committed;
    some_committed = h.some_committed;
    committed_few = h.committed_few;
    commit_limit = h.commit_limit;
    pending_few = h.pending_few;
    pending_down_lem = h.pending_down_lem;
    none_pending = h.none_pending;
    current_few = h.current_few;
    current_down_lem = h.current_down_lem;
    half_committed = h.half_committed;
    half_pending = h.half_pending;
    half_current = h.half_current;
    room = h.room;
    migrated_within = a;
    tail_within = b;
    tail_after = c;
    phase_known = h.phase_known;
    flushed_after = late;
    owed_before = λ o. absurd (calm o);
    head_low = h.head_low;
    seated = h.seated;
    committed = h.committed;
    pending = h.pending;
    current = h.current;
  }

  -- entries passed over: the record still holds together
  pub pass_holds : (n : ℕ) → s.migrated ≤ n → n ≤ s.committed.count → s.phase ≢ 2 → holds_together (passing n s) ≡ true
  pass_holds n low a calm = together (passing n s) (counted_held n s.tail a h.tail_within h.tail_after calm (λ o. let d = h.flushed_after o in (d.0, d.1, omega (arith, d.2, low))))

  pub tail_step : waits s.pending ≡ 0 → 0 < s.pending.count → s.tail ≤ dir_blocks s.pending.count → s.phase ≢ 2 → StepDone (after_kind directory) s (counted_to s s.migrated (s.tail + 1))
  unfolding after_kind tail_for
  tail_step still any more calm = record {
    meaning = λ m. ap (λ (n : ℕ). state_of (counted_to s s.migrated n) m) (add-one s.tail);
    together = together (counted_to s s.migrated (s.tail + 1))
        (counted_held s.migrated (s.tail + 1) h.migrated_within (rw (ne_eqb s.pending.count 0 (omega (arith, any))) (omega (arith, more))) (λ l. still) calm
        (λ o. absurd (omega (arith, more, (rw (ne_eqb s.pending.count 0 (omega (arith, any))) at (h.flushed_after o).1)))));
  }

  -- ---- M

  module _ (more : s.migrated < s.committed.count) where
    pub home_step : s.phase ≢ 2 → StepDone (after_kind migration) s (counted_to s (s.migrated + 1) s.tail)
    unfolding after_kind
    home_step calm = record {
      meaning = λ m. ap (λ (n : ℕ). state_of (counted_to s n s.tail) m) (add-one s.migrated);
      together = together (counted_to s (s.migrated + 1) s.tail) (counted_held (s.migrated + 1) s.tail (omega (arith, more)) h.tail_within h.tail_after calm (λ o. absurd (omega (arith, more, (h.flushed_after o).2))));
    }

    -- M copies the entry's block to its frame
    pub home_write : (home from : ℕ) → home ≡ get_or s.committed.frames s.migrated 0 → from ≡ ring_at s.geometry.area s.first (get_or s.committed.places s.migrated 0) → (card m : List ℕ)
        → kind_write migration (state_of s m) card ≡ record { block = home; bytes = block_at card from }
    unfolding kind_write next_migration entries_of
    home_write home from p q card m =
        rw (p, q, tab_get_d (entry_in s.geometry.area s.first s.committed.frames s.committed.places) 0 s.committed.count s.migrated _ more, zero-add s.migrated) refl

    -- a block of the area goes to a home block
    pub home_inside : (ring_at s.geometry.area s.first (get_or s.committed.places s.migrated 0) ≤ s.geometry.area) × (get_or s.committed.frames s.migrated 0 < s.geometry.blocks)
    home_inside = entry_inside s h s.migrated more

    pub home_fits : (s.geometry.area ≤ 512) × ((s.first ≤ s.geometry.area) × (get_or s.committed.places s.migrated 0 ≤ s.geometry.area))
    home_fits = ((bounds s h).area_high, (h.first_high, omega (arith, place_low s h s.migrated more)))

-- ---- a pending generation

module _ (s : Store) (h : Held s) (any : 0 < s.pending.count) where
  -- pages, directory and trailer take at most half the area
  pending_room : s.pending.taken + dir_blocks s.pending.count + 1 ≤ half s.geometry.area
  pending_room = omega (arith, h.half_pending, size_some s.pending.taken s.pending.count (omega (arith, any)))

  module _ (first : ℕ) (at_first : first ≡ pending_first s) where
    -- what a block of its directory rests on
    pub directory_fits : (s.geometry.area ≤ 512) × ((first ≤ s.geometry.area) × ((s.pending.count ≤ 256) × PlacesBelow s.geometry.area s.pending.count s.pending.places))
    directory_fits =
        let b = bounds s h in
        (b.area_high, (omega (arith, at_first, (firsts s h).pending_in.1), (b.pending_small, λ i l. omega (arith, h.pending.filed.taken i l, pending_room))))

    -- the i-th block behind its pages
    module _ (i : ℕ) (most : i ≤ dir_blocks s.pending.count) where
      pub behind_fits : (s.geometry.area ≤ 512) × ((first ≤ s.geometry.area) × (s.pending.taken + i ≤ s.geometry.area))
      behind_fits = (directory_fits.0, (directory_fits.1.0, omega (arith, pending_room, most)))

      pub behind_inside : (to : ℕ) → to ≡ ring_at s.geometry.area first (s.pending.taken + i) → to ≤ s.geometry.area
      behind_inside to e = rw e (ring_high s.geometry.area first (s.pending.taken + i) behind_fits.1.0 behind_fits.1.1)

-- ---- the record after H: the pending generation is the committed one, and e is pending

abbrev pub committed_to : Store → ℕ → Changes → Store
committed_to s first e = record {
  frames = s.frames;
  head = s.head;
  geometry = s.geometry;
  commit = s.commit + 1;
  first = first;
  pages = s.pending.taken;
  committed = record { count = s.pending.count; frames = s.pending.frames; places = s.pending.places };
  migrated = 0;
  pending = e;
  tail = 0;
  current = s.current;
  phase = 2;
}

-- ---- a pending generation of which no frame waits

module _ (s : Store) (h : Held s) (still : waits s.pending ≡ 0) (any : 0 < s.pending.count) where
  all_down : s.pending.down ≡ s.pending.taken
  all_down = omega (arith, h.pending_down_lem, still)

  -- its directory has all its entries
  directory_is : (m : List ℕ) → directory_of s.geometry.area (state_of s m).pending ≡ dir_of s.geometry.area (pending_first s) s.pending.taken (notes_of s.pending)
  unfolding directory_of
  directory_is m = rw all_down refl

  directory_length : (m : List ℕ) → length (directory_of s.geometry.area (state_of s m).pending) ≡ s.pending.count
  unfolding count_of
  directory_length m =
      let g = (state_of s m).pending in
      let long = queue_length s m 0 (waits s.pending) in
      let o = ordered (pending_first s) g.waiting s.pending long h.pending_down_lem h.pending in
      omega (arith, same_count s.geometry.area g o, long_waiting g, long, still, notes_length s.pending)

  -- as they are held
  entries_are : (first : ℕ) → entries_of s.geometry.area first s.pending.frames s.pending.places s.pending.count ≡ dir_of s.geometry.area first s.pending.taken (notes_of s.pending)
  entries_are first = sym (directory_as_held s.geometry.area first s.pending.frames s.pending.places s.pending.taken s.pending.count h.pending.filed.rises h.pending.filed.taken)

  -- ---- D and T

  pub trailer_write : s.tail ≡ dir_blocks s.pending.count → (first to : ℕ) → first ≡ pending_first s → to ≡ ring_at s.geometry.area first (s.pending.taken + s.tail) → (card m : List ℕ)
      → kind_write trailer (state_of s m) card ≡ record { block = to; bytes = trailer_block (record { commit = s.commit + 1; first = first; pages = s.pending.taken; entries = s.pending.count }) }
  unfolding kind_write tail_bytes
  trailer_write last first to e q card m =
      rw (q, e, directory_length m, le-ltb s.tail (dir_blocks s.pending.count) (omega (arith, last)), all_down, add-one s.commit) refl

  pub directory_write : s.tail < dir_blocks s.pending.count → (first to : ℕ) → first ≡ pending_first s → to ≡ ring_at s.geometry.area first (s.pending.taken + s.tail) → (card m : List ℕ)
      → kind_write directory (state_of s m) card ≡ record { block = to; bytes = dir_block (entries_of s.geometry.area first s.pending.frames s.pending.places s.pending.count) s.tail }
  unfolding kind_write tail_bytes
  directory_write more first to e q card m = rw (q, entries_are first, e, directory_length m, lt-ltb s.tail (dir_blocks s.pending.count) more, directory_is m, all_down) refl

  -- ---- H

  pub header_write : (first to : ℕ) → first ≡ pending_first s → to ≡ ring_at s.geometry.area first (s.pending.taken + dir_blocks s.pending.count) → (card m : List ℕ)
      → kind_write header (state_of s m) card ≡ record { block = 0; bytes = header_block (s.commit + 1) to s.geometry.area (ranges_of s.geometry.ranges s.geometry.count) }
  unfolding kind_write trailer_block_no
  header_write first to e q card m = rw (q, e, directory_length m, all_down, add-one s.commit) refl

  -- with a generation without a change
  module _ (first : ℕ) (e : Changes) (at_first : first ≡ pending_first s) (z : NoChange e) where
    -- the next generation starts where the current one does
    next_first : ring_at s.geometry.area first (size_of s.pending) ≡ current_first s
    next_first = rw at_first (on_on s.geometry.area s.first h.first_low h.first_high (committed_size_of s) (size_of s.pending) (omega (arith, h.room)))

    same_first : ring_at s.geometry.area first (size_of s.pending + size_of e) ≡ current_first s
    same_first = rw (none_size e z, add-zero (size_of s.pending)) next_first

    commit_held : Held (committed_to s first e)
    commit_held = record {
      geometry = h.geometry;
      first_low = omega (arith, at_first, (firsts s h).pending_in.0);
      first_high = omega (arith, at_first, (firsts s h).pending_in.1);
      none_committed = λ q. absurd (omega (arith, q));
      some_committed = λ l. omega (arith, any);
      committed_few = h.pending_few;
      commit_limit = λ l. absurd (omega (arith, l, z.count));
      pending_few = omega (arith, z.count);
      pending_down_lem = omega (arith, z.down);
      none_pending = λ q. z.taken;
      current_few = h.current_few;
      current_down_lem = h.current_down_lem;
      half_committed = h.half_pending;
      half_pending = omega (arith, none_size e z);
      half_current = h.half_current;
      room = rw (none_size e z) (omega (arith, h.room));
      migrated_within = omega arith;
      tail_within = omega arith;
      tail_after = λ l. none_waits e z;
      phase_known = omega arith;
      flushed_after = λ o. absurd (omega (arith, o));
      owed_before = λ o. (refl, refl);
      head_low = h.head_low;
      seated = omega (arith, none_waits e z, still, h.seated);
      committed = h.pending.filed;
      pending = none_listed e z s.geometry.area s.geometry.blocks;
      current = h.current;
    }

    pub commit_step : StepDone (after_kind header) s (committed_to s first e)
    unfolding after_kind empty phase_of
    commit_step = record {
      meaning = λ m i. record {
        blocks = s.geometry.blocks;
        area = s.geometry.area;
        ranges = ranges_of s.geometry.ranges s.geometry.count;
        memory_frames = s.frames;
        commit = add-one s.commit i;
        committed = record { first = at_first i; places = put_down i; entries = entries m i };
        migrated = 0;
        pending = pending m i;
        tail_down = 0;
        current = record { first = same_first i; pages_down = s.current.down; entries = notes_of s.current; waiting = queue m i };
        phase = owed;
      };
      together = together (committed_to s first e) commit_held;
    }
      where
        put_down : s.pending.taken ≡ s.pending.down
        put_down = sym all_down

        entries : (m : List ℕ) → entries_of s.geometry.area first s.pending.frames s.pending.places s.pending.count ≡ directory_of s.geometry.area (state_of s m).pending
        entries m = rw (directory_is m, ← at_first) (entries_are first)

        pending : (m : List ℕ) → (state_of (committed_to s first e) m).pending ≡ empty (current_first s)
        pending m = none_means e z _ 0 _ ∙ ap empty next_first

        queue : (m : List ℕ) → queue_of s m (waits e) (waits s.current) ≡ queue_of s m (waits s.pending) (waits s.current)
        queue m = rw (none_waits e z, still) refl

-- ---- F: only how flushes stand changes

abbrev pub phase_to : Store → ℕ → Store
phase_to s phase = record {
  frames = s.frames;
  head = s.head;
  geometry = s.geometry;
  commit = s.commit;
  first = s.first;
  pages = s.pages;
  committed = s.committed;
  migrated = s.migrated;
  pending = s.pending;
  tail = s.tail;
  current = s.current;
  phase = phase;
}

module _ (s : Store) (h : Held s) where
  phased_held : (phase : ℕ) → phase ≤ 2 → (phase ≡ 1 → (0 < s.pending.count) × (s.tail ≡ tail_for s.pending.count) × (s.committed.count ≤ s.migrated)) → (phase ≡ 2 → ⊥) → Held (phase_to s phase)
  phased_held phase known after before = record {
    geometry = h.geometry;
    first_low = h.first_low;
    first_high = h.first_high;
    none_committed = h.none_committed;
    some_committed = h.some_committed;
    committed_few = h.committed_few;
    commit_limit = h.commit_limit;
    pending_few = h.pending_few;
    pending_down_lem = h.pending_down_lem;
    none_pending = h.none_pending;
    current_few = h.current_few;
    current_down_lem = h.current_down_lem;
    half_committed = h.half_committed;
    half_pending = h.half_pending;
    half_current = h.half_current;
    room = h.room;
    migrated_within = h.migrated_within;
    tail_within = h.tail_within;
    tail_after = h.tail_after;
    phase_known = known;
    flushed_after = after;
    owed_before = λ o. absurd (before o);
    head_low = h.head_low;
    seated = h.seated;
    committed = h.committed;
    pending = h.pending;
    current = h.current;
  }

  pub owed_step : s.phase ≡ 2 → StepDone (after_kind flush) s (phase_to s 0)
  unfolding after_kind phase_of
  owed_step o = record { meaning = λ m. rw o refl; together = together (phase_to s 0) (phased_held 0 (omega arith) (λ e. absurd (omega (arith, e))) (λ e. omega (arith, e))) }

  pub flush_step : s.phase ≡ 0 → 0 < s.pending.count → dir_blocks s.pending.count < s.tail → s.committed.count ≤ s.migrated → StepDone (after_kind flush) s (phase_to s 1)
  unfolding after_kind phase_of tail_for
  flush_step z any down home = record {
    meaning = λ m. rw z refl;
    together = together (phase_to s 1)
        (phased_held 1 (omega arith) (λ e. (any, rw (ne_eqb s.pending.count 0 (omega (arith, any))) (omega (arith, down, (rw (ne_eqb s.pending.count 0 (omega (arith, any))) at h.tail_within))), home)) (λ e. omega (arith, e)));
  }
