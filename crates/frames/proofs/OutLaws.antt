-- A waiting frame goes to the card: what the record then means, and that it holds together.
-- Assumes nothing.
use Prim.Native.Nat.{ℕ, ◌+◌, ◌-◌, ◌≤◌, ◌<◌}
use borrow.Author.Tests.{ne_eqb}
use lib.ListN.{length}
use mathlib.Core.List.{List, [], tail}
use mathlib.Core.Path.{◌≡◌, refl, ap, sym, ◌∙◌}
use native.Mathlib.Numerals.{add-one}
use native.Mathlib.Omega.{arith}
use Rattle.card.proofs.BytesLaws.{tab_none}
use Rattle.card.specs.Block.{block_at, put_block}
use Rattle.card.specs.Range.{ranges_of}
use Rattle.card.specs.Ring.{ring_at}
use Rattle.frames.proofs.QueueLaws.{bytes_from, queue_next, queue_tail, queue_oldest}
use Rattle.frames.proofs.ReadyLaws.{Ready}
use Rattle.frames.specs.Parts.{WriteDone}
use Rattle.record.proofs.Held.{Listed, Held, held, together}
use Rattle.record.proofs.SeatLaws.{seat_low}
use Rattle.record.specs.Holds.{tail_for}
use Rattle.record.specs.Meaning.{waits, notes_of, seat_at, committed_of, pending_first, current_first, phase_of, state_of}
use Rattle.record.specs.declared.store.Changes.{Changes}
use Rattle.record.specs.declared.store.Store.{Store}
use Rattle.recovery.specs.Step.{pending_to, current_to, out_write, out_of}

-- one more place of a generation is down
abbrev pub one_down : Changes → Changes
one_down g = record { count = g.count; taken = g.taken; down = g.down + 1; frames = g.frames; places = g.places }

listed_out : (area blocks : ℕ) (g : Changes) → Listed area blocks g → Listed area blocks (one_down g)
listed_out area blocks g l = record { filed = l.filed; stands = λ k p q. l.stands k (omega arith) q }

tail_any : (e : ℕ) → 0 < e → 0 < tail_for e
unfolding tail_for
tail_any e l = rw (ne_eqb e 0 (omega (arith, l))) (omega arith)

-- the record after the oldest pending frame is down, and after the oldest current one is; next is the head then
abbrev pub pending_down : Store → ℕ → Store
pending_down s next = record {
  frames = s.frames;
  head = next;
  geometry = s.geometry;
  commit = s.commit;
  first = s.first;
  pages = s.pages;
  committed = s.committed;
  migrated = s.migrated;
  pending = one_down s.pending;
  tail = s.tail;
  current = s.current;
  phase = s.phase;
}

abbrev pub current_down : Store → ℕ → Store
current_down s next = record {
  frames = s.frames;
  head = next;
  geometry = s.geometry;
  commit = s.commit;
  first = s.first;
  pages = s.pages;
  committed = s.committed;
  migrated = s.migrated;
  pending = s.pending;
  tail = s.tail;
  current = one_down s.current;
  phase = s.phase;
}

module _ (s : Store) (h : Held s) (next : ℕ) (turn : next ≡ seat_at s.frames s.head 1) where
  next_low : next < s.frames
  next_low = rw turn (seat_low s.frames s.head 1 h.head_low (omega (arith, h.head_low)))

  -- ---- of the pending generation

  module _ (more : s.pending.down < s.pending.taken) where
    pub pending_out_meaning : (m : List ℕ) → state_of (pending_down s next) m ≡ pending_to (out_of (state_of s m).pending) s.tail (state_of s m)
    unfolding out_of
    pending_out_meaning m = λ i. record {
      blocks = s.geometry.blocks;
      area = s.geometry.area;
      ranges = ranges_of s.geometry.ranges s.geometry.count;
      memory_frames = s.frames;
      commit = s.commit;
      committed = committed_of s;
      migrated = s.migrated;
      pending = record { first = pending_first s; pages_down = add-one s.pending.down i; entries = notes_of s.pending; waiting = rest i };
      tail_down = s.tail;
      current = record { first = current_first s; pages_down = s.current.down; entries = notes_of s.current; waiting = behind i };
      phase = phase_of s.phase;
    }
      where
        rest : bytes_from m s.frames next 0 (s.pending.taken - (s.pending.down + 1)) ≡ tail (bytes_from m s.frames s.head 0 (s.pending.taken - s.pending.down))
        rest = queue_tail m s.frames s.head next h.head_low turn s.pending.taken s.pending.down more (omega (arith, h.seated))

        nearer : s.pending.taken - s.pending.down ≡ s.pending.taken - (s.pending.down + 1) + 1
        nearer = omega arith

        behind : bytes_from m s.frames next (s.pending.taken - (s.pending.down + 1)) (waits s.current) ≡ bytes_from m s.frames s.head (waits s.pending) (waits s.current)
        behind = queue_next m s.frames s.head next h.head_low turn (s.pending.taken - (s.pending.down + 1)) (waits s.current) (omega (arith, h.seated))
            ∙ ap (λ (n : ℕ). bytes_from m s.frames s.head n (waits s.current)) (sym nearer)

    pub pending_out_held : Held (pending_down s next)
    pending_out_held = record {
      geometry = h.geometry;
      first_low = h.first_low;
      first_high = h.first_high;
      none_committed = h.none_committed;
      some_committed = h.some_committed;
      committed_few = h.committed_few;
      commit_limit = h.commit_limit;
      pending_few = h.pending_few;
      pending_down_lem = omega arith;
      none_pending = h.none_pending;
      current_few = h.current_few;
      current_down_lem = h.current_down_lem;
      half_committed = h.half_committed;
      half_pending = h.half_pending;
      half_current = h.half_current;
      room = h.room;
      migrated_within = h.migrated_within;
      tail_within = h.tail_within;
      tail_after = λ q. absurd (omega (arith, h.tail_after q));
      phase_known = h.phase_known;
      flushed_after = λ o. absurd (omega (arith, h.tail_after (omega (arith, (h.flushed_after o).1, tail_any s.pending.count (h.flushed_after o).0))));
      owed_before = h.owed_before;
      head_low = next_low;
      seated = omega (arith, h.seated);
      committed = h.committed;
      pending = listed_out s.geometry.area s.geometry.blocks s.pending h.pending;
      current = h.current;
    }

  -- ---- of the current one, where none waits for a snapshot

  module _ (clear : s.pending.taken ≤ s.pending.down) (more : s.current.down < s.current.taken) where
    pub current_out_meaning : (m : List ℕ) → state_of (current_down s next) m ≡ current_to (out_of (state_of s m).current) (state_of s m)
    unfolding out_of
    current_out_meaning m = λ i. record {
      blocks = s.geometry.blocks;
      area = s.geometry.area;
      ranges = ranges_of s.geometry.ranges s.geometry.count;
      memory_frames = s.frames;
      commit = s.commit;
      committed = committed_of s;
      migrated = s.migrated;
      pending = record { first = pending_first s; pages_down = s.pending.down; entries = notes_of s.pending; waiting = nothing i };
      tail_down = s.tail;
      current = record { first = current_first s; pages_down = add-one s.current.down i; entries = notes_of s.current; waiting = rest i };
      phase = phase_of s.phase;
    }
      where
        gone : waits s.pending ≡ 0
        gone = omega arith

        empty_queue : (head i : ℕ) → bytes_from m s.frames head i (waits s.pending) ≡ []
        empty_queue head i = rw gone (tab_none _ i)

        nothing : bytes_from m s.frames next 0 (waits s.pending) ≡ bytes_from m s.frames s.head 0 (waits s.pending)
        nothing = empty_queue next 0 ∙ sym (empty_queue s.head 0)

        rest : bytes_from m s.frames next (waits s.pending) (s.current.taken - (s.current.down + 1)) ≡ tail (bytes_from m s.frames s.head (waits s.pending) (s.current.taken - s.current.down))
        rest = rw gone (queue_tail m s.frames s.head next h.head_low turn s.current.taken s.current.down more (omega (arith, h.seated)))

    pub current_out_held : Held (current_down s next)
    current_out_held = record {
      geometry = h.geometry;
      first_low = h.first_low;
      first_high = h.first_high;
      none_committed = h.none_committed;
      some_committed = h.some_committed;
      committed_few = h.committed_few;
      commit_limit = h.commit_limit;
      pending_few = h.pending_few;
      pending_down_lem = h.pending_down_lem;
      none_pending = h.none_pending;
      current_few = h.current_few;
      current_down_lem = omega arith;
      half_committed = h.half_committed;
      half_pending = h.half_pending;
      half_current = h.half_current;
      room = h.room;
      migrated_within = h.migrated_within;
      tail_within = h.tail_within;
      tail_after = h.tail_after;
      phase_known = h.phase_known;
      flushed_after = h.flushed_after;
      owed_before = h.owed_before;
      head_low = next_low;
      seated = omega (arith, h.seated);
      committed = h.committed;
      pending = h.pending;
      current = listed_out s.geometry.area s.geometry.blocks s.current h.current;
    }

-- ---- the write, done

module _ (s : Store) (m c : List ℕ) (r : Ready s (length m) (length c)) (next : ℕ) (turn : next ≡ seat_at s.frames s.head 1) (first to : ℕ) (x card' : List ℕ) where
  pub pending_done : s.pending.down < s.pending.taken → first ≡ pending_first s → to ≡ ring_at s.geometry.area first s.pending.down → card' ≡ put_block c to x → x ≡ block_at m s.head
      → WriteDone (out_write s.geometry.area (state_of s m).pending) (pending_to (out_of (state_of s m).pending) s.tail (state_of s m)) m c to (pending_down s next) card'
  pending_done more f t w e =
      let h = held s r.together in
      let at : to ≡ ring_at s.geometry.area (pending_first s) s.pending.down = t ∙ ap (λ (n : ℕ). ring_at s.geometry.area n s.pending.down) f in
      let bytes = queue_oldest m s.frames s.head (waits s.pending) h.head_low (omega arith) in
      record {
        block_is = at;
        card_is = rw bytes (w ∙ rw (e, at) refl);
        meaning = pending_out_meaning s h next turn more m;
        together = together (pending_down s next) (pending_out_held s h next turn more);
      }

  pub current_done : s.pending.taken ≤ s.pending.down → s.current.down < s.current.taken → first ≡ current_first s → to ≡ ring_at s.geometry.area first s.current.down
      → card' ≡ put_block c to x → x ≡ block_at m s.head
      → WriteDone (out_write s.geometry.area (state_of s m).current) (current_to (out_of (state_of s m).current) (state_of s m)) m c to (current_down s next) card'
  current_done clear more f t w e =
      let h = held s r.together in
      let at : to ≡ ring_at s.geometry.area (current_first s) s.current.down = t ∙ ap (λ (n : ℕ). ring_at s.geometry.area n s.current.down) f in
      let none : waits s.pending ≡ 0 = omega arith in
      let bytes = queue_oldest m s.frames s.head (waits s.current) h.head_low (omega arith) in
      record {
        block_is = at;
        card_is = rw (none, bytes) (w ∙ rw (e, at) refl);
        meaning = current_out_meaning s h next turn clear more m;
        together = together (current_down s next) (current_out_held s h next turn clear more);
      }
