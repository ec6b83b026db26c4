-- A snapshot is taken: what the record then means, and that it holds together.
-- Assumes nothing.
use Prim.Native.Nat.{ℕ, ◌+◌, ◌<◌}
use mathlib.Core.Bool.{true}
use mathlib.Core.List.{List}
use mathlib.Core.Path.{◌≡◌, refl, ap, sym, ◌∙◌}
use native.Mathlib.Nat.{add-zero}
use native.Mathlib.Omega.{arith}
use Rattle.card.proofs.RingLaws.{on_on}
use Rattle.card.specs.Range.{ranges_of}
use Rattle.card.specs.Ring.{ring_at, generation_size}
use Rattle.frames.proofs.QueueLaws.{bytes_from}
use Rattle.frames.specs.Parts.{StepDone}
use Rattle.record.proofs.Held.{Held, held, together}
use Rattle.record.proofs.NoneLaws.{NoChange, none_means, none_size, none_listed}
use Rattle.record.proofs.SoundLaws.{current_size}
use Rattle.record.specs.Holds.{holds_together}
use Rattle.record.specs.Meaning.{waits, size_of, notes_of, committed_size_of, committed_of, pending_first, current_first, phase_of, state_of}
use Rattle.record.specs.declared.store.Changes.{Changes}
use Rattle.record.specs.declared.store.Store.{Store}
use Rattle.recovery.specs.State.{size, empty}
use Rattle.recovery.specs.Step.{after_snapshot}

-- the record of a snapshot: its current generation is e
abbrev marked : Store → Changes → Store
marked s e = record {
  frames = s.frames;
  head = s.head;
  geometry = s.geometry;
  commit = s.commit;
  first = s.first;
  pages = s.pages;
  committed = s.committed;
  migrated = s.migrated;
  pending = s.current;
  tail = 0;
  current = e;
  phase = s.phase;
}

module _ (s : Store) (h : Held s) (free : s.pending.count ≡ 0) (e : Changes) (none : NoChange e) where
  -- where none is pending, the current generation starts where the pending one would
  before : committed_size_of s + size_of s.pending ≡ committed_size_of s
  unfolding generation_size
  before = rw free (add-zero (committed_size_of s))

  marked_meaning : (m : List ℕ) → state_of (marked s e) m ≡ after_snapshot (state_of s m)
  unfolding after_snapshot
  marked_meaning m = λ i. record {
    blocks = s.geometry.blocks;
    area = s.geometry.area;
    ranges = ranges_of s.geometry.ranges s.geometry.count;
    memory_frames = s.frames;
    commit = s.commit;
    committed = committed_of s;
    migrated = s.migrated;
    pending = record { first = pending_first_lem i; pages_down = s.current.down; entries = notes_of s.current; waiting = pending_waits i };
    tail_down = 0;
    current = current i;
    phase = phase_of s.phase;
  }
    where
      pending_first_lem : pending_first s ≡ current_first s
      pending_first_lem = ap (λ (n : ℕ). ring_at s.geometry.area s.first n) (sym before)

      nothing : waits s.pending ≡ 0
      nothing = omega (arith, h.none_pending free)

      pending_waits : bytes_from m s.frames s.head 0 (waits s.current) ≡ bytes_from m s.frames s.head (waits s.pending) (waits s.current)
      pending_waits = ap (λ (n : ℕ). bytes_from m s.frames s.head n (waits s.current)) (sym nothing)

      above : current_first (marked s e) ≡ ring_at s.geometry.area (current_first s) (size (state_of s m).current)
      above = rw (current_size s h m, before) (sym (on_on s.geometry.area s.first h.first_low h.first_high (committed_size_of s) (size_of s.current) (omega (arith, h.room))))

      current : (state_of (marked s e) m).current ≡ empty (ring_at s.geometry.area (current_first s) (size (state_of s m).current))
      current = none_means e none (current_first (marked s e)) (waits s.current) _ ∙ ap empty above

  marked_held : 0 < s.current.count → s.commit < 4294967295 → Held (marked s e)
  marked_held some limit = record {
    geometry = h.geometry;
    first_low = h.first_low;
    first_high = h.first_high;
    none_committed = h.none_committed;
    some_committed = h.some_committed;
    committed_few = h.committed_few;
    commit_limit = λ l. limit;
    pending_few = h.current_few;
    pending_down_lem = h.current_down_lem;
    none_pending = λ z. absurd (omega arith);
    current_few = omega (arith, none.count);
    current_down_lem = omega (arith, none.down);
    half_committed = h.half_committed;
    half_pending = h.half_current;
    half_current = omega (arith, none_size e none);
    room = omega (arith, h.room, none_size e none);
    migrated_within = h.migrated_within;
    tail_within = omega arith;
    tail_after = λ l. absurd (omega arith);
    phase_known = h.phase_known;
    flushed_after = λ o. absurd (omega (arith, (h.flushed_after o).0, free));
    owed_before = λ o. ((h.owed_before o).0, refl);
    head_low = h.head_low;
    seated = omega (arith, h.seated, none.taken);
    committed = h.committed;
    pending = h.current;
    current = none_listed e none s.geometry.area s.geometry.blocks;
  }

pub mark_done : (s : Store) (e : Changes) → NoChange e → (holds_together s ≡ true) × ((s.pending.count ≡ 0) × ((0 < s.current.count) × (s.commit < 4294967295))) → StepDone after_snapshot s (marked s e)
mark_done s e none p =
    let h = held s p.0 in
    record { meaning = marked_meaning s h p.1.0 e none; together = together (marked s e) (marked_held s h p.1.0 e none p.1.1.0 p.1.1.1) }
