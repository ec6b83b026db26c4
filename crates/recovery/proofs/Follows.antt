-- A card of which no record is held, and a state with its card: what they show of the book of frames.
-- Assumes nothing.
use Prim.Native.Nat.{ℕ, ◌+◌, ◌*◌, ◌≤◌, ◌<◌}
use borrow.Author.Tests.{ltb-true, ltb-false, eqb-true, eqb-false, lt-ltb}
use lib.Dec.{ltb, eqb}
use lib.ListN.{length}
use mathlib.Core.Bool.{true, false, false≢true}
use mathlib.Core.List.{List, []}
use mathlib.Core.Logic.{◌⊎◌, inl, inr}
use mathlib.Core.Option.{Option, none, some}
use mathlib.Core.Path.{◌≡◌, refl, sym, ◌∙◌}
use native.Mathlib.Nat.{add-zero}
use native.Mathlib.Omega.{arith}
use Rattle.card.proofs.BytesLaws.{none_long}
use Rattle.card.proofs.Test.{by_test}
use Rattle.card.specs.Range.{Range}
use Rattle.card.specs.Ring.{dir_blocks}
use Rattle.recovery.proofs.Invariant.{Recoverable, Invariant}
use Rattle.recovery.proofs.OrderedLaws.{long_waiting, same_count, same_size}
use Rattle.recovery.proofs.RoomLaws.{Room}
use Rattle.recovery.proofs.SizeLaws.{quiet_count, quiet_size}
use Rattle.recovery.proofs.Sorted.{SortedGeneration, places_of, count_of, size_of, sorted_empty, sorted_committed, sorted_generation, sorted}
use Rattle.recovery.specs.Book.{FrameBook, Needs}
use Rattle.recovery.specs.Contents.{Contents}
use Rattle.recovery.specs.Directory.{by_frame, down_entries, dir_of, waiting_from}
use Rattle.recovery.specs.Sound.{Ordered}
use Rattle.recovery.specs.State.{Committed, State, places, entry_count, size, committed_size, directory_of, waiting_frames, empty, Phase, writing, flushed, owed, is_owed, is_flushed}
use Rattle.recovery.specs.Step.{Kind, page, directory, trailer, migration, header, flush, migration_due, advance_due, migrating, pass_to, next_migration}

-- a card of which no record is held: a start on it shows kept
abbrev pub Stored : Needs → ℕ → ℕ → List Range → List ℕ → Contents → Type 0
Stored needed blocks area ranges c kept = (commit : ℕ) × (g : SortedGeneration) × Recoverable needed blocks area ranges commit g c kept

-- a snapshot is pending, and all that comes before its header write is down
abbrev pub AllDown : State → Type 0
AllDown s = (0 < entry_count s.pending) × (length s.pending.waiting ≡ 0) × (dir_blocks (entry_count s.pending) < s.tail_down) × (length s.committed.entries ≤ s.migrated)

-- a state whose card and itself show what the book has
pub record Follows (needed : Needs) (blocks area : ℕ) (ranges : List Range) (s : State) (c : List ℕ) (b : FrameBook) : Type 0 where
  pub blocks_is : s.blocks ≡ blocks
  pub area_is : s.area ≡ area
  pub ranges_is : s.ranges ≡ ranges
  pub invariant : Invariant needed blocks (sorted s) c b
  pub pending_ordered : Ordered s.pending
  pub current_ordered : Ordered s.current
  pub migrated_within : s.migrated ≤ length s.committed.entries
  pub flushed_after : is_flushed s.phase ≡ true → AllDown s
  pub owed_before : is_owed s.phase ≡ true → (s.migrated ≡ 0) × (s.tail_down ≡ 0)

-- The first n committed entries are home or passed over: those from `migrated` on are of frames that are not
-- needed. None is passed over while a flush is owed.
abbrev pub Passed : Needs → Contents → ℕ → State → Type 0
Passed needed kept n s = (n ≤ length s.committed.entries) × ((j : ℕ) → s.migrated ≤ j → j < n → needed kept (next_migration (pass_to j s)).frame ≡ false)
    × (s.migrated ≤ n) × (is_owed s.phase ≡ true → n ≡ s.migrated)

module _ {needed : Needs} (blocks area : ℕ) (ranges : List Range) (s : State) (c : List ℕ) (b : FrameBook) (f : Follows needed blocks area ranges s c b) where
  pub follows_card : (length c ≡ 512 * blocks) × (11 ≤ blocks) × (blocks ≤ 65536)
  follows_card = (f.invariant.recoverable.whole, f.invariant.recoverable.many, f.invariant.recoverable.small)

-- ---- empty and committed generations, sorted

pub empty_ordered : (first : ℕ) → Ordered (empty first)
unfolding empty places
empty_ordered first = record { rises = tt; taken = tt; waits = λ k l m. absurd (omega arith) }

pub sorted-empty : (area first : ℕ) → sorted_generation area (empty first) ≡ sorted_empty first
unfolding empty directory_of waiting_frames dir_of down_entries by_frame waiting_from
sorted-empty area first = refl

-- the committed one has the size of its sorted form
pub same_committed : (g : Committed) → committed_size g ≡ size_of (sorted_committed g)
unfolding committed_size size_of places_of count_of
same_committed g = rw (add-zero g.places, add-zero (length g.entries))

-- ---- what the tests that choose a write tell

-- of the state in which this kind is due
abbrev pub Facts : State → Kind → Type 0
Facts s page = (0 < length s.pending.waiting) × (is_owed s.phase ≡ false)
Facts s directory = (0 < entry_count s.pending) × (length s.pending.waiting ≡ 0) × (s.tail_down ≤ dir_blocks (entry_count s.pending)) × (is_owed s.phase ≡ false)
Facts s trailer = (0 < entry_count s.pending) × (length s.pending.waiting ≡ 0) × (s.tail_down ≤ dir_blocks (entry_count s.pending)) × (is_owed s.phase ≡ false)
Facts s migration = (s.migrated < length s.committed.entries) × (is_owed s.phase ≡ false) × (migrating s ≡ true)
Facts s header = AllDown s × (is_flushed s.phase ≡ true)
Facts s flush = (is_owed s.phase ≡ true) ⊎ (AllDown s × (s.phase ≡ writing))

-- and where none may be
abbrev pub FactsOf : State → Option Kind → Type 0
FactsOf s none = Unit {0}
FactsOf s (some k) = Facts s k

is_writing : (p : Phase) → is_owed p ≡ false → is_flushed p ≡ false → p ≡ writing
is_writing writing o f = refl
is_writing flushed o f = absurd (false≢true (sym f))
is_writing owed o f = absurd (false≢true (sym o))

pub flushed_not_owed : (p : Phase) → is_flushed p ≡ true → is_owed p ≡ false
flushed_not_owed writing e = refl
flushed_not_owed flushed e = refl
flushed_not_owed owed e = absurd (false≢true e)

-- they hold of the one that is due
pub due_facts : (s : State) → FactsOf s (advance_due s)
unfolding advance_due migration_due migrating
due_facts s =
    by_test (FactsOf s) (is_owed s.phase) (λ o. inl o)
    (λ o. by_test (FactsOf s) (eqb (entry_count s.pending) 0)
    (λ e. by_test (FactsOf s) (ltb s.migrated (length s.committed.entries)) (λ m. (ltb-true _ _ m, o, rw (o, e))) (λ m. tt))
    (λ e. let any : 0 < entry_count s.pending = omega (arith, eqb-false (entry_count s.pending) 0 e) in
    by_test (FactsOf s) (ltb 0 (length s.pending.waiting)) (λ p. (ltb-true _ _ p, o))
    (λ p. let still : length s.pending.waiting ≡ 0 = omega (arith, ltb-false 0 (length s.pending.waiting) p) in
    by_test (FactsOf s) (ltb s.tail_down (dir_blocks (entry_count s.pending)))
    (λ q. (any, still, omega (arith, ltb-true s.tail_down (dir_blocks (entry_count s.pending)) q), o))
    (λ q. by_test (FactsOf s) (eqb s.tail_down (dir_blocks (entry_count s.pending)))
    (λ r. (any, still, omega (arith, eqb-true s.tail_down (dir_blocks (entry_count s.pending)) r), o))
    (λ r. let behind : dir_blocks (entry_count s.pending) < s.tail_down = omega (arith, eqb-false s.tail_down (dir_blocks (entry_count s.pending)) r, ltb-false s.tail_down (dir_blocks (entry_count s.pending)) q) in
    by_test (FactsOf s) (ltb s.migrated (length s.committed.entries)) (λ m. (ltb-true _ _ m, o, rw (o, e, p, lt-ltb _ _ behind)))
    (λ m. let down : AllDown s = (any, still, behind, ltb-false _ _ m) in
    by_test (Facts s) (is_flushed s.phase) {x = header} {y = flush} (λ t. (down, t)) (λ t. inr (down, is_writing s.phase o t))))))))

-- ---- sizes and counts of a state that follows

module _ {needed : Needs} {blocks area : ℕ} {ranges : List Range} {s : State} {c : List ℕ} {b : FrameBook} (f : Follows needed blocks area ranges s c b) where
  pub size_pending : size s.pending ≡ size_of (sorted_generation s.area s.pending)
  size_pending = same_size s.area s.pending f.pending_ordered

  pub size_current : size s.current ≡ size_of (sorted_generation s.area s.current)
  size_current = same_size s.area s.current f.current_ordered

  pub count_pending : entry_count s.pending ≡ count_of (sorted_generation s.area s.pending)
  count_pending = same_count s.area s.pending f.pending_ordered

  -- there is room for what has changed
  pub has_room : Room s.current s
  has_room = (
    rw size_current f.invariant.half_current,
    rw (size_current, size_pending, same_committed s.committed) f.invariant.room,
    omega (arith, f.invariant.seated, long_waiting s.pending, long_waiting s.current),
  )

  -- where none of the pending ones waits, they are all named in the directory
  module _ (still : length s.pending.waiting ≡ 0) where
    pub no_waiting : waiting_frames s.pending ≡ []
    no_waiting = none_long (waiting_frames s.pending) (omega (arith, long_waiting s.pending))

    pub all_named : length (directory_of s.area s.pending) ≡ entry_count s.pending
    all_named = sym (count_pending ∙ quiet_count (sorted_generation s.area s.pending) no_waiting)

    pub tail_below : 0 < entry_count s.pending → s.tail_down ≤ dir_blocks (entry_count s.pending) → s.pending.pages_down + s.tail_down < size_of (sorted_generation s.area s.pending)
    tail_below any h = omega (arith, quiet_size (sorted_generation s.area s.pending) no_waiting (omega (arith, all_named)), all_named)
