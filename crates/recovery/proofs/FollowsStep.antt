-- Every step keeps `Follows`: a change, a snapshot, a write of advance, a page-out.
-- Assumes nothing.
use Prim.Native.Nat.{ℕ, suc, ◌+◌, ◌≤◌, ◌<◌}
use borrow.Author.Tests.{ltb-true, ltb-false, eqb-true}
use lib.Dec.{ltb, eqb}
use lib.ListN.{length}
use mathlib.Core.Bool.{Bool, true, false, cond, not, false≢true}
use mathlib.Core.List.{List, []}
use mathlib.Core.Logic.{inl, inr}
use mathlib.Core.Option.{Option, none, some}
use mathlib.Core.Path.{◌≡◌, refl, ap, sym, ◌∙◌, subst}
use native.Mathlib.Omega.{arith}
use Rattle.card.proofs.QuestionLaws.{passed_both}
use Rattle.card.specs.Block.{block_at, put_block}
use Rattle.card.specs.Bytes.{All}
use Rattle.card.specs.Question.{first_no}
use Rattle.card.specs.Range.{Range}
use Rattle.card.specs.Ring.{ring_at}
use Rattle.recovery.proofs.Calls.{call_change, call_mark}
use Rattle.recovery.proofs.ContentsLaws.{all_on}
use Rattle.recovery.proofs.Follows.{Follows, AllDown, empty_ordered, sorted-empty, same_committed, Facts, FactsOf, due_facts, size_pending, size_current, count_pending, has_room, no_waiting, all_named, tail_below, Passed}
use Rattle.recovery.proofs.Invariant.{Invariant}
use Rattle.recovery.proofs.OrderedLaws.{sorted_out, oldest_is, out_ordered, long_waiting, same_size, change_many, some_waiting}
use Rattle.recovery.proofs.RoomLaws.{Room, room_told}
use Rattle.recovery.proofs.Sorted.{SortedGeneration, count_of, size_of, sorted_empty, sorted_committed, sorted_generation, sorted, tail_block, trailer_at, Sorted, pending_out, directory_down, trailer_down, copy_home, header_down, current_out, next_home, sorted_write, sorted_after, sorted_change, sorted_snapshot}
use Rattle.recovery.proofs.StepHead.{step_H}
use Rattle.recovery.proofs.StepMove.{step_M}
use Rattle.recovery.proofs.StepOut.{step_P, step_C}
use Rattle.recovery.proofs.StepTail.{step_D, step_T}
use Rattle.recovery.specs.Book.{FrameBook, book_change, book_snapshot, book_wrote, WholeFrame, Needs, Brings}
use Rattle.recovery.specs.Contents.{FrameBytes}
use Rattle.recovery.specs.Questions.{room_asks, snapshot_asks, page_out_asks}
use Rattle.recovery.specs.Sound.{Ordered}
use Rattle.recovery.specs.State.{empty, State, entry_count, size, directory_of, Phase, writing, flushed, owed, is_owed, is_flushed}
use Rattle.recovery.specs.Step.{pending_to, current_to, change_frames, after_change, after_snapshot, Kind, page, directory, trailer, migration, header, flush, out_write, out_of, tail_bytes, trailer_block_no, next_migration, kind_write, kind_put, after_flush, after_kind, advance_due, page_out_write, after_page_out, pass_to}
use Rattle.recovery.specs.Write.{BlockWrite, put_down}

-- the sorted form of a kind: its write, and the state after it
abbrev pub sorted_put : Kind → Sorted → List ℕ → Option BlockWrite
sorted_put page s c = some (sorted_write pending_out s c)
sorted_put directory s c = some (sorted_write directory_down s c)
sorted_put trailer s c = some (sorted_write trailer_down s c)
sorted_put migration s c = some (sorted_write copy_home s c)
sorted_put header s c = some (sorted_write header_down s c)
sorted_put flush s c = none

abbrev pub sorted_next : Kind → Sorted → Sorted
sorted_next page s = sorted_after pending_out s
sorted_next directory s = sorted_after directory_down s
sorted_next trailer s = sorted_after trailer_down s
sorted_next migration s = sorted_after copy_home s
sorted_next header s = sorted_after header_down s
sorted_next flush s = s

-- it writes the same bytes to the same block
pub same_page : (s : State) (c : List ℕ) → kind_write page s c ≡ sorted_write pending_out (sorted s) c
unfolding kind_write sorted_write
same_page s c = λ i. record { block = ring_at s.area s.pending.first s.pending.pages_down; bytes = oldest_is s.area s.pending i }

pub same_put : (s : State) (c : List ℕ) (k : Kind) → kind_put k (kind_write k s c) ≡ sorted_put k (sorted s) c
unfolding kind_write kind_put sorted_write tail_bytes tail_block next_migration next_home trailer_block_no trailer_at
same_put s c page = ap some (same_page s c)
same_put s c directory = refl
same_put s c trailer = refl
same_put s c migration = refl
same_put s c header = refl
same_put s c flush = refl

-- a kind that comes before the flush of a header write
abbrev Early : Kind → Type 0
Early page = Unit {0}
Early directory = Unit {0}
Early trailer = Unit {0}
Early migration = Unit {0}
Early header = ⊥
Early flush = ⊥

module _ {needed : Needs} (blocks area : ℕ) (ranges : List Range) (s : State) (c : List ℕ) (b : FrameBook) (f : Follows needed blocks area ranges s c b) where
  -- ---- a change

  module _ (ws : List FrameBytes) (frames : All (WholeFrame area blocks) ws) (brings : Brings needed area blocks ws b.present) (ok : first_no (room_asks ws s) ≡ 0) where
    o : Ordered (change_frames ws s.current)
    o = (change_many s.area ws s.current f.current_ordered).0

    current_is : sorted_generation s.area (change_frames ws s.current) ≡ (sorted_change ws (sorted s)).current
    unfolding sorted_change
    current_is = (change_many s.area ws s.current f.current_ordered).1

    sorted_change_lem : sorted_change ws (sorted s) ≡ sorted (after_change ws s)
    unfolding sorted_change after_change
    sorted_change_lem = λ i. record {
      area = s.area;
      ranges = s.ranges;
      memory_frames = s.memory_frames;
      commit = s.commit;
      committed = sorted_committed s.committed;
      migrated = s.migrated;
      pending = sorted_generation s.area s.pending;
      tail_down = s.tail_down;
      current = sym current_is i;
    }

    sums : Room (change_frames ws s.current) s
    sums = room_told ws s ok (has_room f)

    new_size : size (change_frames ws s.current) ≡ size_of (sorted_change ws (sorted s)).current
    new_size = same_size s.area (change_frames ws s.current) o ∙ ap size_of current_is

    new_waiting : length (change_frames ws s.current).waiting ≡ length (sorted_change ws (sorted s)).current.waiting
    new_waiting = sym (long_waiting (change_frames ws s.current)) ∙ ap (λ (g : SortedGeneration). length g.waiting) current_is

    pub follows_change : Follows needed blocks area ranges (after_change ws s) c (book_change ws b)
    unfolding after_change
    follows_change = record {
      blocks_is = f.blocks_is;
      area_is = f.area_is;
      ranges_is = f.ranges_is;
      invariant = rw (← sorted_change_lem) (call_change blocks (sorted s) c b ws f.invariant (subst (λ (a : ℕ). All (WholeFrame a blocks) ws) (sym f.area_is) frames)
          (subst (λ (a : ℕ). Brings needed a blocks ws b.present) (sym f.area_is) brings)
          (rw (← new_size) sums.0) (rw (← new_size, ← size_pending f, ← (same_committed s.committed)) sums.1) (omega (arith, new_waiting, long_waiting s.pending, sums.2)));
      pending_ordered = f.pending_ordered;
      current_ordered = o;
      migrated_within = f.migrated_within;
      flushed_after = f.flushed_after;
      owed_before = f.owed_before;
    }

  -- ---- a snapshot

  -- the mark: the next generation starts above the pending one's whole size
  mark_is : ring_at s.area s.current.first (size_of (sorted_generation s.area s.current)) ≡ (after_snapshot s).current.first
  unfolding after_snapshot empty
  mark_is = ap (ring_at s.area s.current.first) (sym (size_current f))

  sorted_snapshot_lem : sorted_snapshot (sorted s) ≡ sorted (after_snapshot s)
  unfolding sorted_snapshot after_snapshot empty
  sorted_snapshot_lem = λ i. record {
    area = s.area;
    ranges = s.ranges;
    memory_frames = s.memory_frames;
    commit = s.commit;
    committed = sorted_committed s.committed;
    migrated = s.migrated;
    pending = sorted_generation s.area s.current;
    tail_down = 0;
    current = (ap sorted_empty mark_is ∙ sym (sorted-empty s.area (after_snapshot s).current.first)) i;
  }

  pub follows_snapshot : first_no (snapshot_asks s) ≡ 0 → Follows needed blocks area ranges (after_snapshot s) c (book_snapshot b)
  unfolding snapshot_asks
  follows_snapshot ok =
      let q = passed_both 15 (eqb (entry_count s.pending) 0) _ ok in
      let r = passed_both 16 (ltb 0 (entry_count s.current)) _ q.1 in
      let t = passed_both 17 (ltb s.commit 4294967295) [] r.1 in
      let idle : count_of (sorted_generation s.area s.pending) ≡ 0 = omega (arith, count_pending f, eqb-true (entry_count s.pending) 0 q.0) in
      record {
        blocks_is = unfold after_snapshot in f.blocks_is;
        area_is = unfold after_snapshot in f.area_is;
        ranges_is = unfold after_snapshot in f.ranges_is;
        invariant = rw (← sorted_snapshot_lem) (call_mark blocks (sorted s) c b f.invariant idle (ltb-true _ _ t.0));
        pending_ordered = unfold after_snapshot in f.current_ordered;
        current_ordered = unfold after_snapshot in (empty_ordered _);
        migrated_within = unfold after_snapshot in f.migrated_within;
        flushed_after = unfold after_snapshot in (λ p. absurd (omega (arith, (f.flushed_after p).0, eqb-true (entry_count s.pending) 0 q.0)));
        owed_before = unfold after_snapshot in (λ p. ((f.owed_before p).0, refl));
      }

  -- ---- advance: the layer above tells how far entries are passed over, of frames that are not needed

  pub follows_pass : (n : ℕ) → Passed needed b.kept n s → Follows needed blocks area ranges (pass_to n s) c b
  unfolding next_migration
  follows_pass n p =
      let i = f.invariant in
      record {
        blocks_is = f.blocks_is;
        area_is = f.area_is;
        ranges_is = f.ranges_is;
        invariant = record {
          recoverable = i.recoverable;
          half_pending = i.half_pending;
          half_current = i.half_current;
          seated = i.seated;
          pending_ok = i.pending_ok;
          current_ok = i.current_ok;
          pending_first_lem = i.pending_first_lem;
          current_first_lem = i.current_first_lem;
          room = i.room;
          limit = i.limit;
          tail_down_fits = i.tail_down_fits;
          tail_down_after = i.tail_down_after;
          tail_down_ok = i.tail_down_ok;
          migrated_ok = all_on (λ e. needed b.kept e.frame ≡ true → block_at c e.frame ≡ b.kept e.frame) s.migrated n s.committed.entries _ i.migrated_ok
              (λ j l h k t. absurd (false≢true (sym (p.1 j l h) ∙ t)));
          mark = i.mark;
          now = i.now;
        };
        pending_ordered = f.pending_ordered;
        current_ordered = f.current_ordered;
        migrated_within = p.0;
        flushed_after = λ t. let d = f.flushed_after t in (d.0, d.1, d.2, omega (arith, d.3, p.2));
        owed_before = λ t. let d = f.owed_before t in (p.3 t ∙ d.0, d.1);
      }

  same_after : (k : Kind) → Facts s k → sorted_next k (sorted s) ≡ sorted (after_kind k s)
  unfolding sorted_after after_kind
  same_after page h = λ i. record {
    area = s.area;
    ranges = s.ranges;
    memory_frames = s.memory_frames;
    commit = s.commit;
    committed = sorted_committed s.committed;
    migrated = s.migrated;
    pending = sym (sorted_out s.area s.pending f.pending_ordered h.0) i;
    tail_down = s.tail_down;
    current = sorted_generation s.area s.current;
  }
  same_after directory h = refl
  same_after trailer h = refl
  same_after migration h = refl
  same_after header h = rw (sorted-empty s.area s.current.first) (λ i. record {
    area = s.area;
    ranges = s.ranges;
    memory_frames = s.memory_frames;
    commit = suc s.commit;
    committed = record { first = s.pending.first; pages_down = s.pending.pages_down; dir = directory_of s.area s.pending; waiting = no_waiting f h.0.1 i };
    migrated = 0;
    pending = sorted_empty s.current.first;
    tail_down = 0;
    current = sorted_generation s.area s.current;
  })
  same_after flush h = refl

  after_invariant : (k : Kind) → Facts s k → Invariant needed blocks (sorted_next k (sorted s)) (put_down (sorted_put k (sorted s) c) c) (book_wrote k b)
  after_invariant page h = step_P blocks (sorted s) c b f.invariant (some_waiting s.pending h.0)
  after_invariant directory h = step_D blocks (sorted s) c b f.invariant (no_waiting f h.1) (tail_below f h.1 h.0 h.2)
  after_invariant trailer h = step_T blocks (sorted s) c b f.invariant (no_waiting f h.1) (tail_below f h.1 h.0 h.2)
  after_invariant migration h = step_M blocks (sorted s) c b f.invariant h.0
  after_invariant header h = step_H blocks (sorted s) c b f.invariant (omega (arith, count_pending f, h.0.0)) (no_waiting f h.0.1) (omega (arith, all_named f h.0.1, h.0.2)) h.0.3
  after_invariant flush h = f.invariant

  after-places : (k : Kind) → Facts s k → ((after_kind k s).blocks ≡ blocks) × ((after_kind k s).area ≡ area) × ((after_kind k s).ranges ≡ ranges) × Ordered (after_kind k s).pending × Ordered (after_kind k s).current × ((after_kind k s).migrated ≤ length (after_kind k s).committed.entries)
  unfolding after_kind
  after-places page h = (f.blocks_is, f.area_is, f.ranges_is, out_ordered s.pending f.pending_ordered h.0, f.current_ordered, f.migrated_within)
  after-places directory h = (f.blocks_is, f.area_is, f.ranges_is, f.pending_ordered, f.current_ordered, f.migrated_within)
  after-places trailer h = (f.blocks_is, f.area_is, f.ranges_is, f.pending_ordered, f.current_ordered, f.migrated_within)
  after-places migration h = (f.blocks_is, f.area_is, f.ranges_is, f.pending_ordered, f.current_ordered, h.0)
  after-places header h = (f.blocks_is, f.area_is, f.ranges_is, empty_ordered s.current.first, f.current_ordered, omega arith)
  after-places flush h = (f.blocks_is, f.area_is, f.ranges_is, f.pending_ordered, f.current_ordered, f.migrated_within)

  -- the flush before the header write comes after all else
  not_flushed : (k : Kind) → Facts s k → is_flushed s.phase ≡ true → Early k → ⊥
  not_flushed page h p e = omega (arith, h.0, (f.flushed_after p).1)
  not_flushed directory h p e = omega (arith, h.2, (f.flushed_after p).2)
  not_flushed trailer h p e = omega (arith, h.2, (f.flushed_after p).2)
  not_flushed migration h p e = omega (arith, h.0, (f.flushed_after p).3)
  not_flushed header h p e = e
  not_flushed flush h p e = e

  after_flush_lem : (p : Phase) → s.phase ≡ p → Facts s flush → (is_flushed (after_flush p) ≡ true → AllDown s) × (is_owed (after_flush p) ≡ true → ⊥)
  after_flush_lem writing e (inl o) = absurd (false≢true (ap is_owed (sym e) ∙ o))
  after_flush_lem writing e (inr d) = ((λ t. d.0), λ t. false≢true t)
  after_flush_lem flushed e (inl o) = absurd (false≢true (ap is_owed (sym e) ∙ o))
  after_flush_lem flushed e (inr d) = ((λ t. d.0), λ t. false≢true t)
  after_flush_lem owed e (inl o) = ((λ t. absurd (false≢true t)), λ t. false≢true t)
  after_flush_lem owed e (inr d) = ((λ t. d.0), λ t. false≢true t)

  abbrev Phased : State → Type 0
  Phased t = (is_flushed t.phase ≡ true → AllDown t) × (is_owed t.phase ≡ true → (t.migrated ≡ 0) × (t.tail_down ≡ 0))

  unowed : is_owed s.phase ≡ false → is_owed s.phase ≡ true → ⊥
  unowed a b = false≢true (sym a ∙ b)

  after_phase : (k : Kind) → Facts s k → Phased (after_kind k s)
  unfolding after_kind
  after_phase page h = ((λ p. absurd (not_flushed page h p tt)), λ o. absurd (unowed h.1 o))
  after_phase directory h = ((λ p. absurd (not_flushed directory h p tt)), λ o. absurd (unowed h.3 o))
  after_phase trailer h = ((λ p. absurd (not_flushed trailer h p tt)), λ o. absurd (unowed h.3 o))
  after_phase migration h = ((λ p. absurd (not_flushed migration h p tt)), λ o. absurd (unowed h.1 o))
  after_phase header h = ((λ p. absurd (false≢true p)), λ o. (refl, refl))
  after_phase flush h = let t = after_flush_lem s.phase refl h in (t.0, λ o. absurd (t.1 o))

  pub follows_advance : (k : Kind) → advance_due s ≡ some k → Follows needed blocks area ranges (after_kind k s) (put_down (kind_put k (kind_write k s c)) c) (book_wrote k b)
  follows_advance k e =
      let h : Facts s k = subst (FactsOf s) e (due_facts s) in
      let p = after-places k h in
      let q = after_phase k h in
      record {
        blocks_is = p.0;
        area_is = p.1;
        ranges_is = p.2;
        invariant = rw (← (same_after k h), same_put s c k) (after_invariant k h);
        pending_ordered = p.3;
        current_ordered = p.4;
        migrated_within = p.5;
        flushed_after = q.0;
        owed_before = q.1;
      }

  -- ---- page-out

  current_after : 0 < length s.current.waiting → sorted_after current_out (sorted s) ≡ sorted (current_to (out_of s.current) s)
  unfolding sorted_after
  current_after h = λ i. record {
    area = s.area;
    ranges = s.ranges;
    memory_frames = s.memory_frames;
    commit = s.commit;
    committed = sorted_committed s.committed;
    migrated = s.migrated;
    pending = sorted_generation s.area s.pending;
    tail_down = s.tail_down;
    current = sym (sorted_out s.area s.current f.current_ordered h) i;
  }

  pub current_write : out_write s.area s.current ≡ sorted_write current_out (sorted s) c
  unfolding sorted_write
  current_write = λ i. record { block = ring_at s.area s.current.first s.current.pages_down; bytes = oldest_is s.area s.current i }

  page_invariant : (h : 0 < length s.pending.waiting) → Invariant needed blocks (sorted (pending_to (out_of s.pending) s.tail_down s)) (put_down (some (out_write s.area s.pending)) c) b
  unfolding sorted_after kind_write
  page_invariant h = rw (sorted_out s.area s.pending f.pending_ordered h)
      (subst (λ (w : BlockWrite). Invariant needed blocks (sorted_after pending_out (sorted s)) (put_block c w.block w.bytes) b) (sym (same_page s c)) (step_P blocks (sorted s) c b f.invariant (some_waiting s.pending h)))

  module _ (ok : first_no (page_out_asks s) ≡ 0) where
    asked_out : (not (is_owed s.phase) ≡ true) × (0 < length s.pending.waiting + length s.current.waiting)
    unfolding page_out_asks
    asked_out = let q = passed_both 27 (not (is_owed s.phase)) _ ok in (q.0, ltb-true _ _ (passed_both 18 (ltb 0 (length s.pending.waiting + length s.current.waiting)) [] q.1).0)

    -- questions 28 and 19
    pub none_owed : is_owed s.phase ≡ false
    none_owed = go (is_owed s.phase) asked_out.0
      where
        go : (t : Bool) → not t ≡ true → t ≡ false
        go true e = absurd (false≢true e)
        go false e = refl

    pub some_waits : 0 < length s.pending.waiting + length s.current.waiting
    some_waits = asked_out.1

    pub follows_out : Follows needed blocks area ranges (after_page_out s) (put_down (some (page_out_write s)) c) b
    unfolding after_page_out page_out_write
    follows_out = go (ltb 0 (length s.pending.waiting)) refl
      where
        go : (t : Bool) → ltb 0 (length s.pending.waiting) ≡ t
            → Follows needed blocks area ranges (cond t (pending_to (out_of s.pending) s.tail_down s) (current_to (out_of s.current) s))
            (put_block c (cond t (out_write s.area s.pending) (out_write s.area s.current)).block (cond t (out_write s.area s.pending) (out_write s.area s.current)).bytes) b
        go true e =
            let h : 0 < length s.pending.waiting = ltb-true _ _ e in
            record {
              blocks_is = f.blocks_is;
              area_is = f.area_is;
              ranges_is = f.ranges_is;
              invariant = page_invariant h;
              pending_ordered = out_ordered s.pending f.pending_ordered h;
              current_ordered = f.current_ordered;
              migrated_within = f.migrated_within;
              flushed_after = λ p. absurd (omega (arith, h, (f.flushed_after p).1));
              owed_before = f.owed_before;
            }
        go false e =
            let h : 0 < length s.current.waiting = omega (arith, some_waits, ltb-false 0 (length s.pending.waiting) e) in
            record {
              blocks_is = f.blocks_is;
              area_is = f.area_is;
              ranges_is = f.ranges_is;
              invariant = rw (← (current_after h)) (subst (λ (w : BlockWrite). Invariant needed blocks (sorted_after current_out (sorted s)) (put_block c w.block w.bytes) b) (sym current_write) (step_C blocks (sorted s) c b f.invariant (some_waiting s.current h)));
              pending_ordered = f.pending_ordered;
              current_ordered = out_ordered s.current f.current_ordered h;
              migrated_within = f.migrated_within;
              flushed_after = f.flushed_after;
              owed_before = f.owed_before;
            }
