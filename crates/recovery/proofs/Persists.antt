-- A state with its drive: every step keeps what a cut after it needs, and a cut, between calls or in one, leaves what
-- the book keeps.
--
--   1. The state follows the book on the card that the calls see.
--   2. The drive is durable for the state's committed generation.
--   3. Between the flush before a header write and that write, what is not flushed does no harm to the pending
--      generation either: it is page-outs of the current one.
--   4. Unless a flush is owed, no header write is unflushed.
-- Assumes nothing.
use Prim.Native.Nat.{ℕ, suc, ◌<◌}
use borrow.Author.Tests.{ltb-true, ltb-false}
use lib.Dec.{ltb}
use lib.ListN.{length}
use mathlib.Core.Bool.{Bool, true, false, cond, false≢true}
use mathlib.Core.List.{List, [], ◌∷◌}
use mathlib.Core.Logic.{⊎_elim}
use mathlib.Core.Option.{Option, none, some}
use mathlib.Core.Path.{◌≡◌, refl, sym, subst}
use native.Mathlib.Omega.{arith}
use Rattle.card.proofs.AllLaws.{all_join}
use Rattle.card.proofs.Test.{by_test}
use Rattle.card.specs.Bytes.{All}
use Rattle.card.specs.Question.{first_no}
use Rattle.card.specs.Range.{Range}
use Rattle.recovery.proofs.Calls.{committed_read}
use Rattle.recovery.proofs.DriveLaws.{seen-written, no_header}
use Rattle.recovery.proofs.Durable.{Durable, durable_cut, settled_durable, write_durable, header_durable}
use Rattle.recovery.proofs.Follows.{Stored, AllDown, Follows, Passed, Facts, FactsOf, due_facts, flushed_not_owed, count_pending, no_waiting, all_named, tail_below}
use Rattle.recovery.proofs.FollowsStep.{same_page, current_write, follows_change, follows_snapshot, follows_pass, follows_advance, follows_out, none_owed, some_waits}
use Rattle.recovery.proofs.FrameTheorem.{stored_start}
use Rattle.recovery.proofs.Harmless.{Harmless}
use Rattle.recovery.proofs.Invariant.{Recoverable}
use Rattle.recovery.proofs.OrderedLaws.{some_waiting}
use Rattle.recovery.proofs.Sorted.{SortedGeneration, sorted_committed, sorted_generation, sorted, tail_block, trailer_at, next_home, sorted_write, sorted_committed_on}
use Rattle.recovery.proofs.StepHead.{recoverable_H, long_H}
use Rattle.recovery.proofs.StepMove.{harmless_M, long_M}
use Rattle.recovery.proofs.StepOut.{harmless_P, long_P, harmless_C, long_C, beyond_C}
use Rattle.recovery.proofs.StepTail.{harmless_D, long_D, harmless_T, long_T}
use Rattle.recovery.specs.Book.{FrameBook, marked_or, book_change, book_snapshot, book_start, book_wrote, kept_before, book_cut, WholeFrame, Needs, Brings}
use Rattle.recovery.specs.Contents.{Contents, FrameBytes}
use Rattle.recovery.specs.Questions.{room_asks, snapshot_asks, page_out_asks}
use Rattle.recovery.specs.State.{State, directory_of, is_owed, is_flushed}
use Rattle.recovery.specs.Step.{after_change, after_snapshot, Kind, page, directory, trailer, migration, header, flush, out_write, tail_bytes, trailer_block_no, next_migration, kind_write, kind_put, kind_drive, after_kind, advance_due, page_out_write, after_page_out, start_state, pass_to}
use Rattle.recovery.specs.Write.{BlockWrite, put_down, Drive, put_all, seen, settled, written, Spoilt, Cut, HeaderIs, Reached, ReachedIs}

-- the card that is seen after a kind
pub seen_drive : (k : Kind) (w : BlockWrite) (v : Drive) → seen (kind_drive k (kind_put k w) v) ≡ put_down (kind_put k w) (seen v)
unfolding kind_put
seen_drive page w v = seen-written v w
seen_drive directory w v = seen-written v w
seen_drive trailer w v = seen-written v w
seen_drive migration w v = seen-written v w
seen_drive header w v = seen-written v w
seen_drive flush w v = unfold put_all in refl

-- without a record: what a start finds, and what it would find after a cut
abbrev pub Preserved : Needs → ℕ → ℕ → List Range → Drive → Contents → Option Contents → Type 0
Preserved needed blocks area ranges v kept before = (commit : ℕ) × (g : SortedGeneration) × Durable needed blocks area ranges commit g v kept before

pub record Persists (needed : Needs) (blocks area : ℕ) (ranges : List Range) (s : State) (v : Drive) (b : FrameBook) (before : Option Contents) : Type 0 where
  pub follows : Follows needed blocks area ranges s (seen v) b  -- 1
  pub durable : Durable needed blocks area ranges s.commit (sorted_committed s.committed) v b.kept before  -- 2
  pub clear : is_flushed s.phase ≡ true → All (λ w. Harmless blocks area (sorted_generation s.area s.pending) w.block) v.since  -- 3
  pub none_before : is_owed s.phase ≡ false → before ≡ none  -- 4

module _ {needed : Needs} (blocks area : ℕ) (ranges : List Range) where
  pub persists_preserved : (s : State) (v : Drive) (b : FrameBook) (before : Option Contents) → Persists needed blocks area ranges s v b before → Preserved needed blocks area ranges v b.kept before
  persists_preserved s v b before p = (s.commit, sorted_committed s.committed, p.durable)

  -- a card that is stored, all of it flushed
  pub settled_preserved : (c : List ℕ) (kept : Contents) → Stored needed blocks area ranges c kept → Preserved needed blocks area ranges (settled c) kept none
  settled_preserved c kept k = (k.0, k.1, settled_durable blocks area ranges k.0 k.1 c kept k.2)

  pub preserved_stored : (v : Drive) (kept : Contents) (before : Option Contents) → Preserved needed blocks area ranges v kept before → Stored needed blocks area ranges (seen v) kept
  preserved_stored v kept before k = (k.0, k.1, k.2.card)

  -- ---- a start, with or without a cut before it: what is not flushed stays so

  pub persists_start : (v : Drive) (b : FrameBook) (before : Option Contents) → Preserved needed blocks area ranges v b.kept before → (m : List ℕ) → Persists needed blocks area ranges (start_state m (seen v)) v (book_start b) before
  persists_start v b before k m = record {
    follows = stored_start blocks area ranges (seen v) b (preserved_stored v b.kept before k) m;
    durable = unfold start_state sorted_committed_on in (same _ _ k.2.card.head.commit_is (committed_read blocks area ranges k.0 k.1 (seen v) b.kept k.2.card));
    clear = unfold start_state in (λ p. absurd (false≢true p));
    none_before = unfold start_state in (λ p. absurd (false≢true (sym p)));
  }
    where
      same : (commit : ℕ) (g : SortedGeneration) → commit ≡ k.0 → g ≡ k.1 → Durable needed blocks area ranges commit g v b.kept before
      same commit g e q = rw (e, q) k.2

  -- ---- cuts

  -- without a header write that is not flushed none can be found
  pub none_reached : (v : Drive) (kept : Contents) → Preserved needed blocks area ranges v kept none → (c' : List ℕ) → Reached v.since c' → ⊥
  none_reached v kept k c' r = subst (λ (o : Option (List ℕ)). HeaderIs o c') (no_header none v.since k.2.earlier) r

  -- a cut between calls, and one in a call, whose write is then one of those that are not flushed
  pub preserved_cut : (v : Drive) (b : FrameBook) (before : Option Contents) → Preserved needed blocks area ranges v b.kept before → (c' : List ℕ) → Spoilt c' v.since v.flushed → (reached : Bool)
      → ReachedIs v.since c' reached → Preserved needed blocks area ranges (settled c') (book_cut before reached b).kept none
  preserved_cut v b none k c' l reached r =
      let t = durable_cut blocks area ranges k.0 k.1 v b.kept none k.2 c' l in
      settled_preserved c' (book_cut none reached b).kept (⊎_elim (λ q. absurd (none_reached v b.kept k c' q.0)) (λ q. rw q.1 (t.1 q.0)) r)
  preserved_cut v b (some e) k c' l reached r =
      let t = durable_cut blocks area ranges k.0 k.1 v b.kept (some e) k.2 c' l in
      settled_preserved c' (book_cut (some e) reached b).kept (⊎_elim (λ q. rw q.1 (t.0 q.0)) (λ q. rw q.1 (t.1 q.0)) r)

  -- a cut in a header write: it is found, and what was marked is kept, or it is not
  header_cut : (v : Drive) (b : FrameBook) → Preserved needed blocks area ranges v (marked_or b) (some b.kept) → (c' : List ℕ) → Spoilt c' v.since v.flushed → (reached : Bool)
      → ReachedIs v.since c' reached → Preserved needed blocks area ranges (settled c') (book_cut none reached b).kept none
  header_cut v b k c' l reached r =
      let t = durable_cut blocks area ranges k.0 k.1 v (marked_or b) (some b.kept) k.2 c' l in
      settled_preserved c' (book_cut none reached b).kept (⊎_elim (λ q. rw q.1 (t.0 q.0)) (λ q. rw q.1 (t.1 q.0)) r)

  module _ (s : State) (v : Drive) (b : FrameBook) (before : Option Contents) (p : Persists needed blocks area ranges s v b before) where
    abbrev f : Follows needed blocks area ranges s (seen v) b
    f = p.follows

    -- ---- changes and snapshots write nothing

    pub persists_change : (ws : List FrameBytes) → All (WholeFrame area blocks) ws → Brings needed area blocks ws b.present → first_no (room_asks ws s) ≡ 0 → Persists needed blocks area ranges (after_change ws s) v (book_change ws b) before
    persists_change ws frames brings ok = record {
      follows = follows_change blocks area ranges s (seen v) b f ws frames brings ok;
      durable = unfold after_change in p.durable;
      clear = unfold after_change in p.clear;
      none_before = unfold after_change in p.none_before;
    }

    not_yet : AllDown (after_snapshot s) → ⊥
    unfolding after_snapshot
    not_yet d = omega (arith, d.2)

    pub persists_snapshot : first_no (snapshot_asks s) ≡ 0 → Persists needed blocks area ranges (after_snapshot s) v (book_snapshot b) before
    persists_snapshot ok =
        let next = follows_snapshot blocks area ranges s (seen v) b f ok in
        record {
          follows = next;
          durable = unfold after_snapshot in p.durable;
          clear = λ t. absurd (not_yet (next.flushed_after t));
          none_before = unfold after_snapshot in p.none_before;
        }

    -- ---- nor does passing entries over: the committed generation, which a header write that is found old would leave, is the same

    pub persists_pass : (n : ℕ) → Passed needed b.kept n s → Persists needed blocks area ranges (pass_to n s) v b before
    persists_pass n q = record { follows = follows_pass blocks area ranges s (seen v) b f n q; durable = p.durable; clear = p.clear; none_before = p.none_before }

    -- ---- a write that does no harm, where no flush is owed

    module _ (calm : is_owed s.phase ≡ false) (w : BlockWrite) (long : length w.bytes ≡ 512) (safe : Harmless blocks s.area (sorted_committed s.committed) w.block) where
      wrote_durable : Durable needed blocks area ranges s.commit (sorted_committed s.committed) (written (some w) v) b.kept before
      wrote_durable = rw (p.none_before calm) (write_durable blocks area ranges s.commit (sorted_committed s.committed) v b.kept (rw (p.none_before calm) at p.durable) w long
          (subst (λ (a : ℕ). Harmless blocks a (sorted_committed s.committed) w.block) f.area_is safe))

    -- ---- advance

    -- the kinds that write the area or a home frame
    abbrev Quiet : BlockWrite → Type 0
    Quiet w = (length w.bytes ≡ 512) × Harmless blocks s.area (sorted_committed s.committed) w.block

    quiet_page : Facts s page → Quiet (kind_write page s (seen v))
    quiet_page h =
        let more = some_waiting s.pending h.0 in
        rw (same_page s (seen v)) (long_P blocks (sorted s) (seen v) b f.invariant more, harmless_P blocks (sorted s) (seen v) b f.invariant more)

    quiet_out : Facts s page → Quiet (out_write s.area s.pending)
    unfolding kind_write
    quiet_out h = quiet_page h

    quiet_directory : Facts s directory → Quiet (kind_write directory s (seen v))
    unfolding kind_write sorted_write tail_bytes tail_block
    quiet_directory h =
        let still = no_waiting f h.1 in
        let more = tail_below f h.1 h.0 h.2 in
        (long_D blocks (sorted s) (seen v) b f.invariant still more, harmless_D blocks (sorted s) (seen v) b f.invariant still more)

    quiet_trailer : Facts s trailer → Quiet (kind_write trailer s (seen v))
    unfolding kind_write sorted_write tail_bytes tail_block
    quiet_trailer h =
        let still = no_waiting f h.1 in
        let more = tail_below f h.1 h.0 h.2 in
        (long_T blocks (sorted s) (seen v) b f.invariant still more, harmless_T blocks (sorted s) (seen v) b f.invariant still more)

    quiet_migration : Facts s migration → Quiet (kind_write migration s (seen v))
    unfolding kind_write sorted_write next_migration next_home
    quiet_migration h = (long_M blocks (sorted s) (seen v) b f.invariant h.0, harmless_M blocks (sorted s) (seen v) b f.invariant h.0)

    head_long : Facts s header → length (kind_write header s (seen v)).bytes ≡ 512
    unfolding kind_write sorted_write trailer_block_no trailer_at
    head_long h = long_H blocks (sorted s) (seen v) b f.invariant (omega (arith, count_pending f, h.0.0)) (no_waiting f h.0.1) (omega (arith, all_named f h.0.1, h.0.2)) h.0.3

    head_recoverable : Facts s header → Recoverable needed blocks s.area s.ranges (suc s.commit) (sorted_generation s.area s.pending) (put_down (some (kind_write header s (seen v))) (seen v)) (marked_or b)
    unfolding kind_write sorted_write trailer_block_no trailer_at
    head_recoverable h = recoverable_H blocks (sorted s) (seen v) b f.invariant (omega (arith, count_pending f, h.0.0)) (no_waiting f h.0.1) (omega (arith, all_named f h.0.1, h.0.2)) h.0.3

    head_at : (kind_write header s (seen v)).block ≡ 0
    unfolding kind_write
    head_at = refl

    quiet_gen : (h : Facts s header) → sorted_generation s.area s.pending ≡ sorted_committed (record { first = s.pending.first; places = s.pending.pages_down; entries = directory_of s.area s.pending })
    quiet_gen h = λ i. record { first = s.pending.first; pages_down = s.pending.pages_down; dir = directory_of s.area s.pending; waiting = no_waiting f h.0.1 i }

    -- the flush before a header write and the flush after it meet here: what is not flushed when the header is
    -- written does no harm to the old generation or the new one
    head_durable : Facts s header → Durable needed blocks area ranges (suc s.commit) (sorted_generation s.area s.pending) (written (some (kind_write header s (seen v))) v) (marked_or b) (some b.kept)
    head_durable h =
        let calm = flushed_not_owed s.phase h.1 in
        header_durable blocks area ranges s.commit (sorted_committed s.committed) v b.kept (rw (p.none_before calm) at p.durable) (kind_write header s (seen v)) (head_long h) head_at
        (suc s.commit) (sorted_generation s.area s.pending) (marked_or b)
        (subst (λ (a : ℕ). Recoverable needed blocks a ranges (suc s.commit) (sorted_generation s.area s.pending) (put_down (some (kind_write header s (seen v))) (seen v)) (marked_or b)) f.area_is
        (subst (λ (rs : List Range). Recoverable needed blocks s.area rs (suc s.commit) (sorted_generation s.area s.pending) (put_down (some (kind_write header s (seen v))) (seen v)) (marked_or b)) f.ranges_is (head_recoverable h)))
        (p.clear h.1)

    abbrev Next : Kind → Type 0
    Next k = Durable needed blocks area ranges (after_kind k s).commit (sorted_committed (after_kind k s).committed) (kind_drive k (kind_put k (kind_write k s (seen v))) v) (book_wrote k b).kept (kept_before k b before)
        × (is_flushed (after_kind k s).phase ≡ true → All (λ w. Harmless blocks area (sorted_generation (after_kind k s).area (after_kind k s).pending) w.block) (kind_drive k (kind_put k (kind_write k s (seen v))) v).since)
        × (is_owed (after_kind k s).phase ≡ false → kept_before k b before ≡ none)

    next : (k : Kind) → Facts s k → Next k
    unfolding after_kind kind_put
    next page h = let q = quiet_page h in (
      wrote_durable h.1 (kind_write page s (seen v)) q.0 q.1,
      (λ t. absurd (omega (arith, h.0, (f.flushed_after t).1))),
      p.none_before,
    )
    next directory h = let q = quiet_directory h in (
      wrote_durable h.3 (kind_write directory s (seen v)) q.0 q.1,
      (λ t. absurd (omega (arith, h.2, (f.flushed_after t).2))),
      p.none_before,
    )
    next trailer h = let q = quiet_trailer h in (
      wrote_durable h.3 (kind_write trailer s (seen v)) q.0 q.1,
      (λ t. absurd (omega (arith, h.2, (f.flushed_after t).2))),
      p.none_before,
    )
    next migration h = let q = quiet_migration h in (
      wrote_durable h.1 (kind_write migration s (seen v)) q.0 q.1,
      (λ t. absurd (omega (arith, h.0, (f.flushed_after t).3))),
      p.none_before,
    )
    next header h = (
      subst (λ (g : SortedGeneration). Durable needed blocks area ranges (suc s.commit) g (written (some (kind_write header s (seen v))) v) (marked_or b) (some b.kept)) (quiet_gen h) (head_durable h),
      (λ t. absurd (false≢true t)),
      (λ t. absurd (false≢true (sym t))),
    )
    next flush h = (settled_durable blocks area ranges s.commit (sorted_committed s.committed) (seen v) b.kept p.durable.card, (λ t. tt), (λ t. refl))

    pub persists_advance : (k : Kind) → advance_due s ≡ some k
        → Persists needed blocks area ranges (after_kind k s) (kind_drive k (kind_put k (kind_write k s (seen v))) v) (book_wrote k b) (kept_before k b before)
    persists_advance k e =
        let h : Facts s k = subst (FactsOf s) e (due_facts s) in
        let n = next k h in
        record { follows = rw (seen_drive k (kind_write k s (seen v)) v) (follows_advance blocks area ranges s (seen v) b f k e); durable = n.0; clear = n.1; none_before = n.2 }

    -- a cut in it
    pub cut_advance : (k : Kind) → advance_due s ≡ some k → (c' : List ℕ) → Cut Spoilt v (kind_put k (kind_write k s (seen v))) c' → (reached : Bool) → ReachedIs (written (kind_put k (kind_write k s (seen v))) v).since c' reached
        → Preserved needed blocks area ranges (settled c') (book_cut before reached b).kept none
    cut_advance k e c' l reached r = go k (subst (FactsOf s) e (due_facts s)) l r
      where
        quiet : (w : BlockWrite) → is_owed s.phase ≡ false → Quiet w → Cut Spoilt v (some w) c' → ReachedIs (written (some w) v).since c' reached → Preserved needed blocks area ranges (settled c') (book_cut before reached b).kept none
        quiet w calm q l r = preserved_cut (written (some w) v) b before (s.commit, sorted_committed s.committed, wrote_durable calm w q.0 q.1) c' l reached r

        go : (j : Kind) → Facts s j → Cut Spoilt v (kind_put j (kind_write j s (seen v))) c' → ReachedIs (written (kind_put j (kind_write j s (seen v))) v).since c' reached
            → Preserved needed blocks area ranges (settled c') (book_cut before reached b).kept none
        go page h l r = unfold kind_put in (quiet (kind_write page s (seen v)) h.1 (quiet_page h) l r)
        go directory h l r = unfold kind_put in (quiet (kind_write directory s (seen v)) h.3 (quiet_directory h) l r)
        go trailer h l r = unfold kind_put in (quiet (kind_write trailer s (seen v)) h.3 (quiet_trailer h) l r)
        go migration h l r = unfold kind_put in (quiet (kind_write migration s (seen v)) h.1 (quiet_migration h) l r)
        go header h l r = unfold kind_put in (rw (p.none_before (flushed_not_owed s.phase h.1))
            (header_cut (written (some (kind_write header s (seen v))) v) b (suc s.commit, sorted_generation s.area s.pending, head_durable h) c' l reached r))
        go flush h l r = unfold kind_put in (preserved_cut v b before (persists_preserved s v b before p) c' l reached r)

    -- ---- page-out

    module _ (ok : first_no (page_out_asks s) ≡ 0) where
      -- its write: it does no harm to the committed generation, and after the flush before a header write none to the
      -- pending one
      abbrev Out : BlockWrite → Type 0
      Out w = Quiet w × (is_flushed s.phase ≡ true → Harmless blocks s.area (sorted_generation s.area s.pending) w.block)

      out_quiet : Out (page_out_write s)
      unfolding page_out_write
      out_quiet = go (ltb 0 (length s.pending.waiting)) refl
        where
          go : (t : Bool) → ltb 0 (length s.pending.waiting) ≡ t → Out (cond t (out_write s.area s.pending) (out_write s.area s.current))
          go true e =
              let h : 0 < length s.pending.waiting = ltb-true _ _ e in
              (quiet_out (h, none_owed blocks area ranges s (seen v) b f ok), λ t. absurd (omega (arith, h, (f.flushed_after t).1)))
          go false e =
              let h : 0 < length s.current.waiting = omega (arith, some_waits blocks area ranges s (seen v) b f ok, ltb-false 0 (length s.pending.waiting) e) in
              let more = some_waiting s.current h in
              subst Out (sym (current_write blocks area ranges s (seen v) b f))
              ((long_C blocks (sorted s) (seen v) b f.invariant more, harmless_C blocks (sorted s) (seen v) b f.invariant more), λ t. beyond_C blocks (sorted s) (seen v) b f.invariant more)

      out_durable : Durable needed blocks area ranges s.commit (sorted_committed s.committed) (written (some (page_out_write s)) v) b.kept before
      out_durable = wrote_durable (none_owed blocks area ranges s (seen v) b f ok) (page_out_write s) out_quiet.0.0 out_quiet.0.1

      -- of the state after it
      abbrev Out' : State → Type 0
      Out' t = Durable needed blocks area ranges t.commit (sorted_committed t.committed) (written (some (page_out_write s)) v) b.kept before
          × (is_flushed t.phase ≡ true → All (λ w. Harmless blocks area (sorted_generation t.area t.pending) w.block) (written (some (page_out_write s)) v).since)
          × (is_owed t.phase ≡ false → before ≡ none)

      out_next : Out' (after_page_out s)
      unfolding after_page_out
      out_next = by_test Out' (ltb 0 (length s.pending.waiting))
          (λ e. (out_durable, (λ t. absurd (omega (arith, ltb-true 0 (length s.pending.waiting) e, (f.flushed_after t).1))), p.none_before))
          (λ e. (
            out_durable,
            (λ t. all_join (λ w. Harmless blocks area (sorted_generation s.area s.pending) w.block) v.since (page_out_write s ∷ []) (p.clear t)
                (subst (λ (a : ℕ). Harmless blocks a (sorted_generation s.area s.pending) (page_out_write s).block) f.area_is (out_quiet.1 t), tt)),
            p.none_before,
          ))

      pub persists_out : Persists needed blocks area ranges (after_page_out s) (written (some (page_out_write s)) v) b before
      persists_out = record { follows = rw (seen-written v (page_out_write s)) (follows_out blocks area ranges s (seen v) b f ok); durable = out_next.0; clear = out_next.1; none_before = out_next.2 }

      pub cut_out : (c' : List ℕ) → Cut Spoilt v (some (page_out_write s)) c' → (reached : Bool) → ReachedIs (written (some (page_out_write s)) v).since c' reached
          → Preserved needed blocks area ranges (settled c') (book_cut before reached b).kept none
      cut_out c' l reached r = preserved_cut (written (some (page_out_write s)) v) b before (s.commit, sorted_committed s.committed, out_durable) c' l reached r
