-- The plain machine beside what is lent to a call: it is asked the same, and of a call that is done it has the answer, the block and the tables.
-- Assumes nothing.
use Prim.Native.Nat.{ℕ, ◌+◌, ◌<◌}
use borrow.Author.Tests.{ltb-true, lt-ltb, ne_eqb}
use lib.ListN.{length}
use mathlib.Core.Bool.{Bool, true, false, not, false≢true}
use mathlib.Core.List.{List, [], ◌∷◌, ◌++◌}
use mathlib.Core.Option.{Option, none, some}
use mathlib.Core.Path.{◌≡◌, refl, ap, sym, ◌∙◌}
use native.Mathlib.Decide.{ℕ_discrete}
use native.Mathlib.Omega.{arith}
use Rattle.card.proofs.QuestionLaws.{passed_both, group_yes, group_no}
use Rattle.card.specs.Bytes.{All}
use Rattle.card.specs.Question.{Question, first_no}
use Rattle.card.specs.Range.{Range, geometry_fits, all_blocks, Located}
use Rattle.card.specs.declared.range.Address.{Address}
use Rattle.frames.proofs.Run.{told, Asked}
use Rattle.frames.specs.Promise.{Lent, meaning_of, common, FrameCall, past}
use Rattle.pages.proofs.AnswerLaws.{Later, own_asks, asks-numbered, on_passed}
use Rattle.pages.proofs.BlankLaws.{blank_change, blank_snapshot, blank_page_out, blank_kind}
use Rattle.pages.proofs.CanLaws.{passed_can, edits-apart}
use Rattle.pages.proofs.EditLaws.{place_on, SameRows, Long, changes_long, Alike, page_alike, CanAll, Made, frames_more, edits_made}
use Rattle.pages.proofs.LedgerLaws.{none_pending, some_change, change_notes, out_keeps, kind_current, kind_marked, kind_phase, out_phase, room_is, due_is, advance_is, forecast_is, waiting_is, out_is, kind_is, passed_is, past_is}
use Rattle.pages.proofs.NeededLaws.{needed_same, not_true, not_false}
use Rattle.pages.proofs.PlaceLaws.{fits, gap_same, outside_same, placed_as}
use Rattle.pages.specs.Call.{PageCall, key, read, write, rescind, Call, start, on, snapshot, page_out, advance, forecast, Answer, wrote, foretold, page_asks, edits, page_answer}
use Rattle.pages.specs.Change.{Change, put, empty, Edit, write_frames, changed_frames, at_place, edit_frames}
use Rattle.pages.specs.Needed.{needed}
use Rattle.pages.specs.Page.{Page}
use Rattle.pages.specs.Plain.{Row, row_of, Plain, blank, plain_address, edit_touches, is_none, between, beyond, row_asks, plain_asks, plain_kind, PlainOutcome, answers, row_answer, plain_edits, plain_advance, plain_done, plain_over, plain_past, ledger_of}
use Rattle.pages.specs.Promise.{answered, address_of, present_frames, present_page, call_frames, is_gap, is_outside, asks, frame_call, done_answer, committed_frames, over, passed_of}
use Rattle.recovery.proofs.Follows.{Follows}
use Rattle.recovery.proofs.FollowsStep.{follows_pass}
use Rattle.recovery.proofs.FrameTheorem.{reads_present, reads_committed}
use Rattle.recovery.proofs.SumLaws.{passed_over, passed_within, passed_next, passed_more, passed_owed}
use Rattle.recovery.specs.Book.{FrameBook, apply_changes, book_wrote}
use Rattle.recovery.specs.Contents.{Contents, FrameBytes}
use Rattle.recovery.specs.Questions.{held_asks, room_asks, snapshot_asks, given, advance_asks}
use Rattle.recovery.specs.Sound.{Rises}
use Rattle.recovery.specs.State.{Generation, entry_count, State}
use Rattle.recovery.specs.State as state
use Rattle.recovery.specs.Step.{change_frames, after_change, after_snapshot, Kind, page, directory, trailer, migration, header, flush, kind_write, kind_put, advance_due, migrating, next_migration, pass_to}
use Rattle.recovery.specs.Sums as sums
use Rattle.recovery.specs.Sums.{room_sums, passed_to, remaining_writes, first_of, advance_sums}
use Rattle.recovery.specs.Write.{BlockWrite}
use Rattle.frames.specs.Promise as frames

-- two lists of questions that begin alike have the same first "no"
begun_same : (ps qs rs : List Question) → All (λ (q : Question). 0 < q.number) ps → (first_no ps ≡ 0 → first_no qs ≡ first_no rs) → first_no (ps ++ qs) ≡ first_no (ps ++ rs)
begun_same ps qs rs numbered h = go (ℕ_discrete (first_no ps) 0)
  where
    go : Dec (first_no ps ≡ 0) → first_no (ps ++ qs) ≡ first_no (ps ++ rs)
    go (yes e) = group_yes ps qs numbered e ∙ h e ∙ sym (group_yes ps rs numbered e)
    go (no z) = group_no ps qs z ∙ sym (group_no ps rs z)

-- of a row, the machine asks and answers as the promise does of its page
asks_same : (c : PageCall) (r : Row) → page_asks c r.page ≡ row_asks c r
unfolding page_asks row_asks
asks_same key r = refl
asks_same (read n b) r = refl
asks_same (write n at new) r = refl
asks_same (rescind n) r = refl

answer_same : (c : PageCall) (r : Row) → page_answer c r.page ≡ row_answer c r
unfolding page_answer row_answer
answer_same key r = refl
answer_same (read n b) r = refl
answer_same (write n at new) r = refl
answer_same (rescind n) r = refl

-- a change leaves an entry
change_some : (c : Change) (v : Contents) (p : Address) (us : List FrameBytes) (g : Generation) → Rises g.entries → 0 < entry_count (change_frames (changed_frames c v p ++ us) g)
unfolding changed_frames write_frames
change_some (put at new) v p us g up = change_notes _ _ g up
change_some empty v p us g up = change_notes _ _ g up

-- advance changes nothing that is present
wrote_present : (k : Kind) (b : FrameBook) → (book_wrote k b).present ≡ b.present
wrote_present page b = refl
wrote_present directory b = refl
wrote_present trailer b = refl
wrote_present migration b = refl
wrote_present header b = refl
wrote_present flush b = refl

module _ (rs : List Range) (blocks area : ℕ) (full : blocks ≡ 1 + area + all_blocks rs) where
  -- the machine's tables and tests are those of what is lent, which passes questions 1 to 3
  pub record InStep (l : Lent) (t : Plain) : Type 0 where
    pub passes : first_no (common l) ≡ 0
    pub follows : Follows (needed rs area) blocks area rs (meaning_of l) l.card t.frames
    pub ledger_is : t.ledger ≡ blank (meaning_of l)
    pub phase_is : t.phase ≡ (meaning_of l).phase
    pub changed_is : t.changed ≡ some_change (meaning_of l)
    pub marked_is : is_none t.frames.marked ≡ none_pending (meaning_of l)
    pub rows_are : SameRows rs blocks area full t.frames.present t.rows
    pub long : Long rs blocks area full t.frames.present

  module _ (l : Lent) (t : Plain) (b : InStep l t) where
    -- a call that is done, as its frame call and its answer, and what the machine does: answer, block and tables are the same
    pub record Agrees (c : FrameCall) (a : Answer) (d : PlainOutcome) : Type 0 where
      pub asked : Asked (needed rs area) c l t.frames
      pub answer_is : a ≡ d.answer
      pub write_is : frames.done_write c l ≡ d.write
      pub frames_are : told c (frames.done_answer c l) t.frames ≡ d.next.frames
      pub ledger_is : d.next.ledger ≡ blank (frames.after c l)
      pub phase_is : d.next.phase ≡ (frames.after c l).phase
      pub changed_is : d.next.changed ≡ some_change (frames.after c l)
      pub marked_is : is_none d.next.frames.marked ≡ none_pending (frames.after c l)
      pub rows_are : SameRows rs blocks area full d.next.frames.present d.next.rows
      pub long : Long rs blocks area full d.next.frames.present

    unchanged : (a a' : Answer) → a ≡ a' → Agrees (frames.change []) a (answers a' t)
    unfolding frames.done_write frames.done_answer frames.after told apply_changes after_change change_frames
    unchanged a a' e = record {
      asked = (tt, λ f l h k x. x);
      answer_is = e;
      write_is = refl;
      frames_are = refl;
      ledger_is = b.ledger_is;
      phase_is = b.phase_is;
      changed_is = b.changed_is;
      marked_is = b.marked_is;
      rows_are = b.rows_are;
      long = b.long;
    }

    -- ---- places

    address_is : (o : ℕ) → address_of l o ≡ place_on rs area o
    address_is o = rw (b.follows.ranges_is, b.follows.area_is)

    plain_address_lem : (o : ℕ) → plain_address t o ≡ place_on rs area o
    unfolding blank
    plain_address_lem o = rw (b.ledger_is, b.follows.ranges_is, b.follows.area_is)

    address_places : address_of l ≡ place_on rs area
    address_places = λ i o. address_is o i

    plain_places : plain_address t ≡ place_on rs area
    plain_places = λ i o. plain_address_lem o i

    ledger_ranges : (t.ledger.ranges ≡ rs) × (t.ledger.area ≡ area)
    unfolding blank
    ledger_ranges = (ap (λ (s : State). s.ranges) b.ledger_is ∙ b.follows.ranges_is, ap (λ (s : State). s.area) b.ledger_is ∙ b.follows.area_is)

    -- ---- a list of changes

    rises : Rises (meaning_of l).current.entries
    rises = b.follows.current_ordered.rises

    abbrev present : Contents
    present = t.frames.present

    shown : Alike rs blocks area full (present_frames l) present
    shown f low high x = reads_present blocks area rs (meaning_of l) l.card t.frames b.follows f low high x

    -- the frames behind it
    abbrev frames_of : List Edit → List FrameBytes
    frames_of es = edit_frames (place_on rs area) es present

    made : (es : List Edit) → CanAll rs blocks area full es t.rows → Made rs blocks area full es present t.rows
    made es can = edits_made rs blocks area full es present t.rows b.rows_are b.long can

    edits_agree : (es : List Edit) → CanAll rs blocks area full es t.rows → (a a' : Answer) → a ≡ a' → Agrees (frames.change (frames_of es)) a (answers a' (plain_edits es t))
    unfolding plain_edits
    edits_agree [] can a a' e = unfold edit_frames in (unchanged a a' e)
    edits_agree (x ∷ es) can a a' e = rw plain_places (record {
      asked = rw (b.follows.area_is, b.follows.blocks_is) (m.whole, m.brings);
      answer_is = e;
      write_is = unfold frames.done_write in refl;
      frames_are = unfold frames.done_answer told in refl;
      ledger_is = unfold frames.after in (rw (b.ledger_is, ← m.touches_are) (blank_change (meaning_of l) (frames_of (x ∷ es))));
      phase_is = unfold frames.after after_change in b.phase_is;
      changed_is = unfold frames.after after_change in (sym (lt-ltb 0 _ noted));
      marked_is = unfold frames.after after_change in b.marked_is;
      rows_are = m.rows_are;
      long = changes_long rs blocks area full (frames_of (x ∷ es)) present m.whole b.long;
    })
      where
        m : Made rs blocks area full (x ∷ es) present t.rows
        m = made (x ∷ es) can

        noted : 0 < entry_count (change_frames (frames_of (x ∷ es)) (meaning_of l).current)
        noted = rw (frames_more rs blocks area full x es present t.rows can.0.0 can.0.1 present) (change_some x.change present can.0.0 _ (meaning_of l).current rises)

    -- ---- a call on a page

    ranges_fit : geometry_fits (meaning_of l).blocks area rs ≡ true
    ranges_fit = rw (← b.follows.ranges_is, ← b.follows.area_is) (fits l b.passes)

    module _ (o : ℕ) (c : PageCall) where
      frames_are : CanAll rs blocks area full (edits o c) t.rows → call_frames o c l ≡ frames_of (edits o c)
      unfolding call_frames
      frames_are can = rw address_places ((made (edits o c) can).alike (present_frames l) shown)

      module _ (p : Address) (e : place_on rs area o ≡ Located p) where
        page_is : present_page l p ≡ (t.rows o).page
        unfolding row_of
        page_is = page_alike rs blocks area full (present_frames l) present shown o p e ∙ ap (λ (x : Row). x.page) (b.rows_are o p e)

        can : first_no (page_asks c (t.rows o).page) ≡ 0 → CanAll rs blocks area full (edits o c) t.rows
        can ok = passed_can rs blocks area full o p e t.rows c ok

        room : first_no (page_asks c (t.rows o).page) ≡ 0 → room_asks (call_frames o c l) (meaning_of l) ≡ room_sums (edit_touches (place_on rs area) (edits o c) t.rows) t.ledger
        room ok = rw (frames_are (can ok))
            (room_is (meaning_of l) t b.ledger_is b.phase_is (frames_of (edits o c)) _ (made (edits o c) (can ok)).touches_are (edits-apart rs blocks area full o p e t.rows c) rises)

        page_asks_lem : first_no (page_asks c (present_page l p) ++ room_asks (call_frames o c l) (meaning_of l))
            ≡ first_no (row_asks c (t.rows o) ++ room_sums (edit_touches (place_on rs area) (edits o c) t.rows) t.ledger)
        page_asks_lem = rw (page_is, ← asks_same c (t.rows o)) (begun_same (page_asks c (t.rows o).page) _ _ (asks-numbered c (t.rows o).page) (λ ok. ap first_no (room ok)))

      gap_is : is_gap (place_on rs area o) ≡ between t.ledger.ranges o
      gap_is = gap_same (meaning_of l).blocks area rs ranges_fit (1 + area) o ∙ ap (λ (r : List Range). between r o) (sym ledger_ranges.0)

      outside_is : is_outside (place_on rs area o) ≡ beyond t.ledger.ranges o
      outside_is = outside_same (meaning_of l).blocks area rs ranges_fit (1 + area) o ∙ ap (λ (r : List Range). beyond r o) (sym ledger_ranges.0)

      on_asks : first_no (own_asks (on o c) l) ≡ first_no (plain_asks (on o c) t)
      unfolding own_asks asks held_asks plain_asks
      on_asks = rw (address_is o, plain_places, ← gap_is, ← outside_is) (placed_as (place_on rs area o) _ _ page_asks_lem)

      on_agrees : first_no (own_asks (on o c) l) ≡ 0 → Agrees (frame_call (on o c) l) (done_answer (on o c) l) (plain_done (on o c) t)
      unfolding frame_call done_answer plain_done at_place
      on_agrees own =
          let q = on_passed o c l own in
          let e : place_on rs area o ≡ Located q.place = sym (address_is o) ∙ q.place_is in
          let same = page_is q.place e in
          let able = can q.place e (sym (ap (λ (x : Page). first_no (page_asks c x)) same) ∙ q.page_passes) in
          rw (q.place_is, frames_are able) (edits_agree (edits o c) able _ _ (ap (page_answer c) same ∙ answer_same c (t.rows o)))

    -- ---- advance: what is passed over is the same

    kept_over : (f : ℕ) → over l f ≡ not (needed rs area t.frames.kept f)
    kept_over f = ap (λ (r : List Range). not (needed r (meaning_of l).area (committed_frames l) f)) b.follows.ranges_is ∙ ap (λ (a : ℕ). not (needed rs a (committed_frames l) f)) b.follows.area_is
        ∙ ap not (needed_same rs area blocks full (committed_frames l) t.frames.kept (λ g low high x. reads_committed blocks area rs (meaning_of l) l.card t.frames b.follows g low high x) f)

    over_is : over l ≡ plain_over t
    over_is = λ i f. at f i
      where
        at : (f : ℕ) → over l f ≡ plain_over t f
        at f = kept_over f ∙ sym (ap (λ (r : List Range). not (needed r t.ledger.area t.frames.kept f)) ledger_ranges.0 ∙ ap (λ (a : ℕ). not (needed rs a t.frames.kept f)) ledger_ranges.1)

    passed_same : passed_of l ≡ passed_to (plain_over t) (ledger_of t)
    unfolding passed_of
    passed_same = ap (λ (o : ℕ → Bool). passed_to o (meaning_of l)) over_is ∙ sym (passed_is (meaning_of l) t b.ledger_is b.phase_is (plain_over t))

    advance_asked : Asked (needed rs area) (frames.advance (passed_of l)) l t.frames
    unfolding passed_of
    advance_asked = (
      passed_within (over l) (meaning_of l) b.follows.migrated_within,
      (λ j x y. not_true _ (sym (kept_over (next_migration (pass_to j (meaning_of l))).frame) ∙ passed_over (over l) (meaning_of l) j x y)),
      passed_more (over l) (meaning_of l),
      passed_owed (over l) (meaning_of l),
    )

    -- the entry that is copied is of a frame that is needed
    moves : migrating (meaning_of (past (passed_of l) l)) ≡ true → passed_of l < length (meaning_of l).committed.entries → needed rs area t.frames.kept (next_migration (meaning_of (past (passed_of l) l))).frame ≡ true
    unfolding passed_of migrating
    moves e m = not_false _ (sym (kept_over (next_migration (pass_to (passed_to (over l) (meaning_of l)) (meaning_of l))).frame) ∙ passed_next (over l) (meaning_of l) e m)

    advance_agrees : (due : Option Kind) → advance_due (meaning_of (past (passed_of l) l)) ≡ due → given due ≡ true → Agrees (frames.advance (passed_of l)) (answered (frames.advance_answer due (past (passed_of l) l))) (plain_advance due (plain_past t))
    unfolding frames.done_write frames.done_answer frames.advance_write frames.advance_answer frames.after frames.advanced told answered plain_advance
    advance_agrees none e h = absurd (false≢true h)
    advance_agrees (some k) e h =
        let s' : State = meaning_of (past (passed_of l) l) in
        let ledger' : (plain_past t).ledger ≡ blank s' = ap (λ (n : ℕ). pass_to n t.ledger) (sym passed_same) ∙ past_is (meaning_of l) t b.ledger_is b.phase_is (passed_of l) in
        let follows' = follows_pass blocks area rs (meaning_of l) l.card t.frames b.follows (passed_of l) advance_asked in
        let block_is : kind_write k s' l.card ≡ plain_kind k (plain_past t) = kind_is s' (plain_past t) ledger' b.phase_is blocks area rs l.card follows' k e moves in
        record {
          asked = advance_asked;
          answer_is = ap (λ (w : BlockWrite). wrote k w.block) block_is;
          write_is = rw e (ap (kind_put k) block_is);
          frames_are = rw e;
          ledger_is = rw (e, ledger') (blank_kind s' k);
          phase_is = rw (e, b.phase_is) (kind_phase k s');
          changed_is = rw (e, kind_current k s') b.changed_is;
          marked_is = rw e (kind_marked k s' t.frames b.marked_is);
          rows_are = rw (wrote_present k t.frames) b.rows_are;
          long = rw (wrote_present k t.frames) b.long;
        }

    -- ---- snapshot

    snapshot_asks_lem : snapshot_asks (meaning_of l) ≡ plain_asks snapshot t
    unfolding snapshot_asks plain_asks blank
    snapshot_asks_lem = rw (b.marked_is, b.changed_is, b.ledger_is)

    -- 17 is passed: what is pending then has entries
    snapshot_pending : first_no (snapshot_asks (meaning_of l)) ≡ 0 → none_pending (after_snapshot (meaning_of l)) ≡ false
    unfolding snapshot_asks after_snapshot
    snapshot_pending own =
        let rest = (passed_both 15 (none_pending (meaning_of l)) _ own).1 in
        let noted : 0 < entry_count (meaning_of l).current = ltb-true _ _ (passed_both 16 (some_change (meaning_of l)) _ rest).0 in
        ne_eqb (entry_count (meaning_of l).current) 0 (omega (arith, noted))

    advance_asks_lem : advance_asks (meaning_of (past (passed_of l) l)) ≡ advance_sums (plain_over t) (ledger_of t)
    unfolding passed_of
    advance_asks_lem = ap (λ (o : ℕ → Bool). advance_asks (pass_to (passed_to o (meaning_of l)) (meaning_of l))) over_is ∙ advance_is (meaning_of l) t b.ledger_is b.phase_is (plain_over t)

    -- ---- any call but start

    pub same_number : (c : Call) → Later c → first_no (own_asks c l) ≡ first_no (plain_asks c t)
    unfolding own_asks asks held_asks plain_asks
    same_number (start m) k = absurd k
    same_number (on o c) k = on_asks o c
    same_number snapshot k = ap first_no snapshot_asks_lem
    same_number page_out k = ap first_no (waiting_is (meaning_of l) t b.ledger_is b.phase_is)
    same_number advance k = ap first_no advance_asks_lem
    same_number forecast k = refl

    due_same : first_of (remaining_writes (plain_over t) (ledger_of t)) ≡ advance_due (meaning_of (past (passed_of l) l))
    unfolding passed_of
    due_same = due_is (meaning_of l) t b.ledger_is b.phase_is (plain_over t) ∙ sym (ap (λ (o : ℕ → Bool). advance_due (pass_to (passed_to o (meaning_of l)) (meaning_of l))) over_is)

    pub agrees : (c : Call) → Later c → first_no (own_asks c l) ≡ 0 → Agrees (frame_call c l) (done_answer c l) (plain_done c t)
    unfolding own_asks asks held_asks frame_call done_answer plain_done
    agrees (start m) k own = absurd k
    agrees (on o c) k own = on_agrees o c own
    agrees snapshot k own = record {
      asked = tt;
      answer_is = refl;
      write_is = unfold frames.done_write in refl;
      frames_are = unfold frames.done_answer told in refl;
      ledger_is = unfold frames.after in (rw b.ledger_is (blank_snapshot (meaning_of l)));
      phase_is = unfold frames.after after_snapshot in b.phase_is;
      changed_is = unfold frames.after after_snapshot state.empty in refl;
      marked_is = unfold frames.after in (sym (snapshot_pending own));
      rows_are = b.rows_are;
      long = b.long;
    }
    agrees page_out k own = record {
      asked = tt;
      answer_is = unfold answered frames.done_answer in (ap (λ (w : BlockWrite). wrote page w.block) (out_is (meaning_of l) t b.ledger_is b.phase_is blocks area rs l.card b.follows own));
      write_is = unfold frames.done_write in (ap (λ (w : BlockWrite). some w) (out_is (meaning_of l) t b.ledger_is b.phase_is blocks area rs l.card b.follows own));
      frames_are = unfold told in refl;
      ledger_is = unfold frames.after in (rw b.ledger_is (blank_page_out (meaning_of l)));
      phase_is = unfold frames.after in (b.phase_is ∙ sym (out_phase (meaning_of l)));
      changed_is = unfold frames.after in (b.changed_is ∙ sym (out_keeps (meaning_of l)).1);
      marked_is = unfold frames.after in (b.marked_is ∙ sym (out_keeps (meaning_of l)).0);
      rows_are = b.rows_are;
      long = b.long;
    }
    agrees advance k own = rw due_same
        (unfold frames.done_answer in (advance_agrees (advance_due (meaning_of (past (passed_of l) l))) refl (unfold advance_asks in (passed_both 19 (given (advance_due (meaning_of (past (passed_of l) l)))) [] own).0)))
    agrees forecast k own = unchanged _ _ (ap foretold (ap (λ (o : ℕ → Bool). sums.forecast o (meaning_of l)) over_is ∙ forecast_is (meaning_of l) t b.ledger_is b.phase_is (plain_over t)))
