-- From a list of page calls and cuts to a list of frame calls and cuts: beside each world of pages stands a world of frames, and their books tell the same.
-- Assumes nothing.
use Prim.Native.Nat.{ℕ, ◌+◌, ◌/◌, ◌<◌}
use lib.ListN.{length}
use mathlib.Core.Bool.{Bool, true, false, cond, ◌||◌, not, or-false}
use mathlib.Core.List.{List}
use mathlib.Core.Logic.{◌≢◌, ⊎_elim}
use mathlib.Core.Option.{Option, none, some}
use mathlib.Core.Path.{◌≡◌, refl, ap, sym, ◌∙◌, subst}
use native.Mathlib.Decide.{ℕ_discrete}
use Rattle.card.proofs.Test.{either}
use Rattle.card.specs.Block.{block_at, put_block}
use Rattle.card.specs.Bytes.{All}
use Rattle.card.specs.Header.{header_on}
use Rattle.card.specs.Question.{first_no, header_ranges}
use Rattle.card.specs.Range.{Range, all_blocks, Lookup, Located, Gap, Outside}
use Rattle.card.specs.declared.range.Address.{Address}
use Rattle.frames.proofs.KeepLaws as keep
use Rattle.frames.proofs.ReadyLaws.{has_frames, no_zeros}
use Rattle.frames.proofs.Recovery.{frames_present, frames_hold, frames_committed}
use Rattle.frames.proofs.Run as run
use Rattle.frames.proofs.Run.{FrameWorld, FrameRun, goes, first_world, Serves}
use Rattle.frames.specs.Promise as frames
use Rattle.frames.specs.Promise.{Lent, FrameAnswer, meaning_of}
use Rattle.pages.proofs.AnswerLaws.{asked_both, on_passed, frames_asked, block_done, block_none, kept_done, kept_refused, lowered}
use Rattle.pages.proofs.BookLaws.{answered_page, refused_page, told_refused}
use Rattle.pages.proofs.CanLaws.{passed_can}
use Rattle.pages.proofs.EditLaws.{place_on, Alike, page_alike}
use Rattle.pages.proofs.NeededLaws.{needed_same, not_true}
use Rattle.pages.proofs.Represents.{accepted_full, SameBefore, Represents, represents_flushed, represents_cut, represents_start, represents_snapshot, represents_header, rows_from, book_made, edits_represents}
use Rattle.pages.specs.Book.{Book, Event, called, present_to, header_reached, flushed_book, cut_book, is_done, is_header, is_flush, told, book_after}
use Rattle.pages.specs.Call.{PageCall, Call, start, on, snapshot, page_out, advance, forecast, Answer, page_asks, edits, page_answer, page_refusal}
use Rattle.pages.specs.Change.{Table, applied, at_place, edit_frames}
use Rattle.pages.specs.Demand3.{World, lent_to, drive_after, Step, calls, cut_within, cut_between, Run, ended, then}
use Rattle.pages.specs.Needed.{needed}
use Rattle.pages.specs.Promise.{answered, address_of, present_frames, present_page, call_frames, asks, frame_call, done_answer, refusal, outcome, Kept, committed_frames, over, passed_of}
use Rattle.recovery.proofs.DriveLaws.{seen-written, left_spoilt}
use Rattle.recovery.proofs.SumLaws.{passed_over, passed_within, passed_more, passed_owed}
use Rattle.recovery.specs.Book.{FrameBook, apply_changes, book_change, book_cut, WholeFrame, Brings}
use Rattle.recovery.specs.Contents.{Contents, FrameBytes}
use Rattle.recovery.specs.Questions.{start_asks}
use Rattle.recovery.specs.Step.{page, directory, trailer, migration, header, flush, next_migration, pass_to}
use Rattle.recovery.specs.Write.{BlockWrite, Drive, put_all, seen, settled, written, Left, Spoilt, Cut, ReachedIs}

-- a call that is done writes the block that its frame call writes
write_is : (c : Call) (l : Lent) → first_no (asks c l) ≡ 0 → (outcome c l).write ≡ (frames.outcome (frame_call c l) l).write
write_is c l ok =
    let n : ℕ = first_no (frames.asks (frame_call c l) l) in
    block_done c l ok ∙ sym (keep.outcome-done n (frames.done_answer (frame_call c l) l) (frames.refused n) (frames.done_write (frame_call c l) l) (frames.after (frame_call c l) l) (frames_asked l c ok)).1

-- ---- what an answer tells of the drive: the frame layer's and this layer's tell the same

same_flush : (a : FrameAnswer) (o : Option BlockWrite) (v : Drive) → run.drive_told a o v ≡ drive_after (answered a) o v
unfolding answered is_flush
same_flush (frames.refused n) o v = refl
same_flush frames.done o v = refl
same_flush (frames.wrote page n) o v = refl
same_flush (frames.wrote directory n) o v = refl
same_flush (frames.wrote trailer n) o v = refl
same_flush (frames.wrote migration n) o v = refl
same_flush (frames.wrote header n) o v = refl
same_flush (frames.wrote flush n) o v = refl

at_place_lem : (other : Answer) (a : Lookup) (f : Address → Answer) → is_flush other ≡ false → ((p : Address) → is_flush (f p) ≡ false) → is_flush (at_place other a f) ≡ false
unfolding at_place
at_place_lem other Gap f h k = h
at_place_lem other Outside f h k = h
at_place_lem other (Located p) f h k = k p

-- a call that is done
drive_done : (c : Call) (l : Lent) (o : Option BlockWrite) (v : Drive) → run.drive_told (frames.done_answer (frame_call c l) l) o v ≡ drive_after (done_answer c l) o v
unfolding frame_call done_answer
drive_done (start m) l o v = unfold frames.done_answer is_flush in refl
drive_done (on u c) l o v = unfold frames.done_answer in (rw (at_place_lem (page_refusal c 9) (address_of l u) (λ p. page_answer c (present_page l p)) (refused_page c 9).1 (λ p. (answered_page c (present_page l p)).1)) refl)
drive_done snapshot l o v = unfold frames.done_answer is_flush in refl
drive_done forecast l o v = unfold frames.done_answer is_flush in refl
drive_done page_out l o v = same_flush (frames.done_answer frames.page_out l) o v
drive_done advance l o v = same_flush (frames.done_answer (frames.advance (passed_of l)) l) o v

-- one that is refused
refusal_flush : (c : Call) (n : ℕ) → is_flush (refusal c n) ≡ false
unfolding refusal is_flush
refusal_flush (start m) n = refl
refusal_flush (on o c) n = (refused_page c n).1
refusal_flush snapshot n = refl
refusal_flush page_out n = refl
refusal_flush advance n = refl
refusal_flush forecast n = refl

-- the card that is seen after it depends on the card that was seen alone
seen-after : (a : Answer) (o : Option BlockWrite) (u v : Drive) → seen u ≡ seen v → seen (drive_after a o u) ≡ seen (drive_after a o v)
seen-after a o u v e = go (is_flush a) o
  where
    go : (t : Bool) (x : Option BlockWrite) → seen (cond t (settled (seen u)) (written x u)) ≡ seen (cond t (settled (seen v)) (written x v))
    go true x = unfold put_all in e
    go false none = e
    go false (some w) = seen-written u w ∙ ap (λ (c : List ℕ). put_block c w.block w.bytes) e ∙ sym (seen-written v w)

-- and the drive, where it is flushed
flushed_after : (a : Answer) (o : Option BlockWrite) (u v : Drive) → seen u ≡ seen v → is_flush a ≡ true → drive_after a o u ≡ drive_after a o v
flushed_after a o u v e t = rw t (ap settled e)

module _ (m₀ card₀ : List ℕ) (accepted : first_no (start_asks m₀ card₀) ≡ 0) where
  -- ---- the first card's geometry

  abbrev blocks : ℕ
  blocks = length card₀ / 512

  abbrev area : ℕ
  area = (header_on (block_at card₀ 0)).area

  abbrev rs : List Range
  rs = header_ranges (header_on (block_at card₀ 0))

  abbrev full : blocks ≡ 1 + area + all_blocks rs
  full = accepted_full m₀ card₀ accepted

  abbrev pub needs : Contents → ℕ → Bool
  needs = needed rs area

  -- ---- the world of frames beside a world and a book of pages

  abbrev Same : FrameBook → Book → Type 0
  Same fb b = Represents rs blocks area full fb b

  pub record Beside (w : World) (b : Book) : Type 0 where
    pub frames : FrameWorld
    pub run : FrameRun needs (first_world m₀ card₀) frames
    pub seen_is : seen (frames).drive ≡ seen w.drive
    pub drive_is : w.complete ≡ true → (frames).drive ≡ w.drive
    pub held_is : (frames).held ≡ w.held
    pub same : Same (frames).book b
    pub before_is : SameBefore rs blocks area full (frames).before b.before

  module _ (w : World) (b : Book) (s : Beside w b) where
    abbrev book : FrameBook
    book = s.frames.book

    -- ---- a record that is held, and is not that of zeros, which has no memory frames

    module _ (l : Lent) (held : w.held ≡ some l) (some-frames : 0 < l.store.frames) where
      pub serves : Serves card₀ l
      serves = ⊎_elim (λ z. absurd (no_zeros l.store some-frames z)) (λ q. q) (frames_hold needs m₀ card₀ accepted s.frames s.run l (s.held_is ∙ held)).0

      pub address_is : (o : ℕ) → address_of l o ≡ place_on rs area o
      address_is o = rw (serves.ranges_is, serves.area_is)

      shown : Alike rs blocks area full (present_frames l) book.present
      shown f low high t = frames_present needs m₀ card₀ accepted s.frames s.run l (s.held_is ∙ held) serves.passes f _ (low, high) t refl

      -- what is passed over is not needed in what is kept
      over_is : (f : ℕ) → over l f ≡ not (needs book.kept f)
      over_is f = ap (λ (r : List Range). not (needed r (meaning_of l).area (committed_frames l) f)) serves.ranges_is ∙ ap (λ (a : ℕ). not (needed rs a (committed_frames l) f)) serves.area_is ∙ ap not (needed_same rs area blocks full (committed_frames l) book.kept
          (λ g low high t. frames_committed needs m₀ card₀ accepted s.frames s.run l (s.held_is ∙ held) serves.passes g _ (low, high) t refl) f)

      advance_asked : run.Asked needs (frames.advance (passed_of l)) l book
      unfolding passed_of
      advance_asked = (
        passed_within (over l) (meaning_of l) serves.sound.migrated_within,
        (λ j a b. not_true _ (sym (over_is (next_migration (pass_to j (meaning_of l))).frame) ∙ passed_over (over l) (meaning_of l) j a b)),
        passed_more (over l) (meaning_of l),
        passed_owed (over l) (meaning_of l),
      )

      -- a change that may be asked for, since it is one of home frames, and what both books make of it
      abbrev News : List FrameBytes → Book → Type 0
      News ws b' = run.Asked needs (frames.change ws) l book × Same (book_change ws book) b'

      asked : (ws : List FrameBytes) → All (WholeFrame area blocks) ws → Brings needs area blocks ws book.present → run.Asked needs (frames.change ws) l book
      asked ws h k = subst (λ (n : ℕ). All (WholeFrame n l.store.geometry.blocks) ws × Brings needs n l.store.geometry.blocks ws book.present) (sym serves.area_is)
          (subst (λ (n : ℕ). All (WholeFrame area n) ws × Brings needs area n ws book.present) (sym serves.blocks_is) (h, k))

      module _ (o : ℕ) (p : Address) (at_p : place_on rs area o ≡ Located p) where
        -- its frames show the page as the book has it
        pub page_shown : present_page l p ≡ b.present o
        page_shown = page_alike rs blocks area full (present_frames l) book.present shown o p at_p ∙ s.same.present_is o p at_p

        -- a call that passes what is asked of the page: both books are told of its changes
        on_news : (c : PageCall) → first_no (page_asks c (present_page l p)) ≡ 0 → News (call_frames o c l) (present_to (applied (edits o c) b.present) b)
        unfolding call_frames
        on_news c ok =
            let can = passed_can rs blocks area full o p at_p (rows_from rs blocks area full book.present b.present) c (rw (← page_shown) ok) in
            let made = book_made rs blocks area full book b s.same (edits o c) can in
            let places : address_of l ≡ place_on rs area = λ i u. address_is u i in
            rw (places, made.alike (present_frames l) shown)
            (asked (edit_frames (place_on rs area) (edits o c) book.present) made.whole made.brings, edits_represents rs blocks area full book b s.same (edits o c) can)

    -- ---- a call that is done: its frame call may be asked for, and both books are told the same

    -- both books, and what each has of before
    abbrev Told : FrameBook → Option Contents → Book → Type 0
    Told fb o pb = Same fb pb × SameBefore rs blocks area full o pb.before

    header_news : (a : FrameAnswer) → Told (run.on_wrote a book) (run.before_told a book s.frames.before) (cond (is_header (answered a)) (header_reached b) (cond (is_flush (answered a)) (flushed_book b) b))
    unfolding is_header is_flush answered
    header_news (frames.refused n) = (s.same, s.before_is)
    header_news frames.done = (s.same, s.before_is)
    header_news (frames.wrote page n) = (s.same, s.before_is)
    header_news (frames.wrote directory n) = (s.same, s.before_is)
    header_news (frames.wrote trailer n) = (s.same, s.before_is)
    header_news (frames.wrote migration n) = (s.same, s.before_is)
    header_news (frames.wrote header n) = (represents_header rs blocks area full book b s.same, (s.same.long_kept, s.same.kept_is))
    header_news (frames.wrote flush n) = (represents_flushed rs blocks area full book b s.same, tt)

    done-told : (l : Lent) (c : Call) → lent_to c w ≡ some l → first_no (asks c l) ≡ 0
        → run.Asked needs (frame_call c l) l book
        × Told (run.told (frame_call c l) (frames.done_answer (frame_call c l) l) book) (run.before_told (frames.done_answer (frame_call c l) l) book s.frames.before) (told (called c (done_answer c l)) b)
    unfolding frame_call done_answer frames.done_answer told run.told is_done apply_changes at_place
    done-told l (start m) e ok = (tt, (represents_start rs blocks area full book b s.same, s.before_is))
    done-told l (on o c) e ok =
        let q = asked_both (on o c) l tt ok in
        let low = has_frames l q.0 in
        let f = on_passed o c l q.1 in
        let news = on_news l e low o f.place (sym (address_is l e low o) ∙ f.place_is) c f.page_passes in
        rw (f.place_is, (answered_page c (present_page l f.place)).0) (news.0, (news.1, s.before_is))
    done-told l snapshot e ok = (tt, (represents_snapshot rs blocks area full book b s.same, s.before_is))
    done-told l page_out e ok = (tt, (s.same, s.before_is))
    done-told l forecast e ok = ((tt, λ f l h k t. t), (s.same, s.before_is))
    done-told l advance e ok = (advance_asked l e (has_frames l (asked_both advance l tt ok).0), header_news (frames.done_answer (frames.advance (passed_of l)) l))

    -- ---- steps

    lent_is : (c : Call) (l : Lent) → lent_to c w ≡ some l → run.lent_to (frame_call c l) s.frames ≡ some l
    unfolding frame_call
    lent_is (start m) l e = rw s.seen_is e
    lent_is (on o c) l e = s.held_is ∙ e
    lent_is snapshot l e = s.held_is ∙ e
    lent_is page_out l e = s.held_is ∙ e
    lent_is advance l e = s.held_is ∙ e
    lent_is forecast l e = s.held_is ∙ e

    -- refused: the frames stand as they are, but for a start, which hands out the record of zeros
    abbrev Refused : Lent → Type 0
    Refused l = Beside (record { drive = w.drive; held = some l; complete = w.complete }) b

    stands : (l : Lent) → w.held ≡ some l → Refused l
    stands l e = record { frames = s.frames; run = s.run; seen_is = s.seen_is; drive_is = s.drive_is; held_is = s.held_is ∙ e; same = s.same; before_is = s.before_is }

    called_refused : (c : Call) (l : Lent) → lent_to c w ≡ some l → first_no (asks c l) ≢ 0 → Refused (frames.handed_back (frame_call c l) l)
    unfolding frame_call asks frames.asks
    called_refused (start m) l e z =
        let none_written : (frames.outcome (frames.start m) l).write ≡ none = (keep.outcome_refused _ (frames.done_answer (frames.start m) l) (frames.refused (first_no (frames.asks (frames.start m) l))) (frames.done_write (frames.start m) l) (frames.after (frames.start m) l) z).1 in
        record {
          frames = _;
          run = goes _ _ _ s.run (run.called (frames.start m) s.frames l _ _ (lent_is (start m) l e) tt (keep.kept_refused (frames.start m) l _ refl z));
          seen_is = rw none_written s.seen_is;
          drive_is = λ t. rw none_written (s.drive_is t);
          held_is = refl;
          same = unfold run.told in s.same;
          before_is = s.before_is;
        }
    called_refused (on o c) l e z = stands l e
    called_refused snapshot l e z = stands l e
    called_refused page_out l e z = stands l e
    called_refused advance l e z = stands l e
    called_refused forecast l e z = stands l e

    -- the world after a call
    abbrev after : Call → Answer → Lent → Lent → World
    after c a l l' = record { drive = drive_after a (outcome c l).write w.drive; held = some l'; complete = w.complete || is_flush a }

    pub called_beside : (c : Call) (a : Answer) (l l' : Lent) → lent_to c w ≡ some l → Kept c l a l' → Beside (after c a l l') (told (called c a) b)
    called_beside c a l l' e k = go (ℕ_discrete (first_no (asks c l)) 0)
      where
        go : Dec (first_no (asks c l) ≡ 0) → Beside (after c a l l') (told (called c a) b)
        go (yes ok) =
            let t = done-told l c e ok in
            let v = s.frames.drive in
            let o = (outcome c l).write in
            let same-drive : run.drive_told (frames.done_answer (frame_call c l) l) (frames.outcome (frame_call c l) l).write v ≡ drive_after (done_answer c l) o v =
            ap (λ (x : Option BlockWrite). run.drive_told (frames.done_answer (frame_call c l) l) x v) (sym (write_is c l ok)) ∙ drive_done c l o v in
            rw (kept_done c l l' a k ok).0 (record {
              frames = _;
              run = goes _ _ _ s.run (run.called (frame_call c l) s.frames l l' _ (lent_is c l e) t.0 (lowered c l l' a k ok));
              seen_is = ap seen same-drive ∙ seen-after (done_answer c l) o v w.drive s.seen_is;
              drive_is = λ q. same-drive ∙ ⊎_elim (λ x. ap (drive_after (done_answer c l) o) (s.drive_is x)) (λ x. flushed_after (done_answer c l) o v w.drive s.seen_is x) (either w.complete (is_flush (done_answer c l)) q);
              held_is = refl;
              same = t.1.0;
              before_is = t.1.1;
            })
        go (no z) =
            let r = kept_refused c l l' a k z in
            let none_is = block_none c l z in
            rw (r.0, r.1, told_refused c (first_no (asks c l)) b z, refusal_flush c (first_no (asks c l)), none_is, or-false w.complete) (called_refused c l e z)

    -- a cut
    cut_told : (reached : Bool) → Same (book_cut s.frames.before reached book) (cut_book b.before reached b) × SameBefore rs blocks area full none (cut_book b.before reached b).before
    cut_told reached = (represents_cut rs blocks area full book b s.frames.before b.before s.before_is reached s.same, gone b.before refl reached)
      where
        gone : (o : Option Table) → b.before ≡ o → (t : Bool) → SameBefore rs blocks area full none (cut_book o t b).before
        gone none e true = tt
        gone none e false = rw e tt
        gone (some k) e true = tt
        gone (some k) e false = tt

    cut_between_lem : (reached : Bool) (card : List ℕ) → w.complete ≡ true → Cut Spoilt w.drive none card → ReachedIs w.drive.since card reached
        → Beside (record { drive = settled card; held = none; complete = true }) (cut_book b.before reached b)
    cut_between_lem reached card Done-first left r =
        let d = s.drive_is Done-first in
        let t = cut_told reached in
        record {
          frames = _;
          run = goes _ _ _ s.run (run.cut_between s.frames card reached (rw d left) (rw d r));
          seen_is = refl;
          drive_is = λ q. refl;
          held_is = refl;
          same = t.0;
          before_is = t.1;
        }

    cut_within_lem : (c : Call) (reached : Bool) (l : Lent) (card : List ℕ) → w.complete ≡ true → lent_to c w ≡ some l → Cut Spoilt w.drive (outcome c l).write card
        → ReachedIs (written (outcome c l).write w.drive).since card reached → Beside (record { drive = settled card; held = none; complete = true }) (cut_book b.before reached b)
    cut_within_lem c reached l card Done-first e left r = go (ℕ_discrete (first_no (asks c l)) 0)
      where
        go : Dec (first_no (asks c l) ≡ 0) → Beside (record { drive = settled card; held = none; complete = true }) (cut_book b.before reached b)
        go (yes ok) =
            let d = s.drive_is Done-first in
            let t = cut_told reached in
            record {
              frames = _;
              run = goes _ _ _ s.run (run.cut_within (frame_call c l) s.frames l card reached (lent_is c l e) (done-told l c e ok).0 (rw (← write_is c l ok, d) left) (rw (← write_is c l ok, d) r));
              seen_is = refl;
              drive_is = λ q. refl;
              held_is = refl;
              same = t.0;
              before_is = t.1;
            }
        go (no z) =
            let none_is = block_none c l z in
            cut_between_lem reached card Done-first (subst (λ (x : Option BlockWrite). Cut Spoilt w.drive x card) none_is left)
            (subst (λ (x : Option BlockWrite). ReachedIs (written x w.drive).since card reached) none_is r)

  step_beside : (e : Event) (u v : World) (b : Book) → Step Spoilt e u v → Beside u b → Beside v (told e b)
  step_beside e u v b (calls c a w l l' q k) s = called_beside u b s c a l l' q k
  step_beside e u v b (cut_within c reached w l card f q left r) s = unfold told in (cut_within_lem u b s c reached l card f q left r)
  step_beside e u v b (cut_between reached w card f left r) s = unfold told in (cut_between_lem u b s reached card f left r)

  pub run_beside : (es : List Event) (u w : World) (b : Book) → Run Spoilt es u w → Beside u b → Beside w (book_after es b)
  unfolding book_after
  run_beside es u w b (ended x) s = s
  run_beside es u w b (then e fs x v y step rest) s = run_beside fs v y (told e b) rest (step_beside e x v b step s)

-- ---- a list with cuts of document 02's drive is one with cuts of the stronger drive

spoilt_step : (e : Event) (u v : World) → Step Left e u v → Step Spoilt e u v
spoilt_step e u v (calls c a w l l' q k) = calls c a w l l' q k
spoilt_step e u v (cut_within c reached w l card f q left r) = cut_within c reached w l card f q (left_spoilt card _ _ left) r
spoilt_step e u v (cut_between reached w card f left r) = cut_between reached w card f (left_spoilt card _ _ left) r

pub spoilt_run : (es : List Event) (u w : World) → Run Left es u w → Run Spoilt es u w
spoilt_run es u w (ended x) = ended x
spoilt_run es u w (then e fs x v y step rest) = then e fs x v y (spoilt_step e x v step) (spoilt_run fs v y rest)
