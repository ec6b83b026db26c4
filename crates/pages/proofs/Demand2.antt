-- DEMAND 2: from an accepted start on, every answer and every block written are the plain machine's.
-- Assumes nothing.
use Prim.Native.Nat.{ℕ, ◌+◌, ◌/◌}
use borrow.Author.Tests.{eqb-true, eqb-false}
use lib.Dec.{eqb}
use lib.ListN.{length}
use mathlib.Core.List.{List}
use mathlib.Core.Logic.{◌≢◌}
use mathlib.Core.Option.{Option}
use mathlib.Core.Path.{◌≡◌, refl, ap, sym, ◌∙◌, subst}
use native.Mathlib.Decide.{ℕ_discrete}
use native.Mathlib.Omega.{arith}
use Rattle.card.proofs.Test.{by_test}
use Rattle.card.specs.Block.{block_at}
use Rattle.card.specs.Header.{header_on}
use Rattle.card.specs.Question.{first_no, header_ranges}
use Rattle.card.specs.Range.{Range, all_blocks}
use Rattle.frames.proofs.Run.{told}
use Rattle.frames.proofs.WorldLaws.{Standing, live, LentOk, done_follows, done-common}
use Rattle.frames.specs.Promise.{Lent, lent, meaning_of, FrameKept}
use Rattle.pages.proofs.AnswerLaws.{Later, asked_both, asked_own, frames_asked, kept_done, kept_refused, lowered}
use Rattle.pages.proofs.LedgerLaws.{none_pending, some_change}
use Rattle.pages.proofs.PlainLaws.{InStep, same_number, agrees}
use Rattle.pages.proofs.Represents.{accepted_full}
use Rattle.pages.specs.Call.{Call, start, on, snapshot, page_out, advance, forecast, Answer, refused, done}
use Rattle.pages.specs.Change.{at_place}
use Rattle.pages.specs.Demand2.{plain_answers, plain_card, NoStart, Calls, finished, next, Demand2}
use Rattle.pages.specs.Needed.{needed}
use Rattle.pages.specs.Plain.{Plain, blank, plain_of, plain_asks, PlainOutcome, answers, plain_done, plain_does}
use Rattle.pages.specs.Promise.{asks, frame_call, refusal, Kept}
use Rattle.record.specs.Meaning.{zero_store}
use Rattle.recovery.proofs.Follows.{Stored, Follows}
use Rattle.recovery.proofs.FrameTheorem.{all_needed, accepted_stored, stored_long}
use Rattle.recovery.specs.Book.{FrameBook}
use Rattle.recovery.specs.State.{State, empty, read_frame}
use Rattle.recovery.specs.Step.{start_state}
use Rattle.recovery.specs.Write.{BlockWrite, put_down}
use Rattle.frames.specs.Promise as frames

pub later : (c : Call) → ((m : List ℕ) → c ≡ start m → ⊥) → Later c
later (start m) h = h m refl
later (on o c) h = tt
later snapshot h = tt
later page_out h = tt
later advance h = tt
later forecast h = tt

-- ---- calls after start

module _ (rs : List Range) (blocks area : ℕ) (full : blocks ≡ 1 + area + all_blocks rs) where
  -- each is lent what is held, and hands it back where it is refused
  lent_held : (c : Call) (l : Lent) (b : FrameBook) → Later c → Standing (needed rs area) blocks area rs l b → LentOk (needed rs area) blocks area rs (frame_call c l) l b × (frames.handed_back (frame_call c l) l ≡ l)
  unfolding frame_call
  lent_held (start m) l b k h = absurd k
  lent_held (on o c) l b k h = (h, refl)
  lent_held snapshot l b k h = (h, refl)
  lent_held page_out l b k h = (h, refl)
  lent_held advance l b k h = (h, refl)
  lent_held forecast l b k h = (h, refl)

  module _ (c : Call) (k : Later c) (l l' : Lent) (a : Answer) (p : Kept c l a l') (t : Plain) (b : InStep rs blocks area full l t) where
    -- it answers and writes as the machine does, and leaves the machine beside it
    abbrev pub Same : PlainOutcome → Type 0
    Same d = (a ≡ d.answer) × (l'.card ≡ put_down d.write l.card) × InStep rs blocks area full l' d.next

    held : LentOk (needed rs area) blocks area rs (frame_call c l) l t.frames × (frames.handed_back (frame_call c l) l ≡ l)
    held = lent_held c l t.frames k (live b.follows b.passes)

    done_one : first_no (asks c l) ≡ 0 → Same (plain_done c t)
    done_one e =
        let g = agrees rs blocks area full l t b c k (asked_both c l k e).1 in
        let q = kept_done c l l' a p e in
        let low = lowered c l l' a p e in (
          q.0 ∙ g.answer_is,
          q.1 ∙ ap (λ (w : Option BlockWrite). put_down w l.card) g.write_is,
          record {
            passes = done-common (needed rs area) blocks area rs l t.frames (frame_call c l) held.0 g.asked l' _ low (frames_asked l c e);
            follows = subst (λ (fb : FrameBook). Follows (needed rs area) blocks area rs (meaning_of l') l'.card fb) g.frames_are
                (done_follows (needed rs area) blocks area rs l t.frames (frame_call c l) held.0 g.asked l' _ low (frames_asked l c e));
            ledger_is = g.ledger_is ∙ ap blank (sym (p.meaning e));
            phase_is = g.phase_is ∙ ap (λ (s : State). s.phase) (sym (p.meaning e));
            changed_is = g.changed_is ∙ ap some_change (sym (p.meaning e));
            marked_is = g.marked_is ∙ ap none_pending (sym (p.meaning e));
            rows_are = g.rows_are;
            long = g.long;
          },
        )

    refused_one : first_no (asks c l) ≢ 0 → Same (answers (refusal c (first_no (asks c l))) t)
    refused_one z =
        let q = kept_refused c l l' a p z in
        let l-is : l' ≡ l = q.1 ∙ held.1 in
        (q.0, ap (λ (x : Lent). x.card) l-is, rw l-is b)

    pub one_call : Same (plain_does c t)
    unfolding plain_does
    one_call = rw (← number_is) (by_test Same (eqb (first_no (asks c l)) 0) (λ e. done_one (eqb-true _ _ e)) (λ e. refused_one (eqb-false _ _ e)))
      where
        number_is : first_no (asks c l) ≡ first_no (plain_asks c t)
        number_is = asked_own c l k b.passes ∙ same_number rs blocks area full l t b c k

  all_calls : (cs : List Call) (l : Lent) (as' : List Answer) (l' : Lent) → Calls cs l as' l' → NoStart cs → (t : Plain) → InStep rs blocks area full l t
      → (as' ≡ plain_answers cs t) × (l'.card ≡ plain_card cs t l.card)
  unfolding plain_answers plain_card
  all_calls cs l as' l' (finished x) n t b = (refl, refl)
  all_calls cs l as' l' (next c ds a bs x y z p rest) n t b =
      let q = one_call c (later c n.0) x y a p t b in
      let u = all_calls ds y bs z rest n.1 (plain_does c t).next q.2 in
      (cc (q.0, u.0), u.1 ∙ ap (plain_card ds (plain_does c t).next) q.1)

-- ---- the first machine

module _ (m card : List ℕ) (l₀ : Lent) (p : Kept (start m) (lent zero_store m card) done l₀) where
  abbrev was : Lent
  was = lent zero_store m card

  -- a refused start does not answer done
  accepted : first_no (asks (start m) was) ≡ 0
  accepted = go (ℕ_discrete (first_no (asks (start m) was)) 0)
    where
      go : Dec (first_no (asks (start m) was) ≡ 0) → first_no (asks (start m) was) ≡ 0
      go (yes e) = e
      go (no z) =
          let r : done ≡ refused (first_no (asks (start m) was)) = unfold refusal in (kept_refused (start m) was l₀ done p z).0 in
          let y : ◌≡◌ {A = ℕ} 0 1 = cc in
          absurd (omega arith)

  abbrev pub blocks : ℕ
  blocks = length card / 512

  abbrev pub area : ℕ
  area = (header_on (block_at card 0)).area

  abbrev pub rs : List Range
  rs = header_ranges (header_on (block_at card 0))

  stored : Stored (needed rs area) blocks area rs card (read_frame (start_state m card) card)
  unfolding asks
  stored = accepted_stored m card accepted

  all_stored : Stored all_needed blocks area rs card (read_frame (start_state m card) card)
  unfolding asks
  all_stored = accepted_stored m card accepted

  state_is : meaning_of l₀ ≡ start_state m card
  unfolding frame_call frames.after
  state_is = p.meaning accepted

  pub full : blocks ≡ 1 + area + all_blocks rs
  unfolding asks
  full = accepted_full m card accepted

  card_is : l₀.card ≡ card
  unfolding frame_call frames.done_write
  card_is = (kept_done (start m) was l₀ done p accepted).1

  pub first_step : InStep rs blocks area full l₀ (plain_of (start_state m card) card)
  unfolding plain_of frame_call frames.done_answer told
  first_step = record {
    passes = done-common (needed rs area) blocks area rs was book (frames.start m) (refl, stored) tt l₀ _ low asked;
    follows = follows;
    ledger_is = ap blank (sym state_is);
    phase_is = unfold start_state in (ap (λ (s : State). s.phase) (sym state_is));
    changed_is = unfold start_state empty in (ap some_change (sym state_is));
    marked_is = unfold start_state empty in (ap none_pending (sym state_is));
    rows_are = λ o q e. unfold start_state at_place in (rw e);
    long = λ f l h. stored_long blocks area rs card _ all_stored f l h refl;
  }
    where
      book : FrameBook
      book = (plain_of (start_state m card) card).frames

      low : FrameKept (frames.start m) was frames.done l₀
      low = lowered (start m) was l₀ done p accepted

      asked : first_no (frames.asks (frames.start m) was) ≡ 0
      asked = frames_asked was (start m) accepted

      follows : Follows (needed rs area) blocks area rs (meaning_of l₀) l₀.card book
      follows = done_follows (needed rs area) blocks area rs was book (frames.start m) (refl, stored) tt l₀ _ low asked

pub demand_2 : Demand2
demand_2 m card l₀ p cs n as' l calls =
    let q = all_calls (rs m card l₀ p) (blocks m card l₀ p) (area m card l₀ p) (full m card l₀ p) cs l₀ as' l calls n _ (first_step m card l₀ p) in
    (q.0, q.1 ∙ ap (plain_card cs (plain_of (start_state m card) card)) (card_is m card l₀ p))
