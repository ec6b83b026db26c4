-- What a call answers by its first "no", and its promise beside that of the frame call that it comes to.
-- Assumes nothing.
use Prim.Native.Nat.{ℕ, ◌-◌, ◌<◌}
use borrow.Author.Tests.{eq-eqb}
use lib.Dec.{eqb}
use lib.ListN.{length, drop}
use mathlib.Core.Bool.{Bool, true, false, cond}
use mathlib.Core.List.{List, [], ◌++◌}
use mathlib.Core.Logic.{◌≢◌}
use mathlib.Core.Option.{none}
use mathlib.Core.Path.{◌≡◌, refl, ap, sym, ◌∙◌, subst}
use native.Mathlib.Omega.{arith}
use Rattle.card.specs.Range.{Lookup, Located, Gap, Outside}
use Rattle.card.proofs.AllLaws.{all_map}
use Rattle.card.proofs.QuestionLaws.{none_asked, asked_yes, asked_no, groups_passed}
use Rattle.card.proofs.Test.{by_test}
use Rattle.card.specs.Bytes.{All}
use Rattle.card.specs.Question.{Question, first_no}
use Rattle.card.specs.declared.range.Address.{Address}
use Rattle.frames.proofs.KeepLaws.{outcome-done, outcome_refused, keeps_refused, keeps_done, done_tells, refused_tells, back_card, back_memory}
use Rattle.frames.proofs.ReadyLaws.{common_passed, common_both}
use Rattle.frames.specs.Promise.{Lent, meaning_of, common, FrameAnswer, FrameKept}
use Rattle.pages.specs.Call.{PageCall, key, read, write, rescind, Call, start, on, snapshot, page_out, advance, forecast, Answer, page_asks}
use Rattle.pages.specs.Change.{at_place}
use Rattle.pages.specs.Page.{Page}
use Rattle.pages.specs.Promise.{answered, address_of, present_page, call_frames, placed, asks, frame_call, done_answer, refusal, outcome, Kept}
use Rattle.record.specs.Holds.{holds_together}
use Rattle.recovery.specs.Contents.{FrameBytes}
use Rattle.recovery.specs.Questions.{held_asks, new_places, room_asks}
use Rattle.recovery.specs.State.{State, places}
use Rattle.recovery.specs.Step.{change_frames, after_change}
use Rattle.recovery.specs.Write.{put_down}
use Rattle.frames.specs.Promise as frames

-- ---- questions 1 to 3, which every call but start is asked first

-- every call but start
abbrev pub Later : Call → Type 0
Later (start m) = ⊥
Later (on o c) = Unit {0}
Later snapshot = Unit {0}
Later page_out = Unit {0}
Later advance = Unit {0}
Later forecast = Unit {0}

-- what it is asked after 1 to 3
unfoldable pub own_asks : Call → Lent → List Question
own_asks c l = drop 3 (asks c l)

asks_are : (c : Call) (l : Lent) → Later c → asks c l ≡ common l ++ own_asks c l
unfolding asks own_asks held_asks
asks_are (start m) l k = absurd k
asks_are (on o c) l k = refl
asks_are snapshot l k = refl
asks_are page_out l k = refl
asks_are advance l k = refl
asks_are forecast l k = refl

pub asked_both : (c : Call) (l : Lent) → Later c → first_no (asks c l) ≡ 0 → (first_no (common l) ≡ 0) × (first_no (own_asks c l) ≡ 0)
asked_both c l k e = common_both l.store (length l.memory) (length l.card) (own_asks c l) (sym (ap first_no (asks_are c l k)) ∙ e)

pub asked_own : (c : Call) (l : Lent) → Later c → first_no (common l) ≡ 0 → first_no (asks c l) ≡ first_no (own_asks c l)
asked_own c l k e = ap first_no (asks_are c l k) ∙ common_passed l.store (length l.memory) (length l.card) (own_asks c l) e

-- 21 and 9: of a place the rest is asked, and nothing else passes
pub placed_located : (p : Address) (rest : Address → List Question) → first_no (placed (Located p) rest) ≡ first_no (rest p)
unfolding placed at_place
placed_located p rest = asked_yes 21 true _ refl ∙ asked_yes 9 true _ refl

pub placed_gap : (rest : Address → List Question) → first_no (placed Gap rest) ≡ 21
unfolding placed
placed_gap rest = asked_no 21 false _ refl

pub placed_outside : (rest : Address → List Question) → first_no (placed Outside rest) ≡ 9
unfolding placed
placed_outside rest = asked_yes 21 true _ refl ∙ asked_no 9 false _ refl

pub found_place : (a : Lookup) (rest : Address → List Question) → first_no (placed a rest) ≡ 0 → (p : Address) × (a ≡ Located p) × (first_no (rest p) ≡ 0)
found_place (Located p) rest e = (p, refl, sym (placed_located p rest) ∙ e)
found_place Gap rest e = absurd (omega (arith, placed_gap rest, e))
found_place Outside rest e = absurd (omega (arith, placed_outside rest, e))

-- of a call on a page
module _ (o : ℕ) (c : PageCall) (l : Lent) where
  of_place : Address → List Question
  of_place p = page_asks c (present_page l p) ++ room_asks (call_frames o c l) (meaning_of l)

  pub on_located : (p : Address) → address_of l o ≡ Located p → first_no (own_asks (on o c) l) ≡ first_no (page_asks c (present_page l p) ++ room_asks (call_frames o c l) (meaning_of l))
  unfolding own_asks asks held_asks of_place
  on_located p e = ap (λ (a : Lookup). first_no (placed a of_place)) e ∙ placed_located p of_place

  pub on_gap : address_of l o ≡ Gap → first_no (own_asks (on o c) l) ≡ 21
  unfolding own_asks asks held_asks of_place
  on_gap e = ap (λ (a : Lookup). first_no (placed a of_place)) e ∙ placed_gap of_place

  pub on_outside : address_of l o ≡ Outside → first_no (own_asks (on o c) l) ≡ 9
  unfolding own_asks asks held_asks of_place
  on_outside e = ap (λ (a : Lookup). first_no (placed a of_place)) e ∙ placed_outside of_place

-- the questions after 9, and their numbers: none of them is 9 or 21
abbrev pub Behind9 : ℕ → Type 0
Behind9 n = (9 < n) × (n ≢ 21)

pub asks_behind : (c : PageCall) (x : Page) → All (λ (q : Question). Behind9 q.number) (page_asks c x)
unfolding page_asks
asks_behind key x = tt
asks_behind (read n b) x = (omega arith, (omega arith, tt))
asks_behind (write n at new) x = (omega arith, (omega arith, tt))
asks_behind (rescind n) x = (omega arith, (omega arith, tt))

pub room_behind : (ws : List FrameBytes) (s : State) → All (λ (q : Question). Behind9 q.number) (room_asks ws s)
unfolding room_asks
room_behind ws s = by_test (All (λ (q : Question). Behind9 q.number)) (eqb (new_places ws s) 0) (λ _. tt) (λ _. (omega arith, (omega arith, (omega arith, tt))))

-- no question has number 0
pub asks-numbered : (c : PageCall) (x : Page) → All (λ (q : Question). 0 < q.number) (page_asks c x)
asks-numbered c x = all_map (λ (q : Question). Behind9 q.number) (λ (q : Question). 0 < q.number) (page_asks c x) (λ q h. omega (arith, h.0)) (asks_behind c x)

-- a call on a page that passes: its place, what is asked of the page, and room for its frames
pub record Passed (o : ℕ) (c : PageCall) (l : Lent) : Type 0 where
  pub place : Address
  pub place_is : address_of l o ≡ Located place
  pub page_passes : first_no (page_asks c (present_page l place)) ≡ 0
  pub room : first_no (room_asks (call_frames o c l) (meaning_of l)) ≡ 0

pub on_passed : (o : ℕ) (c : PageCall) (l : Lent) → first_no (own_asks (on o c) l) ≡ 0 → Passed o c l
unfolding own_asks asks held_asks
on_passed o c l e =
    let f = found_place (address_of l o) _ e in
    let q = groups_passed (page_asks c (present_page l f.0)) (room_asks (call_frames o c l) (meaning_of l)) (asks-numbered c (present_page l f.0)) f.2 in
    record { place = f.0; place_is = f.1; page_passes = q.0; room = q.1 }

-- ---- the frame call that a call comes to

pub change_none : (s : State) → (first_no (room_asks [] s) ≡ 0) × (after_change [] s ≡ s)
unfolding room_asks new_places after_change change_frames
change_none s = (let t : eqb (places s.current - places s.current) 0 ≡ true = eq-eqb (places s.current - places s.current) 0 (omega arith) in rw t none_asked, refl)

module _ (l : Lent) where
  -- a change passes where 1 to 3 and its own 12 to 14 do
  change_asked : (ws : List FrameBytes) → first_no (common l) ≡ 0 → first_no (room_asks ws (meaning_of l)) ≡ 0 → first_no (frames.asks (frames.change ws) l) ≡ 0
  unfolding frames.asks
  change_asked ws h r = common_passed l.store (length l.memory) (length l.card) (room_asks ws (meaning_of l)) h ∙ r

  pub frames_asked : (c : Call) → first_no (asks c l) ≡ 0 → first_no (frames.asks (frame_call c l) l) ≡ 0
  unfolding frame_call
  frames_asked (start m) e = unfold asks frames.asks in e
  frames_asked (on o c) e = let q = asked_both (on o c) l tt e in change_asked (call_frames o c l) q.0 (on_passed o c l q.1).room
  frames_asked snapshot e = unfold asks frames.asks in e
  frames_asked page_out e = unfold asks frames.asks in e
  frames_asked advance e = unfold asks frames.asks in e
  frames_asked forecast e = change_asked [] (asked_both forecast l tt e).0 (change_none (meaning_of l)).0

-- ---- a promise that is kept: done, or refused

module _ (c : Call) (l : Lent) where
  pub block_done : first_no (asks c l) ≡ 0 → (outcome c l).write ≡ frames.done_write (frame_call c l) l
  block_done e = (outcome-done _ (done_answer c l) (refusal c (first_no (asks c l))) _ (frames.after (frame_call c l) l) e).1

  pub block_none : first_no (asks c l) ≢ 0 → (outcome c l).write ≡ none
  block_none z = (outcome_refused _ (done_answer c l) (refusal c (first_no (asks c l))) (frames.done_write (frame_call c l) l) (frames.after (frame_call c l) l) z).1

  module _ (l' : Lent) (a : Answer) (k : Kept c l a l') where
    pub kept_done : first_no (asks c l) ≡ 0 → (a ≡ done_answer c l) × (l'.card ≡ put_down (frames.done_write (frame_call c l) l) l.card)
    kept_done e = done_tells _ (done_answer c l) (refusal c (first_no (asks c l))) (frames.done_write (frame_call c l) l) (frames.after (frame_call c l) l) k e

    pub kept_refused : first_no (asks c l) ≢ 0 → (a ≡ refusal c (first_no (asks c l))) × (l' ≡ frames.handed_back (frame_call c l) l)
    kept_refused z = refused_tells _ (done_answer c l) (refusal c (first_no (asks c l))) (frames.done_write (frame_call c l) l) (frames.after (frame_call c l) l) k z

    -- done, it keeps the frame layer's promise of the call that it comes to
    pub lowered : first_no (asks c l) ≡ 0 → FrameKept (frame_call c l) l (frames.done_answer (frame_call c l) l) l'
    lowered e = keeps_done _ (frames.done_answer (frame_call c l) l) _ (frames.done_write (frame_call c l) l) (frames.after (frame_call c l) l) (frames.handed_back (frame_call c l) l) l l'
        (frames_asked l c e) (kept_done e).1 (k.meaning e) (k.sound_is e) k.long

  -- ---- how it is kept

  pub keeps_no : (n : ℕ) → first_no (asks c l) ≡ n → n ≢ 0 → Kept c l (refusal c n) (frames.handed_back (frame_call c l) l)
  keeps_no n e z = subst (λ (k : ℕ). Kept c l (refusal c k) (frames.handed_back (frame_call c l) l)) e
      (keeps_refused (first_no (asks c l)) (done_answer c l) _ _ _ _ l (λ q. z (sym e ∙ q)) (back_card (frame_call c l) l) (ap length (back_memory (frame_call c l) l)))

  -- a call that changes no frame leaves what it was lent
  pub keeps_same : first_no (asks c l) ≡ 0 → frame_call c l ≡ frames.change [] → holds_together l.store ≡ true → Kept c l (done_answer c l) l
  unfolding frames.done_write frames.after
  keeps_same e f together = keeps_done (first_no (asks c l)) (done_answer c l) _ _ _ _ l l e (rw f) (rw (f, (change_none (meaning_of l)).1)) together refl

  -- as the frame layer keeps the call that it comes to
  pub lifted : (l' : Lent) (a : FrameAnswer) → FrameKept (frame_call c l) l a l' → first_no (asks c l) ≡ first_no (frames.asks (frame_call c l) l)
      → done_answer c l ≡ answered (frames.done_answer (frame_call c l) l) → ((n : ℕ) → refusal c n ≡ answered (frames.refused n)) → Kept c l (answered a) l'
  lifted l' a k e same-done same-refusal = record {
    answer_is = ap answered k.answer_is ∙ answer_same (eqb (first_no (frames.asks (frame_call c l) l)) 0) ∙ rw (← e) refl;
    card_is = rw e k.card_is;
    refusal_is = λ q. k.refusal_is (rw e at q);
    meaning = λ q. k.meaning (sym e ∙ q);
    sound_is = λ q. k.sound_is (sym e ∙ q);
    long = k.long;
  }
    where
      answer_same : (t : Bool) → answered (cond t (frames.done_answer (frame_call c l) l) (frames.refused (first_no (frames.asks (frame_call c l) l))))
          ≡ cond t (done_answer c l) (refusal c (first_no (frames.asks (frame_call c l) l)))
      answer_same true = sym same-done
      answer_same false = sym (same-refusal _)
