-- How a call keeps its promise, refused or done, and what a kept promise tells.
-- Assumes nothing.
use Prim.Native.Nat.{ℕ}
use borrow.Author.Tests.{eq-eqb, ne_eqb}
use lib.Dec.{eqb}
use lib.ListN.{length}
use mathlib.Core.Bool.{true, false}
use mathlib.Core.Logic.{◌≢◌}
use mathlib.Core.Option.{Option, none}
use mathlib.Core.Path.{◌≡◌, refl, ap, sym, ◌∙◌, subst}
use native.Mathlib.Omega.{arith}
use Rattle.card.specs.Question.{first_no}
use Rattle.frames.specs.Promise.{Lent, meaning_of, outcome_of, Keeps, FrameCall, start, change, snapshot, page_out, advance, FrameAnswer, refused, done, asks, done_answer, done_write, after, handed_back, FrameKept, numbered}
use Rattle.record.specs.Holds.{holds_together}
use Rattle.recovery.specs.State.{State}
use Rattle.recovery.specs.Write.{BlockWrite, put_down}

-- ---- any call

module _ {A : Type 0} (n : ℕ) (finished refusal : A) (write : Option BlockWrite) (next : State) where
  pub outcome-done : n ≡ 0 → ((outcome_of n finished refusal write next).answer ≡ finished) × ((outcome_of n finished refusal write next).write ≡ write)
  outcome-done e = let t : eqb n 0 ≡ true = eq-eqb n 0 e in (rw t, rw t)

  pub outcome_refused : n ≢ 0 → ((outcome_of n finished refusal write next).answer ≡ refusal) × ((outcome_of n finished refusal write next).write ≡ none)
  outcome_refused z = let t : eqb n 0 ≡ false = ne_eqb n 0 z in (rw t, rw t)

  -- refused, it leaves the card as lent
  pub keeps_refused : (back l : Lent) → n ≢ 0 → back.card ≡ l.card → length back.memory ≡ length l.memory → Keeps (outcome_of n finished refusal write next) back l refusal back
  keeps_refused back l z card long =
      let o = outcome_refused z in
      record {
        answer_is = sym o.0;
        card_is = subst (λ (w : Option BlockWrite). back.card ≡ put_down w l.card) (sym o.1) card;
        refusal_is = λ q. refl;
        meaning = λ q. absurd (z q);
        sound_is = λ q. absurd (z q);
        long = long;
      }

  pub keeps_done : (back l l' : Lent) → n ≡ 0 → l'.card ≡ put_down write l.card → meaning_of l' ≡ next → holds_together l'.store ≡ true → length l'.memory ≡ length l.memory
      → Keeps (outcome_of n finished refusal write next) back l finished l'
  keeps_done back l l' e card meaning sound long =
      let o = outcome-done e in
      record {
        answer_is = sym o.0;
        card_is = subst (λ (w : Option BlockWrite). l'.card ≡ put_down w l.card) (sym o.1) card;
        refusal_is = λ q. absurd (omega (arith, e));
        meaning = λ q. meaning;
        sound_is = λ q. sound;
        long = long;
      }

  -- ---- what a kept promise tells

  module _ {back l l' : Lent} {a : A} (k : Keeps (outcome_of n finished refusal write next) back l a l') where
    pub done_tells : n ≡ 0 → (a ≡ finished) × (l'.card ≡ put_down write l.card)
    done_tells e = let o = outcome-done e in (k.answer_is ∙ o.0, k.card_is ∙ ap (λ (w : Option BlockWrite). put_down w l.card) o.1)

    pub refused_tells : n ≢ 0 → (a ≡ refusal) × (l' ≡ back)
    refused_tells z = (k.answer_is ∙ (outcome_refused z).0, k.refusal_is (omega (arith, z)))

-- ---- the frame layer's calls

pub back_card : (c : FrameCall) (l : Lent) → (handed_back c l).card ≡ l.card
back_card (start m) l = refl
back_card (change ws) l = refl
back_card snapshot l = refl
back_card page_out l = refl
back_card (advance n) l = refl

pub back_memory : (c : FrameCall) (l : Lent) → (handed_back c l).memory ≡ l.memory
back_memory (start m) l = refl
back_memory (change ws) l = refl
back_memory snapshot l = refl
back_memory page_out l = refl
back_memory (advance n) l = refl

pub kept_refused : (c : FrameCall) (l : Lent) (n : ℕ) → first_no (asks c l) ≡ n → n ≢ 0 → FrameKept c l (refused n) (handed_back c l)
kept_refused c l n e z =
    subst (λ (k : ℕ). FrameKept c l (refused k) (handed_back c l)) e
    (keeps_refused (first_no (asks c l)) _ _ _ _ (handed_back c l) l (λ q. z (sym e ∙ q)) (back_card c l) (ap length (back_memory c l)))

pub kept_done : (c : FrameCall) (l l' : Lent) (a : FrameAnswer) → first_no (asks c l) ≡ 0 → a ≡ done_answer c l → l'.card ≡ put_down (done_write c l) l.card
    → meaning_of l' ≡ after c l → holds_together l'.store ≡ true → length l'.memory ≡ length l.memory → FrameKept c l a l'
kept_done c l l' a e answer card meaning sound long = rw answer (keeps_done (first_no (asks c l)) _ _ _ _ (handed_back c l) l l' e card meaning sound long)

-- an answer by number
pub numbered_no : (n : ℕ) → n ≢ 0 → numbered n ≡ refused n
unfolding numbered
numbered_no n z = rw (ne_eqb n 0 z)

pub numbered-done : numbered 0 ≡ done
unfolding numbered
numbered-done = refl

-- refused by a number that the call answers
pub refused_by : (c : FrameCall) (l : Lent) (n : ℕ) → first_no (asks c l) ≡ n → n ≢ 0 → FrameKept c l (numbered n) (handed_back c l)
refused_by c l n e z = rw (numbered_no n z) (kept_refused c l n e z)
