-- DEMAND 2, the statement.
--
-- Take any card that a start accepts, and any list of calls after it without a further start, each lent what the last
-- one left. Then every answer is the plain machine's: a table of pages and counts under document 01's questions. And
-- the card is the first one with the machine's blocks put down in turn. No call is answered 1, 2 or 3.
--
-- The machine asks 9, 12 to 14, 16, 17 and 19 to 21 by a test or a sum of its own, and 10 and 28 of its own counts and
-- its own account of flushes. 11, 15 and 18 are the same text on both sides: one that is wrong is wrong on both. Which
-- changes a call makes is one list for both; the head of `Plain` says all that is shared.
-- Assumes nothing.
use Rattle.std.specs.Prelude.{ℕ, List, [], ◌∷◌, ◌≡◌}
use Rattle.frames.specs.Promise.{Lent, lent}
use Rattle.pages.specs.Call.{Call, start, Answer, done}
use Rattle.pages.specs.Plain.{Plain, plain_of, plain_does}
use Rattle.pages.specs.Promise.{Kept}
use Rattle.record.specs.Meaning.{zero_store}
use Rattle.recovery.specs.Step.{start_state}
use Rattle.recovery.specs.Write.{put_down}

unfoldable pub plain_answers : List Call → Plain → List Answer
plain_answers [] t = []
plain_answers (c ∷ cs) t = (plain_does c t).answer ∷ plain_answers cs (plain_does c t).next

unfoldable pub plain_card : List Call → Plain → List ℕ → List ℕ
plain_card [] t card = card
plain_card (c ∷ cs) t card = plain_card cs (plain_does c t).next (put_down (plain_does c t).write card)

abbrev pub NoStart : List Call → Type 0
NoStart [] = Unit {0}
NoStart (c ∷ cs) = ((m : List ℕ) → c ≡ start m → ⊥) × NoStart cs

-- a chain of promises, each lent what the last one left
pub data Calls : List Call → Lent → List Answer → Lent → Type 0 where
  finished : (l : Lent) → Calls [] l [] l
  next : (c : Call) (cs : List Call) (a : Answer) (as' : List Answer) (l l₁ l₂ : Lent) → Kept c l a l₁ → Calls cs l₁ as' l₂ → Calls (c ∷ cs) l (a ∷ as') l₂

abbrev pub Demand2 : Type 0
Demand2 = (m card : List ℕ) (l₀ : Lent) → Kept (start m) (lent zero_store m card) done l₀
    → (cs : List Call) → NoStart cs → (as' : List Answer) (l : Lent) → Calls cs l₀ as' l
    → (as' ≡ plain_answers cs (plain_of (start_state m card) card)) × (l.card ≡ plain_card cs (plain_of (start_state m card) card) card)
