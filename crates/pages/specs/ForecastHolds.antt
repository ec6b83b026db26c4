-- THE FORECAST HOLDS (document 02, #102), the statement.
--
-- Take any card that a start accepts, and any list of calls after it without a further start. Let forecast then answer n.
-- Let any list of calls follow, done or refused: advances, any number of them, among keys, reads, writes, rescinds and
-- forecasts, and snapshots and page-outs that are refused.
--
-- Then each of the first n advances is done, so that none is refused 20. The last but one of the n reports H, and no
-- other one does; the last reports F. While no more than n are made, a forecast answers n less those that are: so every
-- other call, and every refused one, leaves it as it is. And n is 2 or more exactly where a snapshot is pending: where a
-- further one is refused 16.
--
-- With none pending n is 1 where a flush is owed, and the next advance is that F; else it is 0.
-- Assumes nothing.
use Rattle.std.specs.Prelude.{ℕ, ◌+◌, ◌-◌, ◌≤◌, ◌<◌, eqb, length, get_or, true, false, List, [], ◌∷◌, ◌≡◌}
use Rattle.frames.specs.Promise.{Lent, lent}
use Rattle.pages.specs.Book.{is_done, is_header, is_flush}
use Rattle.pages.specs.Call.{Call, start, on, snapshot, page_out, advance, forecast, Answer, refused, done, foretold}
use Rattle.pages.specs.Demand2.{NoStart, Calls}
use Rattle.pages.specs.Promise.{Kept}
use Rattle.record.specs.Meaning.{zero_store}

-- what may stand among the advances, with its answer
abbrev pub MayStand : Call → Answer → Type 0
MayStand (start m) a = ⊥
MayStand (on o c) a = Unit {0}
MayStand snapshot a = is_done a ≡ false
MayStand page_out a = is_done a ≡ false
MayStand advance a = Unit {0}
MayStand forecast a = Unit {0}

abbrev pub Undisturbed : List Call → List Answer → Type 0
Undisturbed [] as' = Unit {0}
Undisturbed (c ∷ cs) [] = Unit {0}
Undisturbed (c ∷ cs) (a ∷ as') = MayStand c a × Undisturbed cs as'

-- the answers of the advances alone
abbrev pub of_advance : {A : Type 0} → Call → A → List A → List A
of_advance (start m) a rest = rest
of_advance (on o c) a rest = rest
of_advance snapshot a rest = rest
of_advance page_out a rest = rest
of_advance advance a rest = a ∷ rest
of_advance forecast a rest = rest

unfoldable pub advances : {A : Type 0} → List Call → List A → List A
advances [] as' = []
advances (c ∷ cs) [] = []
advances (c ∷ cs) (a ∷ as') = of_advance c a (advances cs as')

-- the answer of advance i of n, counted from 0: done; H if it is the last but one, and only then; F if it is the last
pub record Foreseen (n i : ℕ) (a : Answer) : Type 0 where
  pub is_done_lem : is_done a ≡ true
  pub is_header_lem : is_header a ≡ eqb (i + 2) n
  pub is_flush_lem : i + 1 ≡ n → is_flush a ≡ true

abbrev pub ForecastHolds : Type 0
ForecastHolds = (m card : List ℕ) (l₀ : Lent) → Kept (start m) (lent zero_store m card) done l₀
    → (cs : List Call) → NoStart cs → (as₁ : List Answer) (l : Lent) → Calls cs l₀ as₁ l
    → (n : ℕ) (l₁ : Lent) → Kept forecast l (foretold n) l₁
    → ((a : Answer) (l' : Lent) → Kept snapshot l₁ a l' → (2 ≤ n → a ≡ refused 16) × (a ≡ refused 16 → 2 ≤ n))
    × ((ds : List Call) (as₂ : List Answer) (l₂ : Lent) → Calls ds l₁ as₂ l₂ → Undisturbed ds as₂
    → ((i : ℕ) → i < n → i < length (advances ds as₂) → Foreseen n i (get_or (advances ds as₂) i done))
    × (length (advances ds as₂) ≤ n → (a : Answer) (l' : Lent) → Kept forecast l₂ a l' → a ≡ foretold (n - length (advances ds as₂))))
