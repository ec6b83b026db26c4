-- DEMANDS 2 AND 3 of the linked calls, and that their forecast holds, as `pages` has them of the by-value ones, in what a
-- lane program gets: numbers and buffers. That an exported function is the linked call of its name is said by its
-- `ensures` (`src/call.rt`), which belong to these statements.
-- Assumes nothing.
use Rattle.std.specs.Prelude.{ℕ, ◌+◌, ◌-◌, ◌≤◌, ◌<◌, eqb, length, get_or, true, false, ◌||◌, List, [], ◌∷◌, ◌≢◌, ◌≡◌}
use Rattle.std.proofs.Math.Option.{none, some}
use Rattle.card.specs.Block.{whole}
use Rattle.frames.specs.Promise.{Lent, lent, numbered}
use Rattle.linked.specs.Linked.{Reply, number, filling, present, foretelling, report, reply_of, Linked}
use Rattle.pages.specs.Book.{Event, called, cut_in, cut, is_flush, format_book, book_after}
use Rattle.pages.specs.Call.{key, read, Call, start, on, snapshot, page_out, advance, forecast, Answer}
use Rattle.pages.specs.Demand2.{plain_answers, plain_card, NoStart}
use Rattle.pages.specs.Demand3.{World, lent_to, drive_after, Step, OfRanges}
use Rattle.pages.specs.ForecastHolds.{advances}
use Rattle.pages.specs.Page.{Page}
use Rattle.pages.specs.Plain.{plain_of}
use Rattle.pages.specs.Promise.{answered, outcome, FormatKept}
use Rattle.record.specs.Meaning.{zero_store}
use Rattle.recovery.specs.Step.{start_state}
use Rattle.recovery.specs.Write.{Drive, seen, Adversary, Left, Spoilt}

-- ---- demand 2: every reply is the plain machine's answer in numbers

-- a chain of linked calls, each lent what the last one left
pub data LinkedCalls : List Call → Lent → List Reply → Lent → Type 0 where
  finished : (l : Lent) → LinkedCalls [] l [] l
  next : (c : Call) (cs : List Call) (r : Reply) (rs : List Reply) (l l₁ l₂ : Lent) → Linked c l r l₁ → LinkedCalls cs l₁ rs l₂ → LinkedCalls (c ∷ cs) l (r ∷ rs) l₂

unfoldable pub replies : List Call → List Answer → List Reply
replies [] as' = []
replies (c ∷ cs) [] = []
replies (c ∷ cs) (a ∷ as') = reply_of c a ∷ replies cs as'

abbrev pub LinkedDemand2 : Type 0
LinkedDemand2 = (m card : List ℕ) (l₀ : Lent) → Linked (start m) (lent zero_store m card) (number 0) l₀
    → (cs : List Call) → NoStart cs → (rs : List Reply) (l : Lent) → LinkedCalls cs l₀ rs l
    → (rs ≡ replies cs (plain_answers cs (plain_of (start_state m card) card))) × (l.card ≡ plain_card cs (plain_of (start_state m card) card) card)

-- ---- demand 3: after any list of linked calls and cuts, start shows what the book keeps

abbrev pub IsCut : Event → Type 0
IsCut (called c a) = ⊥
IsCut (cut_in c reached) = Unit {0}
IsCut (cut reached) = Unit {0}

-- a list of events; the book is fed the answer that a reply gives in numbers
pub data LinkedRun (A : Adversary) : List Event → World → World → Type 0 where
  ended : (w : World) → LinkedRun A [] w w
  calls : (c : Call) (r : Reply) (es : List Event) (u w : World) (l l' : Lent) → lent_to c u ≡ some l → (k : Linked c l r l')
      → LinkedRun A es (record { drive = drive_after k.answer (outcome c l).write u.drive; held = some l'; complete = u.complete || is_flush k.answer }) w
      → LinkedRun A (called c k.answer ∷ es) u w
  cuts : (e : Event) (es : List Event) (u v w : World) → IsCut e → Step A e u v → LinkedRun A es v w → LinkedRun A (e ∷ es) u w

-- key replies 0 and the page's count, and read with that key 0 and its bytes
abbrev pub LinkedShows : Lent → ℕ → Page → Type 0
LinkedShows l oid p = (refusal count number : ℕ) (before after : List ℕ) (l₁ l₂ : Lent) → length before ≡ 512
    → Linked (on oid key) l (present refusal count) l₁ → Linked (on oid (read p.count before)) l₁ (filling number after) l₂
    → (refusal ≡ 0) × (count ≡ p.count) × (number ≡ 0) × (after ≡ p.bytes)

abbrev pub LinkedRecovers : Adversary → Type 0
LinkedRecovers A = (area : ℕ) (numbers before card : List ℕ) → FormatKept area numbers before (answered (numbered 0)) card
    → (v : Drive) → seen v ≡ card → (es : List Event) (w : World) → LinkedRun A es (record { drive = v; held = none; complete = false }) w
    → (m : List ℕ) → whole 4 64 (length m) ≡ true
    → (n : ℕ) (l : Lent) → Linked (start m) (lent zero_store m (seen w.drive)) (number n) l
    → (n ≡ 0) × (l.card ≡ seen w.drive)
    × ((oid : ℕ) → OfRanges numbers oid → LinkedShows l oid ((book_after es format_book).kept oid))

-- of document 02's drive, and of the stronger one
abbrev pub LinkedDemand3 : Type 0
LinkedDemand3 = LinkedRecovers Left

abbrev pub LinkedDemand3Spoilt : Type 0
LinkedDemand3Spoilt = LinkedRecovers Spoilt

-- ---- the forecast holds: where it replies n, each of the next n advances is done, the last but one is H and no other
-- one, the last is F; what stands among them leaves it

-- a snapshot or a page-out among them is refused
abbrev pub refusal_of : Reply → ℕ
refusal_of (number n) = n
refusal_of (filling r b) = r
refusal_of (present r c) = r
refusal_of (foretelling r n) = r
refusal_of (report k r b) = r

abbrev pub LinkedMayStand : Call → Reply → Type 0
LinkedMayStand (start m) r = ⊥
LinkedMayStand (on o c) r = Unit {0}
LinkedMayStand snapshot r = refusal_of r ≢ 0
LinkedMayStand page_out r = refusal_of r ≢ 0
LinkedMayStand advance r = Unit {0}
LinkedMayStand forecast r = Unit {0}

abbrev pub LinkedUndisturbed : List Call → List Reply → Type 0
LinkedUndisturbed [] rs = Unit {0}
LinkedUndisturbed (c ∷ cs) [] = Unit {0}
LinkedUndisturbed (c ∷ cs) (r ∷ rs) = LinkedMayStand c r × LinkedUndisturbed cs rs

-- the report of advance i of n, counted from 0: refusal 0; kind 5 if it is the last but one, and only then; kind 6 if it
-- is the last
abbrev pub LinkedForeseen : ℕ → ℕ → Reply → Type 0
LinkedForeseen n i r = (kind : ℕ) × (block : ℕ) × (r ≡ report kind 0 block) × (eqb kind 5 ≡ eqb (i + 2) n) × (i + 1 ≡ n → kind ≡ 6)

abbrev pub LinkedForecastHolds : Type 0
LinkedForecastHolds = (m card : List ℕ) (l₀ : Lent) → Linked (start m) (lent zero_store m card) (number 0) l₀
    → (cs : List Call) → NoStart cs → (rs₁ : List Reply) (l : Lent) → LinkedCalls cs l₀ rs₁ l
    → (n : ℕ) (l₁ : Lent) → Linked forecast l (foretelling 0 n) l₁
    → ((r : ℕ) (l' : Lent) → Linked snapshot l₁ (number r) l' → (2 ≤ n → r ≡ 16) × (r ≡ 16 → 2 ≤ n))
    × ((ds : List Call) (rs₂ : List Reply) (l₂ : Lent) → LinkedCalls ds l₁ rs₂ l₂ → LinkedUndisturbed ds rs₂
    → ((i : ℕ) → i < n → i < length (advances ds rs₂) → LinkedForeseen n i (get_or (advances ds rs₂) i (number 0)))
    × (length (advances ds rs₂) ≤ n → (r k : ℕ) (l' : Lent) → Linked forecast l₂ (foretelling r k) l' → (r ≡ 0) × (k ≡ n - length (advances ds rs₂))))
