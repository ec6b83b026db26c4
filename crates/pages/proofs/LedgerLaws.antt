-- What the plain machine reads off its ledger and its frames is the state's.
-- Assumes nothing.
use Prim.Native.Nat.{ℕ, zero, suc, ◌+◌, ◌<◌}
use borrow.Author.Tests.{ltb-true, ltb-false, lt-ltb}
use lib.Dec.{ltb, eqb}
use lib.ListN.{length}
use mathlib.Core.Bool.{Bool, true, false, cond, ◌||◌}
use mathlib.Core.List.{List, [], ◌∷◌}
use mathlib.Core.Option.{some}
use mathlib.Core.Path.{◌≡◌, refl, ap, sym, ◌∙◌, subst}
use native.Mathlib.Omega.{arith}
use Rattle.card.specs.Question.{first_no}
use Rattle.card.specs.Range.{Range}
use Rattle.card.specs.Ring.{ring_at}
use Rattle.pages.proofs.BlankLaws.{blank_frames, blank-waits, blank_room, blank_rises, blank_due, blank_passed, blank-sum, blank-advance_asks}
use Rattle.pages.specs.Call.{page_out}
use Rattle.pages.specs.Plain.{Plain, blank_generation, blank, is_none, phase_after, ledger_of, plain_asks, plain_out, plain_kind, plain_page_out}
use Rattle.recovery.proofs.Follows.{Follows, Facts, FactsOf, due_facts}
use Rattle.recovery.proofs.FollowsStep.{some_waits}
use Rattle.recovery.proofs.FrameTheorem.{pending_bytes, current_bytes, home_bytes, due_page}
use Rattle.recovery.proofs.ForecastLaws.{forecast-sum}
use Rattle.recovery.proofs.SumLaws.{Distinct, one_entry, one_rises, same_room, same_due, same_advance}
use Rattle.recovery.specs.Book.{FrameBook, marked_or, book_wrote, Needs}
use Rattle.recovery.specs.Contents.{FrameBytes}
use Rattle.recovery.specs.Directory.{Note}
use Rattle.recovery.specs.Questions.{room_asks, page_out_asks, advance_asks}
use Rattle.recovery.specs.Sound.{Rises}
use Rattle.recovery.specs.State.{Generation, State, entry_count, directory_of, empty, Phase, writing, flushed, owed}
use Rattle.recovery.specs.Step.{pending_to, current_to, change_frame, change_frames, Kind, page, directory, trailer, migration, header, flush, out_write, out_of, tail_bytes, trailer_block_no, next_migration, kind_write, after_flush, after_kind, advance_due, migrating, page_out_write, after_page_out, pass_to}
use Rattle.recovery.specs.Sums as sums
use Rattle.recovery.specs.Sums.{noted_in, remaining_writes, first_of, room_sums, advance_sums, passed_to, commit_sum}

-- ---- questions 16 and 17, as a state is asked them

abbrev pub none_pending : State → Bool
none_pending s = eqb (entry_count s.pending) 0

abbrev pub some_change : State → Bool
some_change s = ltb 0 (entry_count s.current)

-- a change leaves an entry, new or old
pub change_notes : (w : FrameBytes) (ws : List FrameBytes) (g : Generation) → Rises g.entries → 0 < entry_count (change_frames (w ∷ ws) g)
unfolding change_frames
change_notes w [] g up = rw (one_entry w g up) (go g.entries)
  where
    go : (es : List Note) → 0 < length es + cond (noted_in w.frame es) 0 1
    go [] = unfold noted_in in (omega arith)
    go (e ∷ es) = omega arith
change_notes w (x ∷ xs) g up = change_notes x xs (change_frame w g) (one_rises w g up)

-- page-out keeps all entries
pub out_keeps : (s : State) → (none_pending (after_page_out s) ≡ none_pending s) × (some_change (after_page_out s) ≡ some_change s)
unfolding after_page_out out_of
out_keeps s = go (ltb 0 (length s.pending.waiting))
  where
    out : Bool → State
    out t = cond t (pending_to (out_of s.pending) s.tail_down s) (current_to (out_of s.current) s)

    go : (t : Bool) → (none_pending (out t) ≡ none_pending s) × (some_change (out t) ≡ some_change s)
    go true = (refl, refl)
    go false = (refl, refl)

-- so does advance, but a header takes the pending ones, and what is marked
pub kind_current : (k : Kind) (s : State) → (after_kind k s).current ≡ s.current
unfolding after_kind
kind_current page s = refl
kind_current directory s = refl
kind_current trailer s = refl
kind_current migration s = refl
kind_current header s = refl
kind_current flush s = refl

pub kind_marked : (k : Kind) (s : State) (b : FrameBook) → is_none b.marked ≡ none_pending s → is_none (book_wrote k b).marked ≡ none_pending (after_kind k s)
unfolding after_kind out_of empty
kind_marked page s b e = e
kind_marked directory s b e = e
kind_marked trailer s b e = e
kind_marked migration s b e = e
kind_marked header s b e = refl
kind_marked flush s b e = e

-- the machine's own account of flushes is the state's
pub kind_phase : (k : Kind) (s : State) → phase_after k s.phase ≡ (after_kind k s).phase
unfolding after_kind phase_after
kind_phase page s = refl
kind_phase directory s = refl
kind_phase trailer s = refl
kind_phase migration s = refl
kind_phase header s = refl
kind_phase flush s = go s.phase
  where
    go : (p : Phase) → phase_after flush p ≡ after_flush p
    go writing = refl
    go flushed = refl
    go owed = refl

pub out_phase : (s : State) → (after_page_out s).phase ≡ s.phase
unfolding after_page_out
out_phase s = go (ltb 0 (length s.pending.waiting))
  where
    go : (t : Bool) → (cond t (pending_to (out_of s.pending) s.tail_down s) (current_to (out_of s.current) s)).phase ≡ s.phase
    go true = refl
    go false = refl

-- ---- a state, and the machine's ledger beside it

some_of : (a b : ℕ) → ltb 0 (a + b) ≡ (ltb 0 a || ltb 0 b)
some_of zero b = let e : 0 + b ≡ b = omega arith in rw e
some_of (suc a) b = rw (lt-ltb 0 (suc a + b) (omega arith), lt-ltb 0 (suc a) (omega arith))

module _ (s : State) (t : Plain) (ledger_is : t.ledger ≡ blank s) (phase_is : t.phase ≡ s.phase) where
  account_is : ledger_of t ≡ blank s
  unfolding blank
  account_is = rw (ledger_is, phase_is)

  pub room_is : (ws touches : List FrameBytes) → blank_frames ws ≡ touches → Distinct touches → Rises s.current.entries → room_asks ws s ≡ room_sums touches t.ledger
  room_is ws touches e d up = rw ledger_is (sym (blank_room s ws) ∙ (rw e (same_room touches (blank s) d (blank_rises s up))))

  -- with the same frames passed over
  pub passed_is : (over : ℕ → Bool) → passed_to over (ledger_of t) ≡ passed_to over s
  passed_is over = ap (passed_to over) account_is ∙ blank_passed s over

  pub past_is : (n : ℕ) → pass_to n t.ledger ≡ blank (pass_to n s)
  unfolding blank
  past_is n = ap (pass_to n) ledger_is

  blank-past : (over : ℕ → Bool) → pass_to (passed_to over (blank s)) (blank s) ≡ blank (pass_to (passed_to over s) s)
  unfolding blank
  blank-past over = ap (λ (n : ℕ). pass_to n (blank s)) (blank_passed s over)

  pub due_is : (over : ℕ → Bool) → first_of (remaining_writes over (ledger_of t)) ≡ advance_due (pass_to (passed_to over s) s)
  due_is over = rw account_is (same_due over (blank s) ∙ ap advance_due (blank-past over) ∙ blank_due (pass_to (passed_to over s) s))

  pub advance_is : (over : ℕ → Bool) → advance_asks (pass_to (passed_to over s) s) ≡ advance_sums over (ledger_of t)
  advance_is over = rw account_is (sym (ap advance_asks (blank-past over) ∙ blank-advance_asks (pass_to (passed_to over s) s)) ∙ same_advance over (blank s))

  pub forecast_is : (over : ℕ → Bool) → sums.forecast over s ≡ commit_sum over (ledger_of t)
  forecast_is over = forecast-sum over s ∙ sym (ap (commit_sum over) account_is ∙ blank-sum s over)

  pub waiting_is : page_out_asks s ≡ plain_asks page_out t
  unfolding page_out_asks plain_asks blank
  waiting_is = rw (phase_is, ledger_is, blank-waits s.pending, blank-waits s.current, some_of (length s.pending.waiting) (length s.current.waiting))

  -- ---- with its card, and the machine's frames: the block that is written

  module _ {needed : Needs} (blocks area : ℕ) (rs : List Range) (c : List ℕ) (f : Follows needed blocks area rs s c t.frames) where
    pending_out : 0 < length s.pending.waiting → out_write s.area s.pending ≡ plain_out (blank_generation s.pending) s.area (marked_or t.frames)
    unfolding blank_generation
    pending_out h = λ i. record { block = ring_at s.area s.pending.first s.pending.pages_down; bytes = pending_bytes blocks area rs s c t.frames f h i }

    current_out : 0 < length s.current.waiting → out_write s.area s.current ≡ plain_out (blank_generation s.current) s.area t.frames.present
    unfolding blank_generation
    current_out h = λ i. record { block = ring_at s.area s.current.first s.current.pages_down; bytes = current_bytes blocks area rs s c t.frames f h i }

    pub out_is : first_no (page_out_asks s) ≡ 0 → page_out_write s ≡ plain_page_out t
    unfolding page_out_write plain_page_out plain_kind blank
    out_is ok = rw (ledger_is, blank-waits s.pending) (go (ltb 0 (length s.pending.waiting)) refl)
      where
        go : (b : Bool) → ltb 0 (length s.pending.waiting) ≡ b → cond b (out_write s.area s.pending) (out_write s.area s.current)
            ≡ cond b (plain_out (blank_generation s.pending) s.area (marked_or t.frames)) (plain_out (blank_generation s.current) s.area t.frames.present)
        go true e = pending_out (ltb-true _ _ e)
        go false e = current_out (omega (arith, some_waits blocks area rs s c t.frames f ok, ltb-false 0 (length s.pending.waiting) e))

    pub kind_is : (k : Kind) → advance_due s ≡ some k → (migrating s ≡ true → s.migrated < length s.committed.entries → needed t.frames.kept (next_migration s).frame ≡ true) → kind_write k s c ≡ plain_kind k t
    unfolding kind_write plain_kind blank blank_generation directory_of tail_bytes trailer_block_no next_migration
    kind_is page e m = rw ledger_is (pending_out (due_page blocks area rs s c t.frames f e))
    kind_is directory e m = rw ledger_is
    kind_is trailer e m = rw ledger_is
    kind_is migration e m =
        let h : Facts s migration = subst (FactsOf s) e (due_facts s) in
        rw ledger_is (λ i. record { block = (next_migration s).frame; bytes = home_bytes blocks area rs s c t.frames f h.0 (m h.2 h.0) i })
    kind_is flush e m = refl
    kind_is header e m = let one : 1 + s.commit ≡ suc s.commit = omega arith in rw (ledger_is, one)
