-- The list of demand 3 has every cut that its drive may make, between calls and in one, once the format is complete,
-- which it is at the first F; and no call flushes but where it answers F, a start neither. What the two drives may do is
-- in recovery's Adversary.
-- Assumes nothing.
use Prim.Native.Nat.{ℕ}
use mathlib.Core.Bool.{Bool, true, false, ◌||◌, false≢true, or-true, or-false}
use mathlib.Core.List.{List}
use mathlib.Core.Option.{Option, none, some}
use mathlib.Core.Path.{◌≡◌, refl, ap, sym, ◌∙◌, subst}
use native.Mathlib.Decide.{ℕ_discrete}
use Rattle.card.specs.Question.{first_no}
use Rattle.frames.specs.Promise as frames
use Rattle.frames.specs.Promise.{Lent, lent}
use Rattle.pages.proofs.AnswerLaws.{block_done, block_none, kept_done, kept_refused}
use Rattle.pages.specs.Book.{called, cut_in, cut, is_flush}
use Rattle.pages.specs.Call.{Call, start, Answer, refused, done, counted, filled, wrote, foretold}
use Rattle.pages.specs.Demand3.{World, lent_to, drive_after, Step, calls, cut_within, cut_between}
use Rattle.pages.specs.Promise.{asks, frame_call, done_answer, refusal, outcome, Kept}
use Rattle.record.specs.Meaning.{zero_store}
use Rattle.recovery.proofs.Adversary.{either_way}
use Rattle.recovery.specs.Step.{page, directory, trailer, migration, header, flush}
use Rattle.recovery.specs.Write.{BlockWrite, Drive, settled, seen, written, Adversary, Cut}

-- after a cut nothing is held, and nothing is unflushed
abbrev cut_to : List ℕ → World
cut_to card = record { drive = settled card; held = none; complete = true }

module _ (A : Adversary) (w : World) (complete : w.complete ≡ true) (card : List ℕ) where
  pub cut_between_lem : Cut A w.drive none card → (reached : Bool) × Step A (cut reached) w (cut_to card)
  cut_between_lem l = let r = either_way w.drive.since card in (r.0, cut_between r.0 w card complete l r.1)

  pub cut_within_lem : (c : Call) (l : Lent) → lent_to c w ≡ some l → Cut A w.drive (outcome c l).write card → (reached : Bool) × Step A (cut_in c reached) w (cut_to card)
  cut_within_lem c l e k = let r = either_way (written (outcome c l).write w.drive).since card in (r.0, cut_within c r.0 w l card complete e k r.1)

-- ---- calls flush nothing but where they answer F

not_flush : (a : Answer) → ((n : ℕ) → a ≡ wrote flush n → ⊥) → is_flush a ≡ false
unfolding is_flush
not_flush (refused n) h = refl
not_flush done h = refl
not_flush (counted n) h = refl
not_flush (filled n x) h = refl
not_flush (wrote page n) h = refl
not_flush (wrote directory n) h = refl
not_flush (wrote trailer n) h = refl
not_flush (wrote migration n) h = refl
not_flush (wrote header n) h = refl
not_flush (wrote flush n) h = absurd (h n refl)
not_flush (foretold n) h = refl

after : Lent → Drive → Bool → World
after l v t = record { drive = v; held = some l; complete = t }

-- a call's write, if it makes one, joins what is not flushed
pub unflushed_call : (A : Adversary) (w : World) (c : Call) (a : Answer) (l l' : Lent) → lent_to c w ≡ some l → Kept c l a l' → ((n : ℕ) → a ≡ wrote flush n → ⊥)
    → Step A (called c a) w (record { drive = written (outcome c l).write w.drive; held = some l'; complete = w.complete })
unfolding after
unflushed_call A w c a l l' e k h = subst (Step A (called c a) w) same (calls c a w l l' e k)
  where
    same : after l' (drive_after a (outcome c l).write w.drive) (w.complete || is_flush a) ≡ after l' (written (outcome c l).write w.drive) w.complete
    same = rw (not_flush a h, or-false w.complete) refl

-- F completes the format: from there on there may be cuts
pub flush_completes : (A : Adversary) (w : World) (c : Call) (n : ℕ) (l l' : Lent) → lent_to c w ≡ some l → Kept c l (wrote flush n) l'
    → Step A (called c (wrote flush n)) w (record { drive = settled (seen w.drive); held = some l'; complete = true })
unfolding after is_flush
flush_completes A w c n l l' e k = subst (Step A (called c (wrote flush n)) w) same (calls c (wrote flush n) w l l' e k)
  where
    same : after l' (settled (seen w.drive)) (w.complete || true) ≡ after l' (settled (seen w.drive)) true
    same = rw (or-true w.complete) refl

-- a start, done or refused, at any time and without a cut: what is not flushed stays so
pub start_anytime : (A : Adversary) (w : World) (m : List ℕ) (a : Answer) (l : Lent) → Kept (start m) (lent zero_store m (seen w.drive)) a l
    → Step A (called (start m) a) w (record { drive = w.drive; held = some l; complete = w.complete })
unfolding frame_call done_answer frames.done_write refusal
start_anytime A w m a l k = subst (λ (o : Option BlockWrite). Step A (called (start m) a) w (record { drive = written o w.drive; held = some l; complete = w.complete })) told.1
    (unflushed_call A w (start m) a was l refl k told.0)
  where
    was : Lent
    was = lent zero_store m (seen w.drive)

    no_flush : (b : Answer) → is_flush b ≡ false → a ≡ b → (n : ℕ) → a ≡ wrote flush n → ⊥
    no_flush b q e n f = unfold is_flush in (false≢true (sym q ∙ ap is_flush (sym e ∙ f)))

    tells : Dec (first_no (asks (start m) was) ≡ 0) → ((n : ℕ) → a ≡ wrote flush n → ⊥) × ((outcome (start m) was).write ≡ none)
    tells (yes e) = (no_flush done (unfold is_flush in refl) (kept_done (start m) was l a k e).0, block_done (start m) was e)
    tells (no z) = (no_flush (refused (first_no (asks (start m) was))) (unfold is_flush in refl) (kept_refused (start m) was l a k z).0, block_none (start m) was z)

    told : ((n : ℕ) → a ≡ wrote flush n → ⊥) × ((outcome (start m) was).write ≡ none)
    told = tells (ℕ_discrete (first_no (asks (start m) was)) 0)
