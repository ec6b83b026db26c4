-- What a call leaves of what is held: a card, and a record that follows the book of frames or that of zeros.
-- Assumes nothing.
use Prim.Native.Nat.{ℕ, ◌*◌, ◌/◌}
use borrow.Author.Tests.{eq-eqb}
use lib.Dec.{ltb, eqb}
use lib.ListN.{length}
use mathlib.Core.Bool.{true, ◌&&◌, false≢true}
use mathlib.Core.List.{List, [], ◌++◌}
use mathlib.Core.Option.{Option, none, some}
use mathlib.Core.Path.{◌≡◌, refl, ap, sym, ◌∙◌, subst}
use native.Mathlib.Omega.{arith}
use Rattle.card.proofs.CheckpointLaws.{whole_is}
use Rattle.card.proofs.QuestionLaws.{none_asked, asked_yes, passed_both}
use Rattle.card.proofs.Test.{by_test, joined}
use Rattle.card.specs.Block.{whole}
use Rattle.card.specs.Bytes.{All}
use Rattle.card.specs.Question.{Question, first_no}
use Rattle.card.specs.Range.{Range}
use Rattle.frames.proofs.KeepLaws.{done_tells}
use Rattle.frames.proofs.ReadyLaws.{whole_said, common_both}
use Rattle.frames.specs.Promise.{Lent, meaning_of, common, FrameCall, start, change, snapshot, page_out, advance, FrameAnswer, refused, asks, advance_answer, advance_write, advanced, done_answer, done_write, after, FrameKept, past}
use Rattle.frames.proofs.Run.{told, Asked}
use Rattle.frames.proofs.Zeros.{zeros-first}
use Rattle.record.specs.Holds.{holds_together}
use Rattle.record.specs.Meaning.{zero_store}
use Rattle.recovery.proofs.Follows.{Stored, Follows, follows_card}
use Rattle.recovery.proofs.FollowsStep.{follows_change, follows_snapshot, follows_advance, follows_out, follows_pass}
use Rattle.recovery.proofs.FrameTheorem.{stored_start}
use Rattle.recovery.specs.Book.{FrameBook, WholeFrame, Needs, Brings}
use Rattle.recovery.specs.Questions.{start_asks, held_asks, room_asks, snapshot_asks, page_out_asks, given, advance_asks}
use Rattle.recovery.specs.State.{State}
use Rattle.recovery.specs.Step.{after_change, after_snapshot, Kind, page, directory, trailer, migration, header, flush, after_kind, advance_due, after_page_out, start_state}
use Rattle.recovery.specs.Write.{put_down}

-- ---- a call that is done

pub done_keeps : (c : FrameCall) (l l' : Lent) (a : FrameAnswer) → FrameKept c l a l' → first_no (asks c l) ≡ 0 → (a ≡ done_answer c l) × (l'.card ≡ put_down (done_write c l) l.card)
done_keeps c l l' a p e = done_tells (first_no (asks c l)) (done_answer c l) (refused (first_no (asks c l))) (done_write c l) (after c l) p e

-- a refused call is no news to the book
pub told_refused : (c : FrameCall) (n : ℕ) (b : FrameBook) → told c (refused n) b ≡ b
unfolding told
told_refused (start m) n b = refl
told_refused (change ws) n b = refl
told_refused snapshot n b = refl
told_refused page_out n b = refl
told_refused (advance k) n b = refl

-- ---- questions 1 to 3

pub zeros_refused : (l : Lent) → l.store ≡ zero_store → first_no (common l) ≡ 0 → ⊥
zeros_refused l z h = let e : first_no (common l) ≡ 1 = rw z (zeros-first l.memory l.card) in omega (arith, e, h)

-- question 1: whole memory frames, as many as are said
abbrev pub MemorySaid : ℕ → ℕ → Type 0
MemorySaid memory frames = whole 4 64 memory && eqb memory (512 * frames) ≡ true

common_memory : (l : Lent) → first_no (common l) ≡ 0 → MemorySaid (length l.memory) l.store.frames
unfolding held_asks
common_memory l h = (passed_both 0 (whole 4 64 (length l.memory) && eqb (length l.memory) (512 * l.store.frames)) _ h).0

-- advance is asked whether a write is due
due_some : (o : Option Kind) → given o ≡ true → (k : Kind) × (o ≡ some k)
due_some none e = absurd (false≢true e)
due_some (some k) e = (k, refl)

pub advance_due_lem : (s : State) → first_no (advance_asks s) ≡ 0 → (k : Kind) × (advance_due s ≡ some k)
unfolding advance_asks
advance_due_lem s h = due_some (advance_due s) (passed_both 19 (given (advance_due s)) [] h).0

-- ---- how many memory frames there are

kind_frames : (k : Kind) (s : State) → (after_kind k s).memory_frames ≡ s.memory_frames
unfolding after_kind
kind_frames page s = refl
kind_frames directory s = refl
kind_frames trailer s = refl
kind_frames migration s = refl
kind_frames header s = refl
kind_frames flush s = refl

advanced_frames : (o : Option Kind) (s : State) → (advanced o s).memory_frames ≡ s.memory_frames
unfolding advanced
advanced_frames none s = refl
advanced_frames (some k) s = kind_frames k s

out_frames : (s : State) → (after_page_out s).memory_frames ≡ s.memory_frames
unfolding after_page_out
out_frames s = by_test (λ (x : State). x.memory_frames ≡ s.memory_frames) (ltb 0 (length s.pending.waiting)) (λ t. refl) (λ t. refl)

-- ---- the record that a call, done, hands back

-- start's record tells of the memory that start is lent
abbrev pub LentMemory : FrameCall → Lent → Type 0
LentMemory (start m) l = l.memory ≡ m
LentMemory (change ws) l = Unit {0}
LentMemory snapshot l = Unit {0}
LentMemory page_out l = Unit {0}
LentMemory (advance n) l = Unit {0}

own_memory : (l : Lent) (own : List Question) (n : ℕ) → n ≡ l.store.frames → first_no (common l ++ own) ≡ 0 → MemorySaid (length l.memory) n
own_memory l own n e h = rw e (common_memory l (common_both l.store (length l.memory) (length l.card) own h).0)

after_memory : (c : FrameCall) (l : Lent) → LentMemory c l → first_no (asks c l) ≡ 0 → MemorySaid (length l.memory) (after c l).memory_frames
unfolding asks after start_asks start_state after_change after_snapshot
after_memory (start m) l o h =
    let w = (passed_both 0 (whole 4 64 (length m)) _ h).0 in
    rw o (sym (whole_said 4 64 (length m) (length m / 512) w) ∙ eq-eqb (length m / 512) (length m / 512) refl)
after_memory (change ws) l o h = own_memory l (room_asks ws (meaning_of l)) _ refl h
after_memory snapshot l o h = own_memory l (snapshot_asks (meaning_of l)) _ refl h
after_memory page_out l o h = own_memory l (page_out_asks (meaning_of l)) _ (out_frames (meaning_of l)) h
after_memory (advance n) l o h = own_memory l (advance_asks (meaning_of (past n l))) _ (advanced_frames (advance_due (meaning_of (past n l))) (meaning_of (past n l))) h

-- it passes questions 1 and 2, whatever record the call was lent
pub passes_again : (c : FrameCall) (l l' : Lent) (a : FrameAnswer) → LentMemory c l → FrameKept c l a l' → first_no (asks c l) ≡ 0
    → MemorySaid (length l'.memory) l'.store.frames × (holds_together l'.store ≡ true)
passes_again c l l' a o p e =
    let frames-is : l'.store.frames ≡ (after c l).memory_frames = ap (λ (s : State). s.memory_frames) (p.meaning e) in
    (rw (p.long, frames-is) (after_memory c l o e), p.sound_is e)

-- ---- what is held, and what is lent

-- the record of zeros, or one that follows the book and passes questions 1 to 3
pub data Standing (needed : Needs) (blocks area : ℕ) (ranges : List Range) (l : Lent) (b : FrameBook) : Type 0 where
  idle : l.store ≡ zero_store → Stored needed blocks area ranges l.card b.kept → Standing needed blocks area ranges l b
  live : Follows needed blocks area ranges (meaning_of l) l.card b → first_no (common l) ≡ 0 → Standing needed blocks area ranges l b

module _ (needed : Needs) (blocks area : ℕ) (ranges : List Range) where
  standing_follows : (l : Lent) (b : FrameBook) → Standing needed blocks area ranges l b → first_no (common l) ≡ 0 → Follows needed blocks area ranges (meaning_of l) l.card b
  standing_follows l b (idle z k) h = absurd (zeros_refused l z h)
  standing_follows l b (live f g) h = f

  -- start is lent a card without a record, every other call what is held
  abbrev pub LentOk : FrameCall → Lent → FrameBook → Type 0
  LentOk (start m) l b = (l.memory ≡ m) × Stored needed blocks area ranges l.card b.kept
  LentOk (change ws) l b = Standing needed blocks area ranges l b
  LentOk snapshot l b = Standing needed blocks area ranges l b
  LentOk page_out l b = Standing needed blocks area ranges l b
  LentOk (advance n) l b = Standing needed blocks area ranges l b

  -- a record that follows the book passes questions 1 to 3 if it passes 1 and 2
  follows_common : (l : Lent) (b : FrameBook) → Follows needed blocks area ranges (meaning_of l) l.card b → MemorySaid (length l.memory) l.store.frames → holds_together l.store ≡ true
      → first_no (common l) ≡ 0
  unfolding held_asks
  follows_common l b f first second =
      let q = follows_card blocks area ranges (meaning_of l) l.card b f in
      let is : l.store.geometry.blocks ≡ blocks = f.blocks_is in
      let long : length l.card ≡ 512 * l.store.geometry.blocks = omega (arith, q.0, is) in
      let card_whole = whole_is 11 65536 blocks (length l.card) q.0 q.1 q.2 in
      asked_yes 1 _ _ first ∙ asked_yes 2 _ _ second ∙ asked_yes 3 _ [] (joined _ _ card_whole (eq-eqb _ _ long)) ∙ none_asked

  -- ---- a call

  module _ (l : Lent) (b : FrameBook) where
    lent_memory : (c : FrameCall) → LentOk c l b → LentMemory c l
    lent_memory (start m) o = o.0
    lent_memory (change ws) o = tt
    lent_memory snapshot o = tt
    lent_memory page_out o = tt
    lent_memory (advance n) o = tt

    -- done
    own_follows : (own : List Question) → Standing needed blocks area ranges l b → first_no (common l ++ own) ≡ 0 → Follows needed blocks area ranges (meaning_of l) l.card b × (first_no own ≡ 0)
    own_follows own o h = let q = common_both l.store (length l.memory) (length l.card) own h in (standing_follows l b o q.0, q.1)

    lent-done : (c : FrameCall) → LentOk c l b → Asked needed c l b → first_no (asks c l) ≡ 0 → Follows needed blocks area ranges (after c l) (put_down (done_write c l) l.card) (told c (done_answer c l) b)
    unfolding asks after done_write done_answer told advanced advance_write advance_answer
    lent-done (start m) o asked h = stored_start blocks area ranges l.card b o.1 m
    lent-done (change ws) o asked h =
        let q = own_follows (room_asks ws (meaning_of l)) o h in
        follows_change blocks area ranges (meaning_of l) l.card b q.0 ws
        (subst (λ (n : ℕ). All (WholeFrame n blocks) ws) q.0.area_is (subst (λ (n : ℕ). All (WholeFrame l.store.geometry.area n) ws) q.0.blocks_is asked.0))
        (subst (λ (n : ℕ). Brings needed n blocks ws b.present) q.0.area_is (subst (λ (n : ℕ). Brings needed l.store.geometry.area n ws b.present) q.0.blocks_is asked.1)) q.1
    lent-done snapshot o asked h =
        let q = own_follows (snapshot_asks (meaning_of l)) o h in
        follows_snapshot blocks area ranges (meaning_of l) l.card b q.0 q.1
    lent-done page_out o asked h =
        let q = own_follows (page_out_asks (meaning_of l)) o h in
        follows_out blocks area ranges (meaning_of l) l.card b q.0 q.1
    lent-done (advance n) o asked h =
        let q = own_follows (advance_asks (meaning_of (past n l))) o h in
        let d = advance_due_lem (meaning_of (past n l)) q.1 in
        let f = follows_pass blocks area ranges (meaning_of l) l.card b q.0 n asked in
        rw d.1 (follows_advance blocks area ranges (meaning_of (past n l)) l.card b f d.0 d.1)

    -- ---- with its promise

    module _ (c : FrameCall) (o : LentOk c l b) where
      pub done_follows : Asked needed c l b → (l' : Lent) (a : FrameAnswer) → FrameKept c l a l' → first_no (asks c l) ≡ 0 → Follows needed blocks area ranges (meaning_of l') l'.card (told c a b)
      done_follows asked l' a p e = let d = done_keeps c l l' a p e in rw (p.meaning e, d.0, d.1) (lent-done c o asked e)

      pub done-common : Asked needed c l b → (l' : Lent) (a : FrameAnswer) → FrameKept c l a l' → first_no (asks c l) ≡ 0 → first_no (common l') ≡ 0
      done-common asked l' a p e =
          let q = passes_again c l l' a (lent_memory c o) p e in
          follows_common l' (told c a b) (done_follows asked l' a p e) q.0 q.1
