-- The promise of the frame layer's calls: what each is to do with what it is lent, refusals included.
-- Assumes nothing.
use Rattle.std.specs.Prelude.{ℕ, ◌<◌, eqb, length, true, cond, List, ◌++◌, ◌≡◌, Result, Ok, Err}
use Rattle.std.proofs.Math.Option.{Option, none, some}
use Rattle.card.specs.Question.{Question, first_no}
use Rattle.card.specs.Refusal.{number}
use Rattle.card.specs.declared.refusal.Refusal.{Refusal}
use Rattle.frames.specs.declared.answer.Advance.{Advance}
use Rattle.frames.specs.declared.answer.Advance.TheVariants.{P, D, T, M, H, F}
use Rattle.record.specs.Holds.{holds_together}
use Rattle.record.specs.Meaning.{state_of, zero_store}
use Rattle.record.specs.declared.store.Store.{Store}
use Rattle.recovery.specs.Contents.{FrameBytes}
use Rattle.recovery.specs.Questions.{start_asks, held_asks, room_asks, snapshot_asks, page_out_asks, advance_asks}
use Rattle.recovery.specs.State.{State, read_frame, committed_frame}
use Rattle.recovery.specs.Step.{after_change, after_snapshot, Kind, page, directory, trailer, migration, header, flush, kind_write, kind_put, after_kind, advance_due, page_out_write, after_page_out, start_state}
use Rattle.recovery.specs.Write.{BlockWrite, put_down}

-- what is lent to a call: the record, memory, the card
pub record Lent : Type 0 where
  pub store : Store
  pub memory : List ℕ
  pub card : List ℕ

abbrev pub lent : Store → List ℕ → List ℕ → Lent
lent s m c = record { store = s; memory = m; card = c }

-- the record with its first n committed entries at home or passed over
abbrev pub passing : ℕ → Store → Store
passing n s = record {
  frames = s.frames;
  head = s.head;
  geometry = s.geometry;
  commit = s.commit;
  first = s.first;
  pages = s.pages;
  committed = s.committed;
  migrated = n;
  pending = s.pending;
  tail = s.tail;
  current = s.current;
  phase = s.phase;
}

abbrev pub past : ℕ → Lent → Lent
past n l = lent (passing n l.store) l.memory l.card

-- what the record means with that memory
abbrev pub meaning_of : Lent → State
meaning_of l = state_of l.store l.memory

-- questions 1 to 3 of a record, and of so many bytes of memory and card
abbrev pub common_asks : Store → ℕ → ℕ → List Question
common_asks s memory card = held_asks (holds_together s) s.frames s.geometry.blocks memory card

abbrev pub common : Lent → List Question
common l = common_asks l.store (length l.memory) (length l.card)

-- ---- the promise that every call keeps, in this layer and above

-- what a call is to do: its number, 0 where it is done, its answer, the block that it writes, and, where it is done, the state that it leaves
pub record Outcome (A : Type 0) : Type 0 where
  pub number : ℕ
  pub answer : A
  pub write : Option BlockWrite
  pub after : State

-- by its number, 0 or that of the first "no"
abbrev pub outcome_of : {A : Type 0} → ℕ → A → A → Option BlockWrite → State → Outcome A
outcome_of n finished refusal write next = record { number = n; answer = cond (eqb n 0) finished refusal; write = cond (eqb n 0) write none; after = next }

-- of a call that was lent l, answers a and leaves l'; refused, it leaves `back`. Done, free is only the record's form, which memory frame holds which waiting page, and
-- the bytes of memory frames in which none waits: each waiting page has a memory frame apiece, which the record tells (recovery's Seated)
pub record Keeps {A : Type 0} (o : Outcome A) (back l : Lent) (a : A) (l' : Lent) : Type 0 where
  pub answer_is : a ≡ o.answer
  pub card_is : l'.card ≡ put_down o.write l.card
  pub refusal_is : 0 < o.number → l' ≡ back
  pub meaning : o.number ≡ 0 → meaning_of l' ≡ o.after
  pub sound_is : o.number ≡ 0 → holds_together l'.store ≡ true
  pub long : length l'.memory ≡ length l.memory

-- ---- the frame layer's calls

-- `change` is a change of frames, each with its new bytes, for the layer above. `advance` is told by the layer
-- above how many committed entries are home or passed over.
pub data FrameCall : Type 0 where
  start : (memory : List ℕ) → FrameCall
  change : (frames : List FrameBytes) → FrameCall
  snapshot page_out : FrameCall
  advance : (passed : ℕ) → FrameCall

pub data FrameAnswer : Type 0 where
  refused : (number : ℕ) → FrameAnswer
  done : FrameAnswer
  wrote : Kind → (block : ℕ) → FrameAnswer

unfoldable pub asks : FrameCall → Lent → List Question
asks (start m) l = start_asks m l.card
asks (change ws) l = common l ++ room_asks ws (meaning_of l)
asks snapshot l = common l ++ snapshot_asks (meaning_of l)
asks page_out l = common l ++ page_out_asks (meaning_of l)
asks (advance n) l = common l ++ advance_asks (meaning_of (past n l))

unfoldable pub advance_answer : Option Kind → Lent → FrameAnswer
advance_answer none l = refused 20
advance_answer (some k) l = wrote k (kind_write k (meaning_of l) l.card).block

unfoldable pub advance_write : Option Kind → Lent → Option BlockWrite
advance_write none l = none
advance_write (some k) l = kind_put k (kind_write k (meaning_of l) l.card)

unfoldable pub advanced : Option Kind → State → State
advanced none s = s
advanced (some k) s = after_kind k s

unfoldable pub done_answer : FrameCall → Lent → FrameAnswer
done_answer (start m) l = done
done_answer (change ws) l = done
done_answer snapshot l = done
done_answer page_out l = wrote page (page_out_write (meaning_of l)).block
done_answer (advance n) l = advance_answer (advance_due (meaning_of (past n l))) (past n l)

unfoldable pub done_write : FrameCall → Lent → Option BlockWrite
done_write (start m) l = none
done_write (change ws) l = none
done_write snapshot l = none
done_write page_out l = some (page_out_write (meaning_of l))
done_write (advance n) l = advance_write (advance_due (meaning_of (past n l))) (past n l)

unfoldable pub after : FrameCall → Lent → State
after (start m) l = start_state m l.card
after (change ws) l = after_change ws (meaning_of l)
after snapshot l = after_snapshot (meaning_of l)
after page_out l = after_page_out (meaning_of l)
after (advance n) l = advanced (advance_due (meaning_of (past n l))) (meaning_of (past n l))

abbrev pub outcome : FrameCall → Lent → Outcome FrameAnswer
outcome c l = outcome_of (first_no (asks c l)) (done_answer c l) (refused (first_no (asks c l))) (done_write c l) (after c l)

-- what a refused call hands back: all as lent; start the record of zeros
abbrev pub handed_back : FrameCall → Lent → Lent
handed_back (start m) l = lent zero_store l.memory l.card
handed_back (change ws) l = l
handed_back snapshot l = l
handed_back page_out l = l
handed_back (advance n) l = l

abbrev pub FrameKept : FrameCall → Lent → FrameAnswer → Lent → Type 0
FrameKept c l a l' = Keeps (outcome c l) (handed_back c l) l a l'

-- an answer by number: 0 is done
unfoldable pub numbered : ℕ → FrameAnswer
numbered n = cond (eqb n 0) done (refused n)

-- what advance and page-out answer: document 01's letters are the kinds that they report
unfoldable pub written : Advance → FrameAnswer
written (P n) = wrote page n
written (D n) = wrote directory n
written (T n) = wrote trailer n
written (M n) = wrote migration n
written (H n) = wrote header n
written (F n) = wrote flush n

unfoldable pub reported : Result Advance Refusal → FrameAnswer
reported (Ok a) = written a
reported (Err r) = refused (number r)

-- the bytes that the committed generation shows of a frame: its entry's block, or home
abbrev pub LoadsCommitted : Lent → ℕ → List ℕ → Type 0
LoadsCommitted l f x = x ≡ committed_frame (meaning_of l) l.card f

-- a load of a frame fills x with the frame's newest bytes
abbrev pub Loads : Lent → ℕ → List ℕ → Type 0
Loads l f x = x ≡ read_frame (meaning_of l) l.card f
