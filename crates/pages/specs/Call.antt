-- The calls but format, which stands apart, and what they answer. Of the calls that name a page by its OID: what each is
-- asked of the page, what it changes, and what it answers (document 01, 'The calls' and 'Questions asked').
-- Assumes nothing.
use Rattle.std.specs.Prelude.{ℕ, ◌+◌, leb, ltb, eqb, length, cond, List, [], ◌∷◌}
use Rattle.card.specs.Question.{Question, ask}
use Rattle.pages.specs.Change.{put, empty, Edit, edit}
use Rattle.pages.specs.Page.{Page}
use Rattle.recovery.specs.Step.{Kind}

-- the calls on one page, which its OID names; an OID and a count are a key
pub data PageCall : Type 0 where
  key : PageCall
  read : (count : ℕ) (buffer : List ℕ) → PageCall
  write : (count at : ℕ) (new : List ℕ) → PageCall
  rescind : (count : ℕ) → PageCall

-- start's memory is the one that it is lent
pub data Call : Type 0 where
  start : (memory : List ℕ) → Call
  on : (oid : ℕ) → PageCall → Call
  snapshot page_out advance forecast : Call

-- refused with document 01's number; done; key's count; read's number, 0 where it is done, and its buffer after the
-- call, refused or not; the kind and block that advance or page-out wrote; how many advances forecast tells
pub data Answer : Type 0 where
  refused : (number : ℕ) → Answer
  done : Answer
  counted : (count : ℕ) → Answer
  filled : (number : ℕ) (buffer : List ℕ) → Answer
  wrote : Kind → (block : ℕ) → Answer
  foretold : (advances : ℕ) → Answer

-- ---- the calls on one page

-- what each is asked of the page, after 21 and 9 and before 12 to 14
unfoldable pub page_asks : PageCall → Page → List Question
page_asks key x = []
page_asks (read n b) x = ask 10 (eqb x.count n) ∷ ask 11 (eqb (length b) 512) ∷ []
page_asks (write n at new) x = ask 10 (eqb x.count n) ∷ ask 11 (leb (at + length new) 512) ∷ []
page_asks (rescind n) x = ask 10 (eqb x.count n) ∷ ask 15 (ltb n 4294967295) ∷ []

-- what each changes where it is done: a write puts its bytes at the offset, and one of length 0 changes nothing; a
-- rescind empties the page; key and read change nothing
unfoldable pub edits : ℕ → PageCall → List Edit
edits o key = []
edits o (read n b) = []
edits o (write n at new) = cond (eqb (length new) 0) [] (edit o (put at new) ∷ [])
edits o (rescind n) = edit o empty ∷ []

-- what each answers where it is done: key the page's count, read its bytes
unfoldable pub page_answer : PageCall → Page → Answer
page_answer key x = counted x.count
page_answer (read n b) x = filled 0 x.bytes
page_answer (write n at new) x = done
page_answer (rescind n) x = done

-- and where it is refused: read leaves its buffer as it was
unfoldable pub page_refusal : PageCall → ℕ → Answer
page_refusal key k = refused k
page_refusal (read n b) k = filled k b
page_refusal (write n at new) k = refused k
page_refusal (rescind n) k = refused k
