-- The linked calls: the calls of the page layer over a record that is lent, with their answers in numbers.
-- Assumes nothing.
use Rattle.std.specs.Prelude.{ℕ, List, [], ◌≡◌, Result, Ok, Err}
use Rattle.card.specs.Refusal as refusals
use Rattle.card.specs.declared.refusal.Refusal.{Refusal}
use Rattle.frames.specs.Promise.{Lent}
use Rattle.frames.specs.declared.answer.Advance.{Advance}
use Rattle.frames.specs.declared.answer.Advance.TheVariants.{P, D, T, M, H, F}
use Rattle.linked.specs.declared.answer.Foretold.{Foretold}
use Rattle.linked.specs.declared.answer.Present.{Present}
use Rattle.linked.specs.declared.answer.Report.{Report}
use Rattle.pages.specs.Call.{PageCall, key, read, write, rescind, Call, start, on, snapshot, page_out, advance, forecast, Answer, refused, done, counted, filled, wrote, foretold}
use Rattle.pages.specs.Promise.{Kept}
use Rattle.recovery.specs.Step.{Kind, page, directory, trailer, migration, header, flush}

-- the version of the linked interface, as include/lane.h has it: raised when the record's form, an answer or a call's
-- arguments change
abbrev pub version : ℕ
version = 3

-- what C gets of a call: a number; read's number and its buffer after the call; key's refusal and count; forecast's
-- refusal and advances; page-out's and advance's kind, refusal and block
pub data Reply : Type 0 where
  number : ℕ → Reply
  filling : (refusal : ℕ) (buffer : List ℕ) → Reply
  present : (refusal count : ℕ) → Reply
  foretelling : (refusal advances : ℕ) → Reply
  report : (kind refusal block : ℕ) → Reply

-- the answers' cases in numbers
abbrev pub present_of : Result ℕ Refusal → Present
present_of (Ok n) = record { refusal = 0; count = n }
present_of (Err r) = record { refusal = refusals.number r; count = 0 }

abbrev pub foretold_of : Result ℕ Refusal → Foretold
foretold_of (Ok n) = record { refusal = 0; advances = n }
foretold_of (Err r) = record { refusal = refusals.number r; advances = 0 }

abbrev pub report_of : Result Advance Refusal → Report
report_of (Ok (P b)) = record { kind = 1; refusal = 0; block = b }
report_of (Ok (D b)) = record { kind = 2; refusal = 0; block = b }
report_of (Ok (T b)) = record { kind = 3; refusal = 0; block = b }
report_of (Ok (M b)) = record { kind = 4; refusal = 0; block = b }
report_of (Ok (H b)) = record { kind = 5; refusal = 0; block = b }
report_of (Ok (F b)) = record { kind = 6; refusal = 0; block = b }
report_of (Err r) = record { kind = 0; refusal = refusals.number r; block = 0 }

unfoldable pub kind_number : Kind → ℕ
kind_number page = 1
kind_number directory = 2
kind_number trailer = 3
kind_number migration = 4
kind_number header = 5
kind_number flush = 6

-- what an answer tells in numbers: its number, 0 where the call is done; a count; advances; bytes; a kind, 0 for none;
-- its block, 0 for none
unfoldable pub number_of : Answer → ℕ
number_of (refused n) = n
number_of done = 0
number_of (counted c) = 0
number_of (filled n b) = n
number_of (wrote k b) = 0
number_of (foretold n) = 0

unfoldable pub count_of : Answer → ℕ
count_of (refused n) = 0
count_of done = 0
count_of (counted c) = c
count_of (filled n b) = 0
count_of (wrote k b) = 0
count_of (foretold n) = 0

unfoldable pub advances_of : Answer → ℕ
advances_of (refused n) = 0
advances_of done = 0
advances_of (counted c) = 0
advances_of (filled n b) = 0
advances_of (wrote k b) = 0
advances_of (foretold n) = n

unfoldable pub bytes_of : Answer → List ℕ
bytes_of (refused n) = []
bytes_of done = []
bytes_of (counted c) = []
bytes_of (filled n b) = b
bytes_of (wrote k b) = []
bytes_of (foretold n) = []

unfoldable pub kind_of : Answer → ℕ
kind_of (refused n) = 0
kind_of done = 0
kind_of (counted c) = 0
kind_of (filled n b) = 0
kind_of (wrote k b) = kind_number k
kind_of (foretold n) = 0

unfoldable pub block_of : Answer → ℕ
block_of (refused n) = 0
block_of done = 0
block_of (counted c) = 0
block_of (filled n b) = 0
block_of (wrote k b) = b
block_of (foretold n) = 0

-- a call's answer in numbers
unfoldable pub page_reply : PageCall → Answer → Reply
page_reply key a = present (number_of a) (count_of a)
page_reply (read n b) a = filling (number_of a) (bytes_of a)
page_reply (write n at new) a = number (number_of a)
page_reply (rescind n) a = number (number_of a)

unfoldable pub reply_of : Call → Answer → Reply
reply_of (start m) a = number (number_of a)
reply_of (on o c) a = page_reply c a
reply_of snapshot a = number (number_of a)
reply_of page_out a = report (kind_of a) (number_of a) (block_of a)
reply_of advance a = report (kind_of a) (number_of a) (block_of a)
reply_of forecast a = foretelling (number_of a) (advances_of a)

-- THE PROMISE of a linked call c that was lent l, replies r and leaves l': the by-value call's, its answer in numbers
pub record Linked (c : Call) (l : Lent) (r : Reply) (l' : Lent) : Type 0 where
  pub answer : Answer
  pub in_numbers : r ≡ reply_of c answer
  pub kept : Kept c l answer l'
