-- Refusals and their numbers (document 01, 'Questions asked, in this order'; document 02, #101 and #110).
-- Assumes nothing.
use Rattle.std.specs.Prelude.{ℕ, Result, Ok, Err}
use Rattle.card.specs.declared.refusal.Refusal.{Refusal}
use Rattle.card.specs.declared.refusal.Refusal.TheVariants as refusals

abbrev pub number : Refusal → ℕ
number refusals.Memory = 1
number refusals.Record = 2
number refusals.Card = 3
number refusals.Layout = 4
number refusals.Geometry = 5
number refusals.Commit = 6
number refusals.Trailer = 7
number refusals.Directory = 8
number refusals.Outside = 9
number refusals.Count = 10
number refusals.Length = 11
number refusals.Half = 12
number refusals.Area = 13
number refusals.Full = 14
number refusals.LastCount = 15
number refusals.Pending = 16
number refusals.Unchanged = 17
number refusals.LastCommit = 18
number refusals.NoneWaits = 19
number refusals.NoneDue = 20
number refusals.Gap = 21
number refusals.FlushOwed = 28

-- the number that a call tells: 0 where it is done
abbrev pub told : {A : Type 0} → Result A Refusal → ℕ
told (Ok a) = 0
told (Err r) = number r
