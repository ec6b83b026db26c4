-- Laws of refusals and their numbers.
-- Assumes nothing.
use Prim.Native.Nat.{◌<◌}
use native.Mathlib.Omega.{arith}
use Rattle.card.specs.Refusal.{number}
use Rattle.card.specs.declared.refusal.Refusal.{Refusal}
use Rattle.card.specs.declared.refusal.Refusal.TheVariants as refusals

-- 0 is no refusal's number
pub number_some : (r : Refusal) → 0 < number r
number_some refusals.Memory = omega arith
number_some refusals.Record = omega arith
number_some refusals.Card = omega arith
number_some refusals.Layout = omega arith
number_some refusals.Geometry = omega arith
number_some refusals.Commit = omega arith
number_some refusals.Trailer = omega arith
number_some refusals.Directory = omega arith
number_some refusals.Outside = omega arith
number_some refusals.Count = omega arith
number_some refusals.Length = omega arith
number_some refusals.Half = omega arith
number_some refusals.Area = omega arith
number_some refusals.Full = omega arith
number_some refusals.LastCount = omega arith
number_some refusals.Pending = omega arith
number_some refusals.Unchanged = omega arith
number_some refusals.LastCommit = omega arith
number_some refusals.NoneWaits = omega arith
number_some refusals.NoneDue = omega arith
number_some refusals.Gap = omega arith
number_some refusals.FlushOwed = omega arith
