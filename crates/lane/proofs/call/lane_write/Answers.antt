-- `lane::call::lane_write` meets its contract: what it replies is the by-value call's answer in numbers.
use Rattle.linked.proofs.NumberLaws.{linked_write}
use Rattle.lane.proofs.call.lane_write.Goals as goal

pub returns : goal.returns
returns c = rw c.of.ensures (linked_write _ _ _ _ _ _ _ c.write-d.ensures)
