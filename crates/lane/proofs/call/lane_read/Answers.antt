-- `lane::call::lane_read` meets its contract: what it replies is the by-value call's answer in numbers.
use Rattle.linked.proofs.NumberLaws.{linked_read}
use Rattle.lane.proofs.call.lane_read.Goals as goal

pub returns-clause-linked : goal.returns-clause-linked
returns-clause-linked c = rw c.of.ensures (linked_read _ _ _ _ _ _ _ c.read.ensures)
