-- `lane::call::lane_snapshot` meets its contract: what it replies is the by-value call's answer in numbers.
use Rattle.linked.proofs.NumberLaws.{linked_snapshot}
use Rattle.lane.proofs.call.lane_snapshot.Goals as goal

pub returns : goal.returns
returns c = rw c.of.ensures (linked_snapshot _ _ _ c.snapshot-d.ensures)
