-- `lane::call::lane_rescind` meets its contract: what it replies is the by-value call's answer in numbers.
use Rattle.linked.proofs.NumberLaws.{linked_rescind}
use Rattle.lane.proofs.call.lane_rescind.Goals as goal

pub returns : goal.returns
returns c = rw c.of.ensures (linked_rescind _ _ _ _ _ c.rescind-d.ensures)
