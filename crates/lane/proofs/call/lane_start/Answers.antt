-- `lane::call::lane_start` meets its contract: what it replies is the by-value call's answer in numbers.
use Rattle.linked.proofs.NumberLaws.{linked_start}
use Rattle.lane.proofs.call.lane_start.Goals as goal

pub returns : goal.returns
returns c = rw c.of.ensures (linked_start _ _ _ _ c.start-d.ensures)
