-- `lane::call::lane_advance` meets its contract: what it replies is the call's answer in numbers.
use Rattle.linked.proofs.NumberLaws.{linked_advance}
use Rattle.lane.proofs.call.lane_advance.Goals as goal

pub returns : goal.returns
returns c = linked_advance _ _ _ _ c.into.ensures c.advance.ensures
