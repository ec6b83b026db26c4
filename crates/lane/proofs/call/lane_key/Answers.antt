-- `lane::call::lane_key` meets its contract: what it replies is the call's answer in numbers.
use Rattle.linked.proofs.NumberLaws.{linked_key}
use Rattle.lane.proofs.call.lane_key.Goals as goal

pub returns-clause-linked : goal.returns-clause-linked
returns-clause-linked c = linked_key _ _ _ _ _ c.into.ensures c.key.ensures.kept
