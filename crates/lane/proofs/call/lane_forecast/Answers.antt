-- `lane::call::lane_forecast` meets its contract: what it replies is the call's answer in numbers.
use Rattle.linked.proofs.NumberLaws.{linked_forecast}
use Rattle.lane.proofs.call.lane_forecast.Goals as goal

pub returns-clause-linked : goal.returns-clause-linked
returns-clause-linked c = linked_forecast _ _ _ _ c.into.ensures c.forecast.ensures.kept
