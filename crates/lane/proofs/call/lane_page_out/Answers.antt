-- `lane::call::lane_page_out` meets its contract: what it replies is the call's answer in numbers.
use Rattle.linked.proofs.NumberLaws.{linked_page_out}
use Rattle.lane.proofs.call.lane_page_out.Goals as goal

pub returns : goal.returns
returns c = linked_page_out _ _ _ _ c.into.ensures c.page_out.ensures
