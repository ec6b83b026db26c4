-- `pages_checkpoint::start::start` meets its contract.
use Rattle.pages.proofs.CallLaws.{start_kept}
use Rattle.pages_checkpoint.proofs.start.start.Goals as goal

pub returns : goal.returns
returns c = start_kept _ _ _ _ c.start.ensures
