-- `pages_checkpoint::snapshot::snapshot` meets its contract.
use Rattle.pages.proofs.CallLaws.{snapshot_kept}
use Rattle.pages_checkpoint.proofs.snapshot.snapshot.Goals as goal

pub returns : goal.returns
returns c = snapshot_kept _ _ _ c.snapshot-answer.ensures
