-- `pages_checkpoint::page_out::page_out` meets its contract.
use Rattle.pages.proofs.CallLaws.{page_out_kept}
use Rattle.pages_checkpoint.proofs.page_out.page_out.Goals as goal

pub returns : goal.returns
returns c = page_out_kept _ _ _ c.page_out-answer.ensures
