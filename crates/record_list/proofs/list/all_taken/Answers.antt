-- `record_list::list::all_taken` meets its contract.
use Rattle.std.proofs.Common.{true, ◌∙◌}
use Rattle.record.proofs.ListLaws.{fold_below}
use Rattle.record_list.proofs.list.all_taken.Goals as goal

pub returns : goal.returns
returns c = c.all_below.ensures ∙ fold_below c.args.p true c.args.places.now
