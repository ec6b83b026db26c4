-- `record_list::list::all_stand` meets its contract.
use Rattle.std.proofs.Common.{true, refl, ◌∙◌, ◌-◌, arith, le-leb}
use Rattle.card.proofs.Test.{each_end}
use Rattle.record.proofs.ListLaws.{ones_stand, fold_each}
use Rattle.record_list.proofs.list.all_stand.Goals as goal

pub returns-then-to-from : goal.returns-then-to-from
returns-then-to-from c =
    le-leb _ _ c.if-to-from.true ∙ each_end _ c.args.from c.args.to true refl c.if-to-from.true

pub returns-else-to-from : goal.returns-else-to-from
returns-else-to-from c =
    let a = c.args in
    let count = c.tally.result in
    c.all_ones.ensures
    ∙ fold_each _ true count a.from (a.to - a.from) (omega arith)
    ∙ ones_stand a.places.now count c.tally.ensures a.from (a.to - a.from)
