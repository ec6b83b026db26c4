-- `record_list::list::tally` meets its contract. The loop's invariant: what is counted, and what the rest adds, is all.
use Rattle.record.proofs.ListLaws.{Tallied}
use Rattle.record_list.proofs.list.tally.Given as goal

abbrev pub invariant-loop-x : goal.invariant-loop-x
invariant-loop-x l = Tallied l.places l.count l.x-index
