-- `record_list::list::tally` meets its contract. The loop's invariant: what is counted, and what the rest adds, is all.
use Rattle.std.proofs.Common.{arith}
use Rattle.record.proofs.ListLaws.{tallied_none, tallied_room, tallied_more, tallied_all}
use Rattle.record_list.proofs.list.tally.Goals as goal

pub loop-x-init : goal.loop-x-init
loop-x-init c = tallied_none c.args.places.now

pub overflow_add-count : goal.overflow_add-count
overflow_add-count c =
    let l = c.loop-x in
    let room = tallied_room c.args.places.now l.count l.x-index l.invariant c.loop-x-test.true in
    rw c.from.ensures (omega (arith, room))

pub loop-x-preserved : goal.loop-x-preserved
loop-x-preserved c =
    let l = c.loop-x in
    rw c.from.ensures
    (tallied_more c.args.places.now l.count l.x-index l.invariant c.loop-x-test.true
    (omega (arith, c.type_inv.places l.x-index)))

pub returns : goal.returns
returns c =
    let l = c.loop-x in
    tallied_all c.args.places.now l.count l.x-index l.invariant c.loop-x-test.false
