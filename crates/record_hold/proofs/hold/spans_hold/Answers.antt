-- `record_hold::hold::spans_hold` meets its contract.
use Rattle.std.proofs.Common.{sym, ◌∙◌, ◌≤◌, arith}
use Rattle.record.proofs.HoldTests.{counts_tell, sizes_small}
use Rattle.record_hold.proofs.hold.spans_hold.Goals as goal

pub waits-pending-requires : goal.waits-pending-requires
waits-pending-requires c = (counts_tell c.args.s.now c.requires).pending_down_lem

pub waits-current-requires : goal.waits-current-requires
waits-current-requires c = (counts_tell c.args.s.now c.requires).current_down_lem

pub sizes_hold-requires : goal.sizes_hold-requires
sizes_hold-requires c = (counts_tell c.args.s.now c.requires).area

pub order_holds-requires : goal.order_holds-requires
order_holds-requires c =
    let s = c.args.s.now in
    let small = sizes_small s c.requires (sym c.sizes_hold.ensures ∙ c.if-sizes_hold.true) in
    let few : s.pending.count ≤ 256 = small.pending in
    omega arith
