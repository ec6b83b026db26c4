-- `record_hold::place::committed_ring` meets its contract.
use Rattle.record.proofs.Held.{held, bounds}
use Rattle.record_hold.proofs.place.committed_ring.Goals as goal

pub invariant_of-result : goal.invariant_of-result
invariant_of-result c =
    let h = held c.args.s.now c.requires in
    record { area_high = (bounds c.args.s.now h).area_high; first_inside = h.first_high }
