-- `record_hold::place::current_ring` meets its contract.
use Rattle.std.proofs.Common.{◌+◌, arith}
use Rattle.card.proofs.RingLaws.{ring_high}
use Rattle.record.proofs.Held.{held, bounds}
use Rattle.record_hold.proofs.place.current_ring.Goals as goal

pub size-a-requires : goal.size-a-requires
size-a-requires c =
    let h = held c.args.s.now c.requires in
    omega (arith, h.half_committed, (bounds c.args.s.now h).area_high)

pub size-b-requires : goal.size-b-requires
size-b-requires c =
    let h = held c.args.s.now c.requires in
    omega (arith, h.half_pending, (bounds c.args.s.now h).area_high)

pub overflow_add-a : goal.overflow_add-a
overflow_add-a c =
    let h = held c.args.s.now c.requires in
    let high = (bounds c.args.s.now h).area_high in
    omega (arith, c.size-a.ensures, c.size-b.ensures, h.half_committed, h.half_pending, high)

pub at-first-requires : goal.at-first-requires
at-first-requires c =
    let h = held c.args.s.now c.requires in
    omega (arith, c.size-a.ensures, c.size-b.ensures, h.room, c.committed_ring.ensures.area)

pub invariant_of-result : goal.invariant_of-result
invariant_of-result c =
    let h = held c.args.s.now c.requires in
    let ring = c.committed_ring.ensures in
    let high = ring_high c.args.s.now.geometry.area c.args.s.now.first (c.size-a.result + c.size-b.result) h.first_high
    (omega (arith, c.size-a.ensures, c.size-b.ensures, h.room)) in
    record {
      area_high = (bounds c.args.s.now h).area_high;
      first_inside = rw (c.at-first.ensures, ring.area, ring.first) high;
    }
