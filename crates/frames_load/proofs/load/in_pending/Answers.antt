-- `frames_load::load::in_pending` meets its contract.
use Rattle.std.proofs.Common.{refl}
use Rattle.frames.proofs.LoadLaws.{pending_placed, under, place_inside, turn_in, at_place}
use Rattle.frames.proofs.LoadLaws.{filed_rises, filed_found, filed_inside, filed_none}
use Rattle.frames.specs.Parts.{committed_bytes}
use Rattle.frames_load.proofs.load.in_pending.Goals as goal

pub shared_ref_as_front-find : goal.shared_ref_as_front-find
shared_ref_as_front-find c = (pending_placed c.args.s.now c.requires.together).few

pub find-requires : goal.find-requires
find-requires c = filed_rises (pending_placed c.args.s.now c.requires.together).listed.filed

pub at_place-requires : goal.at_place-requires
at_place-requires c =
    let p = pending_placed c.args.s.now c.requires.together in
    let found = filed_found p.listed.filed c.in-Ok.ensures in
    let some = filed_inside p.listed.filed c.in-Ok.ensures in
    record {
      head = p.together.head_low;
      inside = rw c.pending_ring.ensures.area (place_inside p found some c.from.ensures);
      few = c.requires.few;
      seated = turn_in p found some c.from.ensures;
    }

pub returns-in-Ok : goal.returns-in-Ok
returns-in-Ok c =
    let s = c.args.s.now in
    let p = pending_placed s c.requires.together in
    let found = filed_found p.listed.filed c.in-Ok.ensures in
    let some = filed_inside p.listed.filed c.in-Ok.ensures in
    let ring = c.pending_ring.ensures in
    at_place p found some c.from.ensures (λ card memory f. committed_bytes s f card memory)
    (rw (ring.area, ring.first) at c.at_place.ensures)

pub returns-in-Err : goal.returns-in-Err
returns-in-Err c =
    let s = c.args.s.now in
    let p = pending_placed s c.requires.together in
    under p (filed_none p.listed.filed c.in-Err.ensures) (λ card memory f. committed_bytes s f card memory) _ refl
    c.in_committed.ensures
