-- `frames_load::load::newest` meets its contract.
use Rattle.std.proofs.Common.{refl}
use Rattle.frames.proofs.LoadLaws.{current_placed, under, place_inside, turn_in, at_place}
use Rattle.frames.proofs.LoadLaws.{filed_rises, filed_found, filed_inside, filed_none}
use Rattle.frames.specs.Parts.{pending_bytes}
use Rattle.record.proofs.Held.{held}
use Rattle.recovery.specs.State.{read_frame}
use Rattle.frames_load.proofs.load.newest.Goals as goal

pub shared_ref_as_front-find : goal.shared_ref_as_front-find
shared_ref_as_front-find c = (current_placed c.args.s.now c.requires.together).few

pub find-requires : goal.find-requires
find-requires c = filed_rises (current_placed c.args.s.now c.requires.together).listed.filed

pub overflow_sub-ahead : goal.overflow_sub-ahead
overflow_sub-ahead c = (held c.args.s.now c.requires.together).pending_down_lem

pub at_place-requires : goal.at_place-requires
at_place-requires c =
    let p = current_placed c.args.s.now c.requires.together in
    let found = filed_found p.listed.filed c.in-Ok.ensures in
    let some = filed_inside p.listed.filed c.in-Ok.ensures in
    record {
      head = p.together.head_low;
      inside = rw c.current_ring.ensures.area (place_inside p found some c.from.ensures);
      few = c.requires.few;
      seated = turn_in p found some c.from.ensures;
    }

pub returns-in-Ok : goal.returns-in-Ok
unfolding read_frame
returns-in-Ok c =
    let s = c.args.s.now in
    let p = current_placed s c.requires.together in
    let found = filed_found p.listed.filed c.in-Ok.ensures in
    let some = filed_inside p.listed.filed c.in-Ok.ensures in
    let ring = c.current_ring.ensures in
    at_place p found some c.from.ensures (λ card memory f. pending_bytes s f card memory)
    (rw (ring.area, ring.first) at c.at_place.ensures)

pub returns-in-Err : goal.returns-in-Err
unfolding read_frame
returns-in-Err c =
    let s = c.args.s.now in
    let p = current_placed s c.requires.together in
    under p (filed_none p.listed.filed c.in-Err.ensures) (λ card memory f. pending_bytes s f card memory) _ refl
    c.in_pending.ensures
