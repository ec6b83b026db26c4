-- `frames_advance::page_out::pending` meets its contract.
use native.Mathlib.Omega.{arith}
use Rattle.frames.proofs.OutLaws.{pending_done}
use Rattle.frames.proofs.ReadyLaws.{ready, firsts, pending_short, area_block}
use Rattle.record.proofs.Held.{held, bounds}
use Rattle.frames_advance.proofs.page_out.pending.Goals as goal

pub pending_ring-requires : goal.pending_ring-requires
pending_ring-requires c = (ready c.args.s.now _ _ c.requires.asked).together

pub at-to-requires : goal.at-to-requires
at-to-requires c =
    let s = c.args.s.now in
    let short = pending_short s (held s (ready s _ _ c.requires.asked).together) in
    omega (arith, short, c.pending_ring.ensures.area)

pub at-requires : goal.at-requires
at-requires c =
    let r = ready c.args.s.now _ _ c.requires.asked in
    omega (arith, r.memory_is, (held c.args.s.now r.together).head_low)

pub put-requires : goal.put-requires
put-requires c =
    let s = c.args.s.now in
    let ring = c.pending_ring.ensures in
    let r = ready s _ _ c.requires.asked in
    let h = held s r.together in
    let to = rw ring.area at c.at-to.ensures in
    area_block s _ _ r _ _ _ (omega (arith, ring.first, (firsts s h).pending_in)) (omega (arith, pending_short s h)) to

pub seat-s-requires : goal.seat-s-requires
seat-s-requires c =
    let r = ready c.args.s.now _ _ c.requires.asked in
    record {
      head = (held c.args.s.now r.together).head_low;
      inside = omega (arith, r.frames_low);
      few = r.frames_high;
    }

pub overflow_add-s : goal.overflow_add-s
overflow_add-s c =
    let s = c.args.s.now in
    omega (arith, (bounds s (held s (ready s _ _ c.requires.asked).together)).pending_taken)

pub returns : goal.returns
returns c =
    let s = c.args.s.now in
    let r = c.requires in
    let ring = c.pending_ring.ensures in
    let to = rw ring.area at c.at-to.ensures in
    let ready = ready s _ _ r.asked in
    pending_done s _ _ ready _ c.seat-s.ensures _ _ _ _ r.waits ring.first to c.put.ensures c.at.ensures
