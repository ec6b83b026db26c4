-- `frames_checkpoint::kind::trailer_block` meets its contract.
use native.Mathlib.Omega.{arith}
use Rattle.frames.proofs.KindLaws.{kind_done, tail_step, behind_fits, behind_inside, trailer_write}
use Rattle.record.proofs.Held.{held, bounds}
use Rattle.recovery.specs.Step.{trailer, after_kind}
use Rattle.frames_checkpoint.proofs.kind.trailer_block.Goals as goal

pub overflow_add-t : goal.overflow_add-t
overflow_add-t c = omega (arith, (held c.args.s.now c.requires.writable.together).commit_limit c.requires.pending)

pub overflow_add-s : goal.overflow_add-s
overflow_add-s c =
    let b = bounds c.args.s.now (held c.args.s.now c.requires.writable.together) in
    omega (arith, b.pending_taken, b.pending_small)

pub at-to-requires : goal.at-to-requires
at-to-requires c =
    let s = c.args.s.now in
    let r = c.requires in
    let ring = c.pending_ring-ring.ensures in
    let h = held s r.writable.together in
    omega (arith, ring.area, (behind_fits s h r.pending _ ring.first s.tail (omega arith)).1.1)

pub block-requires-clause-pages : goal.block-requires-clause-pages
block-requires-clause-pages c =
    omega (arith, (bounds c.args.s.now (held c.args.s.now c.requires.writable.together)).pending_taken)

pub block-requires-clause-entries : goal.block-requires-clause-entries
block-requires-clause-entries c =
    omega (arith, (bounds c.args.s.now (held c.args.s.now c.requires.writable.together)).pending_small)

pub put-requires : goal.put-requires
put-requires c =
    let s = c.args.s.now in
    let r = c.requires in
    let ring = c.pending_ring-ring.ensures in
    let h = held s r.writable.together in
    let to = rw ring.area at c.at-to.ensures in
    let high = behind_inside s h r.pending _ ring.first s.tail (omega arith) _ to in
    omega (arith, high, (bounds s h).area_inside, r.writable.card_long)

pub returns : goal.returns
unfolding after_kind
returns c =
    let s = c.args.s.now in
    let r = c.requires in
    let card = c.args.card.now in
    let ring = c.pending_ring-ring.ensures in
    let h = held s r.writable.together in
    let to = rw ring.area at c.at-to.ensures in
    let write = trailer_write s h r.none_waits r.pending r.last _ _ ring.first to card in
    let step = tail_step s h r.none_waits r.pending (omega arith) r.writable.calm in
    kind_done trailer s _ _ _ card _ write (rw (← c.block.ensures) c.put.ensures) step
