-- `frames_checkpoint::kind::header_block` meets its contract.
use Rattle.std.proofs.Common.{◌*◌, ◌≤◌, length, arith, length-take}
use Rattle.card.proofs.HeaderLaws.{ranges_length}
use Rattle.card.proofs.RangeLaws.{geometry_tells, ranges_of_front}
use Rattle.card.specs.Ring.{dir_blocks}
use Rattle.frames.proofs.KindLaws.{kind_done, behind_fits, behind_inside, header_write}
use Rattle.record.proofs.Held.{held, bounds}
use Rattle.recovery.specs.Step.{header}
use Rattle.frames_checkpoint.proofs.kind.header_block.Goals as goal

pub overflow_add-end : goal.overflow_add-end
overflow_add-end c =
    omega (arith, (bounds c.args.s.now (held c.args.s.now c.requires.writable.together)).pending_small)

pub overflow_add-end-2 : goal.overflow_add-end-2
overflow_add-end-2 c =
    let b = bounds c.args.s.now (held c.args.s.now c.requires.writable.together) in
    omega (arith, b.pending_taken, b.pending_small)

pub at-last-requires : goal.at-last-requires
at-last-requires c =
    let s = c.args.s.now in
    let r = c.requires in
    let ring = c.pending_ring.ensures in
    let h = held s r.writable.together in
    omega (arith, ring.area, (behind_fits s h r.pending _ ring.first (dir_blocks s.pending.count) (omega arith)).1.1)

pub overflow_add-s : goal.overflow_add-s
overflow_add-s c = omega (arith, (held c.args.s.now c.requires.writable.together).commit_limit c.requires.pending)

pub overflow_mul-g : goal.overflow_mul-g
overflow_mul-g c =
    let s = c.args.s.now in
    let few = (geometry_tells _ _ _ (held s c.requires.writable.together).geometry).few in
    omega (arith, few, ranges_length s.geometry.ranges s.geometry.count)

pub shared_ref_as_front-block : goal.shared_ref_as_front-block
shared_ref_as_front-block c =
    let s = c.args.s.now in
    let few = (geometry_tells _ _ _ (held s c.requires.writable.together).geometry).few in
    omega (arith, few, ranges_length s.geometry.ranges s.geometry.count)

pub block-bytes-requires-clause-trailer : goal.block-bytes-requires-clause-trailer
block-bytes-requires-clause-trailer c =
    let s = c.args.s.now in
    let r = c.requires in
    let ring = c.pending_ring.ensures in
    let h = held s r.writable.together in
    let last = rw ring.area at c.at-last.ensures in
    let high = behind_inside s h r.pending _ ring.first (dir_blocks s.pending.count) (omega arith) _ last in
    omega (arith, high, (bounds s h).area_high)

pub block-bytes-requires-clause-few : goal.block-bytes-requires-clause-few
block-bytes-requires-clause-few c =
    let s = c.args.s.now in
    let g = s.geometry in
    let few = (geometry_tells _ _ _ (held s c.requires.writable.together).geometry).few in
    omega (arith, few, ranges_length g.ranges g.count, length-take (2 * g.count) g.ranges)

pub put-requires : goal.put-requires
put-requires c =
    let s = c.args.s.now in
    omega (arith, (bounds s (held s c.requires.writable.together)).area_inside, c.requires.writable.card_long)

pub returns : goal.returns
returns c =
    let s = c.args.s.now in
    let g = s.geometry in
    let r = c.requires in
    let card = c.args.card.now in
    let ring = c.pending_ring.ensures in
    let h = held s r.writable.together in
    let last = rw ring.area at c.at-last.ensures in
    let write = header_write s h r.none_waits r.pending _ _ ring.first last card in
    let inside : 2 * g.count ≤ length g.ranges = omega (arith, length-take (2 * g.count) g.ranges) in
    let bytes = rw (ranges_of_front g.ranges g.count inside) at c.block-bytes.ensures in
    kind_done header s _ 0 _ card _ write (rw (← bytes) c.put.ensures) c.commit.ensures
