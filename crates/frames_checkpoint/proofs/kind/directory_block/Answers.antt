-- `frames_checkpoint::kind::directory_block` meets its contract.
use Rattle.std.proofs.Common.{List, length, ◌≤◌, ap, ◌∙◌, arith, length-take}
use Rattle.card.proofs.DirectoryLaws.{entries_of_front, places_front}
use Rattle.card.specs.Directory.{dir_block}
use Rattle.card.specs.declared.directory.Entry.{Entry}
use Rattle.frames.proofs.KindLaws.{kind_done, tail_step, directory_fits, behind_fits, behind_inside, directory_write}
use Rattle.record.proofs.Held.{held, bounds}
use Rattle.recovery.specs.Step.{directory}
use Rattle.frames_checkpoint.proofs.kind.directory_block.Goals as goal

pub shared_ref_as_front-block : goal.shared_ref_as_front-block
shared_ref_as_front-block c = (bounds c.args.s.now (held c.args.s.now c.requires.writable.together)).pending_small

pub shared_ref_as_front-block-2 : goal.shared_ref_as_front-block-2
shared_ref_as_front-block-2 c = (bounds c.args.s.now (held c.args.s.now c.requires.writable.together)).pending_small

pub block-bytes-requires-clause-places : goal.block-bytes-requires-clause-places
block-bytes-requires-clause-places c =
    let s = c.args.s.now in
    let ring = c.pending_ring-ring.ensures in
    let f = directory_fits s (held s c.requires.writable.together) (omega arith) _ ring.first in
    let g = s.pending in
    let long : g.count ≤ length g.places = omega (arith, length-take g.count g.places) in
    rw ring.area (places_front s.geometry.area g.count g.places long f.1.1.1)

pub overflow_add-g : goal.overflow_add-g
overflow_add-g c =
    let b = bounds c.args.s.now (held c.args.s.now c.requires.writable.together) in
    omega (arith, b.pending_taken, b.pending_small)

pub at-to-requires : goal.at-to-requires
at-to-requires c =
    let s = c.args.s.now in
    let ring = c.pending_ring-ring.ensures in
    let h = held s c.requires.writable.together in
    omega (arith, ring.area, (behind_fits s h (omega arith) _ ring.first s.tail (omega arith)).1.1)

pub put-requires : goal.put-requires
put-requires c =
    let s = c.args.s.now in
    let ring = c.pending_ring-ring.ensures in
    let h = held s c.requires.writable.together in
    let to = rw ring.area at c.at-to.ensures in
    let high = behind_inside s h (omega arith) _ ring.first s.tail (omega arith) _ to in
    omega (arith, high, (bounds s h).area_inside, c.requires.writable.card_long)

pub returns : goal.returns
returns c =
    let s = c.args.s.now in
    let g = s.pending in
    let r = c.requires in
    let card = c.args.card.now in
    let ring = c.pending_ring-ring.ensures in
    let h = held s r.writable.together in
    let to = rw ring.area at c.at-to.ensures in
    let write = directory_write s h r.none_waits (omega arith) r.left _ _ ring.first to card in
    let first = c.pending_ring-ring.result.first in
    let long : g.count ≤ length g.frames = omega (arith, length-take g.count g.frames) in
    let front = entries_of_front s.geometry.area first g.frames g.places g.count long in
    let bytes = (rw ring.area at c.block-bytes.ensures) ∙ ap (λ (es : List Entry). dir_block es s.tail) front in
    let step = tail_step s h r.none_waits (omega arith) (omega arith) r.writable.calm in
    kind_done directory s _ _ _ card _ write (rw (← bytes) c.put.ensures) step
