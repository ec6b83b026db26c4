-- `frames_checkpoint::kind::migrate` meets its contract.
use Rattle.std.proofs.Common.{arith}
use Rattle.frames.proofs.KindLaws.{kind_done, home_step, home_write, home_inside, home_fits}
use Rattle.record.proofs.Held.{held, bounds}
use Rattle.recovery.specs.Step.{migration}
use Rattle.frames_checkpoint.proofs.kind.migrate.Goals as goal

pub offset_bounds-d-s : goal.offset_bounds-d-s
offset_bounds-d-s c =
    omega (arith, (bounds c.args.s.now (held c.args.s.now c.requires.writable.together)).committed_small)

pub bounds-d-s : goal.bounds-d-s
bounds-d-s c = omega (arith, (bounds c.args.s.now (held c.args.s.now c.requires.writable.together)).committed_small)

pub bounds-d-s-2 : goal.bounds-d-s-2
bounds-d-s-2 c = omega (arith, (bounds c.args.s.now (held c.args.s.now c.requires.writable.together)).committed_small)

pub at-from-requires : goal.at-from-requires
at-from-requires c =
    let s = c.args.s.now in
    let fits = home_fits s (held s c.requires.writable.together) c.requires.left in
    omega (arith, fits.1.1, c.from.ensures, c.committed_ring.ensures.area)

pub copy-requires-clause-from : goal.copy-requires-clause-from
copy-requires-clause-from c =
    let s = c.args.s.now in
    let h = held s c.requires.writable.together in
    let ring = c.committed_ring.ensures in
    let from = rw (ring.area, ring.first, c.from.ensures) at c.at-from.ensures in
    let inside = home_inside s h c.requires.left in
    omega (arith, from, inside.0, (bounds s h).area_inside, c.requires.writable.card_long)

pub copy-requires-clause-to : goal.copy-requires-clause-to
copy-requires-clause-to c =
    let s = c.args.s.now in
    let inside = home_inside s (held s c.requires.writable.together) c.requires.left in
    omega (arith, c.from-home.ensures, inside.1, c.requires.writable.card_long)

pub returns : goal.returns
returns c =
    let s = c.args.s.now in
    let r = c.requires in
    let h = held s r.writable.together in
    let ring = c.committed_ring.ensures in
    let from = rw (ring.area, ring.first, c.from.ensures) at c.at-from.ensures in
    let write = home_write s h r.left _ _ c.from-home.ensures from c.args.card.now in
    kind_done migration s _ _ _ c.args.card.now _ write c.copy.ensures (home_step s h r.left r.writable.calm)
