-- `pages_checkpoint::format::put_pots` meets its contract. The loop has put the pots of the first i ranges; the next
-- range starts at `at`.
use Rattle.std.proofs.Common.{◌/◌, length, refl, arith}
use Rattle.card.proofs.RangeLaws.{geometry_tells}
use Rattle.pages.proofs.PotsLaws.{left_all, left_fits, left_next, left_none}
use Rattle.pages_checkpoint.proofs.format.put_pots.Goals as goal

pub overflow_add-at : goal.overflow_add-at
overflow_add-at c =
    let t = geometry_tells _ _ _ c.requires.fits in
    omega (arith, t.area_high)

pub loop-i-init : goal.loop-i-init
loop-i-init c =
    let a = c.args in
    left_all a.ranges.now (length a.ranges.now / 2) a.area a.card.now c.requires.whole c.requires.fits

pub put_range-requires : goal.put_range-requires
put_range-requires c =
    let l = c.loop-i in
    let fits = left_fits l.invariant _ refl c.loop-i-test.true in
    omega (arith, fits)

pub loop-i-preserved : goal.loop-i-preserved
loop-i-preserved c =
    let l = c.loop-i in
    let long = c.put_range.auto.card in
    rw c.blocks-at.ensures (left_next l.invariant _ refl c.loop-i-test.true _ long c.put_range.ensures)

pub returns : goal.returns
returns c = left_none c.loop-i.invariant c.loop-i-test.false
