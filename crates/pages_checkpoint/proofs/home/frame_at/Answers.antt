-- `pages_checkpoint::home::frame_at` meets its contract. The loop leaves the ranges from the i-th on to be searched.
use Rattle.std.proofs.Common.{◌+◌, List, refl, ap, sym, ◌∙◌, arith}
use Rattle.card.proofs.BytesLaws.{tab_start, tab_end}
use Rattle.card.proofs.RangeLaws.{range_next}
use Rattle.card.specs.Range.{Range, range_in, ranges_of}
use Rattle.pages.proofs.NeededLaws.{list_here, list_later, list_none}
use Rattle.pages.specs.Needed.{frame_at}
use Rattle.pages_checkpoint.proofs.home.frame_at.Goals as goal

pub loop-i-init : goal.loop-i-init
unfolding ranges_of
loop-i-init c =
    let g = c.args.g.now in
    let start = tab_start (range_in g.ranges) g.count in
    record {
      low = omega arith;
      rest = ap (λ (l : List Range). frame_at l (1 + g.area) c.args.f) start;
    }

pub returns-then-f-next : goal.returns-then-f-next
returns-then-f-next c =
    let g = c.args.g.now in
    let f = c.args.f in
    let l = c.loop-i in
    let next = range_next g.ranges l.i g.count _ _ (omega arith) refl refl in
    let here = list_here l.start f _ _ _ next (omega (arith, c.blocks-in-loop-i.ensures)) in
    c.frame_in.ensures ∙ sym here ∙ l.invariant.rest

pub loop-i-preserved : goal.loop-i-preserved
loop-i-preserved c =
    let g = c.args.g.now in
    let f = c.args.f in
    let l = c.loop-i in
    let next = range_next g.ranges l.i g.count _ _ (omega arith) refl refl in
    let later = list_later l.start f _ _ _ next (omega (arith, c.blocks-in-loop-i.ensures)) in
    record {
      low = c.if-f-next.false;
      rest = rw c.blocks-in-loop-i.ensures (sym later) ∙ l.invariant.rest;
    }

pub returns : goal.returns
returns c =
    let g = c.args.g.now in
    let l = c.loop-i in
    let end = tab_end (range_in g.ranges) l.i g.count (omega arith) in
    sym (list_none l.start c.args.f _ end) ∙ l.invariant.rest
