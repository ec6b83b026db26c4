-- `card_places::range::fill` meets its contract. The loop leaves the ranges of the iterator's rest to be asked about.
use lib.ListN.{length, length-append}
use mathlib.Core.Path.{ap, sym, ◌∙◌}
use native.Mathlib.Omega.{arith}
use Rattle.card.proofs.RangeLaws.{pair_next, pair_end, fill_more, fill_stops, fill_end}
use Rattle.card_places.proofs.range.fill.Goals as goal

pub returns-then-not-keeps : goal.returns-then-not-keeps
returns-then-not-keeps c =
    let l = c.loop-pair in
    let pair = c.in-Some.ensures.steps.1 in
    let next = pair_next _ _ _ pair.0 (pair.1 ∙ l.invariant.pairs) in
    let no = sym c.keeps.ensures ∙ c.if-not-keeps.true in
    sym (fill_stops l.low l.at c.args.card _ _ _ next no) ∙ l.invariant.rest

pub loop-pair-preserved : goal.loop-pair-preserved
loop-pair-preserved c =
    let l = c.loop-pair in
    let step = c.in-Some.ensures.steps in
    let next = pair_next _ _ _ step.1.0 (step.1.1 ∙ l.invariant.pairs) in
    let left = simp length-append at (ap length step.1.0) in
    let yes = sym c.keeps.ensures ∙ c.if-not-keeps.false in
    record {
      pairs = step.0 ∙ l.invariant.pairs;
      near = omega (arith, c.blocks-at.ensures, left, step.1.1, l.invariant.pairs);
      rest = rw c.blocks-at.ensures (sym (fill_more l.low l.at c.args.card _ _ _ next yes)) ∙ l.invariant.rest;
    }

pub returns : goal.returns
returns c =
    let l = c.loop-pair in
    let end = pair_end _ (omega (arith, c.in-None.ensures.steps.1.0, l.invariant.pairs)) in
    sym (fill_end l.low l.at c.args.card _ end) ∙ l.invariant.rest
