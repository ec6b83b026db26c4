-- `card_places::range::find` meets its contract. The loop leaves the ranges of the iterator's rest to be searched.
use borrow.Author.Rules.{rules}
use lib.ListN.{length, length-append}
use mathlib.Core.Path.{ap, sym, ◌∙◌}
use native.Mathlib.Omega.{arith}
use Rattle.card.proofs.RangeLaws.{pair_next, pair_end, locate_here, locate_later, locate_none}
use Rattle.card.specs.Range.{place_or, Located, locate}
use Rattle.card.specs.declared.range.Address.{Address}
use Rattle.card_places.proofs.range.find.Goals as goal

pub loop-pair-init : goal.loop-pair-init
unfolding locate
loop-pair-init c = search rules

pub returns-then-holds : goal.returns-then-holds
returns-then-holds c =
    let l = c.loop-pair in
    let pair = c.in-Some.ensures.steps.1 in
    let next = pair_next _ _ _ pair.0 (pair.1 ∙ l.invariant.pairs) in
    let yes = sym c.holds.ensures ∙ c.if-holds.true in
    ap (λ (p : Address). place_or (Located p)) c.address_in.ensures
    ∙ ap place_or (sym (locate_here _ l.start c.args.oid _ _ _ next yes) ∙ l.invariant.rest)

pub loop-pair-preserved : goal.loop-pair-preserved
loop-pair-preserved c =
    let l = c.loop-pair in
    let step = c.in-Some.ensures.steps in
    let next = pair_next _ _ _ step.1.0 (step.1.1 ∙ l.invariant.pairs) in
    let left = simp length-append at (ap length step.1.0) in
    let no = sym c.holds.ensures ∙ c.if-holds.false in
    record {
      pairs = step.0 ∙ l.invariant.pairs;
      near = omega (arith, c.blocks-start.ensures, left, step.1.1, l.invariant.pairs);
      rest = rw c.blocks-start.ensures (sym (locate_later _ l.start c.args.oid _ _ _ next no)) ∙ l.invariant.rest;
    }

pub returns : goal.returns
returns c =
    let l = c.loop-pair in
    let end = pair_end _ (omega (arith, c.in-None.ensures.steps.1.0, l.invariant.pairs)) in
    c.missing.ensures ∙ ap place_or (sym (locate_none _ l.start c.args.oid _ end) ∙ l.invariant.rest)
