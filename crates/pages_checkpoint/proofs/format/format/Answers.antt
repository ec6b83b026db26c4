-- `pages_checkpoint::format::format` meets its contract. Each refusal, and the card that is formatted, is a law of
-- FormatLaws.
use Rattle.std.proofs.Common.{sym, ◌∙◌, arith}
use Rattle.card.proofs.CheckpointLaws.{whole_tells}
use Rattle.card.proofs.HeaderLaws.{ranges_length}
use Rattle.card.proofs.RangeLaws.{geometry_tells}
use Rattle.pages.proofs.FormatLaws.{refuses_3, refuses_odd, refuses_unfit, formats}
use Rattle.pages_checkpoint.proofs.format.format.Goals as goal
use Rattle.pages_checkpoint.proofs.format.format.Goals.{then-ranges-ne0-via-then-ranges-ne0}
use Rattle.pages_checkpoint.proofs.format.format.Goals.{then-ranges-ne0-via-else-ranges-ne0+then-not-all_fit}

pub returns-then-not-is_whole : goal.returns-then-not-is_whole
returns-then-not-is_whole c =
    refuses_3 c.args.area c.args.ranges.now c.args.card.now (sym c.is_whole.ensures ∙ c.if-not-is_whole.true)

pub returns-then-ranges-ne0 : goal.returns-then-ranges-ne0
returns-then-ranges-ne0 c =
    let a = c.args in
    let whole = sym c.is_whole.ensures ∙ c.if-not-is_whole.false in
    elim c.then-ranges-ne0.branch [
      | then-ranges-ne0-via-then-ranges-ne0 w ↦
          refuses_odd a.area a.ranges.now a.card.now whole w.if-ranges-ne0.true
      | then-ranges-ne0-via-else-ranges-ne0+then-not-all_fit w ↦
          refuses_unfit a.area a.ranges.now a.card.now whole (sym w.all_fit.ensures ∙ w.if-not-all_fit.true)
    ]

pub block-requires-clause-area : goal.block-requires-clause-area
block-requires-clause-area c =
    let t = geometry_tells _ _ _ (sym c.all_fit.ensures ∙ c.if-not-all_fit.false) in
    omega (arith, t.area_high)

pub block-requires-clause-few : goal.block-requires-clause-few
block-requires-clause-few c =
    let t = geometry_tells _ _ _ (sym c.all_fit.ensures ∙ c.if-not-all_fit.false) in
    omega (arith, t.few, ranges_length)

pub put-requires : goal.put-requires
put-requires c =
    let t = whole_tells _ _ _ (sym c.is_whole.ensures ∙ c.if-not-is_whole.false) in
    omega (arith, t)

pub returns : goal.returns
returns c =
    let a = c.args in
    let whole = sym c.is_whole.ensures ∙ c.if-not-is_whole.false in
    let fits = sym c.all_fit.ensures ∙ c.if-not-all_fit.false in
    formats a.area a.ranges.now a.card.now whole c.if-ranges-ne0.false fits _ _ _ c.put_pots.ensures c.block.ensures
    c.put.ensures
