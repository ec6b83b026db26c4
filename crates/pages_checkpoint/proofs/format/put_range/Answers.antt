-- `pages_checkpoint::format::put_range` meets its contract. The loop has put the first i pots.
use Rattle.std.proofs.Common.{refl, ◌∙◌}
use Rattle.card.specs.Bytes.{tabulate}
use Rattle.pages.proofs.PotsLaws.{pots_more}
use Rattle.pages.specs.Page.{put_pots}
use Rattle.pages_checkpoint.proofs.format.put_range.Goals as goal

pub loop-i-init : goal.loop-i-init
unfolding put_pots tabulate
loop-i-init c = refl

pub loop-i-preserved : goal.loop-i-preserved
loop-i-preserved c =
    let l = c.loop-i in
    c.put.ensures ∙ pots_more c.args.card.now _ _ c.args.start l.i c.fresh-pot.ensures l.invariant
