-- `card_blocks::block::at` meets its contract.
use Rattle.std.proofs.Common.{◌∙◌}
use Rattle.card.proofs.BlockLaws.{lent_block}
use Rattle.card_blocks.proofs.block.at.Goals as goal

pub returns : goal.returns
returns c =
    let whole = rw c.unwrap.ensures at c.try_into.ensures in
    whole.1.same ∙ lent_block c.args.card.now c.args.n
