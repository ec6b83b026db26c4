-- `card_blocks::number::get_u32` meets its contract. The sum is the definition's.
use borrow.Author.Rules.{rules}
use Rattle.card.specs.Bytes.{get_u32}
use Rattle.card_blocks.proofs.number.get_u32.Goals as goal

pub returns : goal.returns
unfolding get_u32
returns c = search rules
