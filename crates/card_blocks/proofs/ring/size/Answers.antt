-- `card_blocks::ring::size` meets its contract.
use borrow.Author.Rules.{rules}
use Rattle.card.specs.Ring.{generation_size}
use Rattle.card_blocks.proofs.ring.size.Goals as goal

pub returns-then-e-eq0 : goal.returns-then-e-eq0
unfolding generation_size
returns-then-e-eq0 c = search rules

pub returns : goal.returns
unfolding generation_size
returns c = search rules
