-- `card_places::range::all_fit` meets its contract.
use borrow.Author.Rules.{rules}
use Rattle.card.proofs.HeaderLaws.{ranges_length}
use Rattle.card.proofs.RangeLaws.{ranges_of_front}
use Rattle.card.specs.Range.{geometry_fits}
use Rattle.card_places.proofs.range.all_fit.Goals as goal

pub returns-then-contains-2 : goal.returns-then-contains-2
unfolding geometry_fits
returns-then-contains-2 c = search (rules, ranges_length, ranges_of_front)

pub returns-else-contains-2 : goal.returns-else-contains-2
unfolding geometry_fits
returns-else-contains-2 c = search (rules, ranges_length)
