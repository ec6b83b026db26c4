-- `card_places::range::some_above` meets its contract.
use Prim.Native.Nat.{◌≤◌, ◌<◌}
use borrow.Author.Rules.{rules}
use borrow.Author.Tests.{tests}
use lib.ListN.{get_or}
use mathlib.Core.Path.{refl}
use Rattle.card.proofs.RangeLaws.{above_here, above_later, above_none}
use Rattle.card.specs.Range.{some_above}
use Rattle.card.proofs.PairLaws.{any_pair}
use Rattle.card_places.proofs.range.some_above.Goals as goal

pub returns : goal.returns
returns c =
    let oid = c.args.oid in
    any_pair _ _ (λ l. some_above l oid) _ _ _ c.any.ensures.ran c.chunks_exact.ensures.size c.chunks_exact.ensures.rest
    (above_none oid _ refl)
    (λ x q k rs. let low : oid < get_or x.now 0 0 = search (rules, tests) in above_here oid _ rs _ refl low)
    (λ x q k. (search rules, λ rs. let high : get_or x.now 0 0 ≤ oid = search (rules, tests) in above_later oid _ rs _ refl high))
