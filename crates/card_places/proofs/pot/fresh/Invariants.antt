-- `card_places::pot::fresh` meets its contract. The loop has set the flags of the first i entries.
use Rattle.std.proofs.Common.{◌≡◌}
use Rattle.card.specs.Bytes.{patch, zeros}
use Rattle.card.specs.Pot.{fresh_entries}
use Rattle.card_places.proofs.pot.fresh.Given as goal

abbrev pub invariant-loop-i : goal.invariant-loop-i
invariant-loop-i l = l.pot ≡ patch zeros 0 (fresh_entries l.i)
