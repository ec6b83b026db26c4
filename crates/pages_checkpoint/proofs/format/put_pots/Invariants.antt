-- `pages_checkpoint::format::put_pots` meets its contract. The loop has put the pots of the first i ranges; the next
-- range starts at `at`.
use Rattle.std.proofs.Common.{◌+◌, ◌/◌, length}
use Rattle.pages.proofs.PotsLaws.{PotsLeft}
use Rattle.pages_checkpoint.proofs.format.put_pots.Given as goal

abbrev pub invariant-loop-i : goal.invariant-loop-i
invariant-loop-i l = PotsLeft l.ranges (length l.ranges / 2) (1 + l.area) l.initial.card l.i l.at l.card
