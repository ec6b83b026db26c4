-- `pages_checkpoint::home::reached` meets its contract. The loop leaves the entries from the i-th on to be looked at.
use Rattle.pages.proofs.HomeLaws.{PassedFrom}
use Rattle.pages_checkpoint.proofs.home.reached.Given as goal

abbrev pub invariant-loop-i : goal.invariant-loop-i
invariant-loop-i l = PassedFrom l.s l.card l.i
