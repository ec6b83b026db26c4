-- `script::read` meets its contract. The numbers that were given fill the array from its front on.
use Rattle.std.proofs.Common.{◌≡◌, ◌<◌}
use Rattle.script.proofs.read.Given as goal

abbrev pub invariant-loop-given : goal.invariant-loop-given
invariant-loop-given l = (l.count ≡ l.given-index) × (l.fn.at < l.next)
