-- `lanetables::play::act_all` meets its contract. A step ends behind its beginning, so that the loop ends.
use Rattle.std.proofs.Common.{◌-◌, length}
use Rattle.lanetables.proofs.play.act_all.Given as goal

abbrev pub decreases-loop-at : goal.decreases-loop-at
decreases-loop-at g l = length l.steps - l.at
