-- `pages_checkpoint::format::put_range` meets its contract. The loop has put the first i pots.
use Rattle.std.proofs.Common.{◌≡◌, ◌+◌, ◌*◌}
use Rattle.card.specs.Bytes.{tabulate}
use Rattle.pages.specs.Page.{put_pots}
use Rattle.pages_checkpoint.proofs.format.put_range.Given as goal

abbrev pub invariant-loop-i : goal.invariant-loop-i
invariant-loop-i l = l.card ≡ put_pots l.initial.card (tabulate (λ k. l.start + 103 * k) 0 l.i)
