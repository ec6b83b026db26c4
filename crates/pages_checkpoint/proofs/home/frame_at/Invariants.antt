-- `pages_checkpoint::home::frame_at` meets its contract. The loop leaves the ranges from the i-th on to be searched.
use Rattle.std.proofs.Common.{◌≡◌, ◌+◌, ◌-◌, ◌≤◌}
use Rattle.card.specs.Bytes.{tabulate}
use Rattle.card.specs.Range.{range_in, ranges_of}
use Rattle.pages.specs.Needed.{frame_at}
use Rattle.pages_checkpoint.proofs.home.frame_at.Given as goal

abbrev pub invariant-loop-i : goal.invariant-loop-i
invariant-loop-i l =
    let g = l.g in
    record {
      low : l.start ≤ l.f;
      rest : frame_at (tabulate (range_in g.ranges) l.i (g.count - l.i)) l.start l.f
          ≡ frame_at (ranges_of g.ranges g.count) (1 + g.area) l.f;
    }
