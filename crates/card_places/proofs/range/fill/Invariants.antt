-- `card_places::range::fill` meets its contract. The loop leaves the ranges of the iterator's rest to be asked about.
use Rattle.std.proofs.Common.{◌≡◌, ◌+◌, ◌*◌, ◌/◌, ◌≤◌, length}
use Rattle.std.specs.Slice.Iter.{chunks_exact_rest, chunks_exact_size}
use Rattle.card.specs.Range.{ranges_of, ranges_fill}
use Rattle.card_places.proofs.range.fill.Given as goal

abbrev pub invariant-loop-pair : goal.invariant-loop-pair
invariant-loop-pair l =
    let left = chunks_exact_rest l.pair-iterator in
    record {
      pairs : chunks_exact_size l.pair-iterator ≡ 2;
      near : l.at + 4294967296 * length left ≤ 513 + 4294967296 * length l.ranges;
      rest : ranges_fill l.low l.at l.card (ranges_of left (length left / 2)) ≡ ranges_fill 0 l.start l.card (ranges_of l.ranges (length l.ranges / 2));
    }
