-- `card_places::range::find` meets its contract. The loop leaves the ranges of the iterator's rest to be searched.
use Rattle.std.proofs.Common.{◌≡◌, ◌+◌, ◌*◌, ◌/◌, ◌≤◌, length}
use Rattle.std.specs.Slice.Iter.{chunks_exact_rest, chunks_exact_size}
use Rattle.card.specs.Range.{ranges_of, missing, locate_or, locate}
use Rattle.card_places.proofs.range.find.Given as goal

abbrev pub invariant-loop-pair : goal.invariant-loop-pair
invariant-loop-pair l =
    let all = ranges_of l.ranges (length l.ranges / 2) in
    let left = chunks_exact_rest l.pair-iterator in
    record {
      pairs : chunks_exact_size l.pair-iterator ≡ 2;
      near : l.start + 4294967296 * length left ≤ 513 + 4294967296 * length l.ranges;
      rest : locate_or (missing all l.oid) (ranges_of left (length left / 2)) l.start l.oid ≡ locate all (1 + l.area) l.oid;
    }
