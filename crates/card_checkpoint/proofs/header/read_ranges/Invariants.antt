-- `card_checkpoint::header::read_ranges` meets its contract. The loop has read the first k numbers.
use Rattle.std.proofs.Common.{◌+◌, ◌*◌}
use Rattle.card.proofs.BytesLaws.{Filled}
use Rattle.card.specs.Bytes.{get_u32}
use Rattle.card_checkpoint.proofs.header.read_ranges.Given as goal

abbrev pub invariant-loop-k : goal.invariant-loop-k
invariant-loop-k l = Filled (λ k. get_u32 l.bytes (20 + 4 * k)) l.k l.x-items
