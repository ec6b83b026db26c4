-- `card_checkpoint::header::read_ranges` meets its contract. The loop has read the first k numbers.
use Rattle.std.proofs.Common.{◌+◌, ◌*◌, ◌≡◌, arith}
use Rattle.card.proofs.BytesLaws.{filled_all}
use Rattle.card.specs.Bytes.{get_u32, read_words}
use Rattle.card_checkpoint.proofs.header.read_ranges.Goals as goal

pub returns : goal.returns
unfolding read_words
returns c =
    let l = c.loop-k in
    let e : l.k ≡ 16 = omega arith in
    filled_all (λ k. get_u32 c.args.bytes.now (20 + 4 * k)) 16 l.x-items (omega arith) (rw e at l.invariant)
