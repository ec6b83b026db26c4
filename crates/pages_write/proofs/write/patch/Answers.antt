-- `pages_write::write::patch` meets its contract.
use Rattle.std.proofs.Common.{arith}
use Rattle.card.proofs.BytesLaws.{lent-part}
use Rattle.pages_write.proofs.write.patch.Goals as goal

pub returns : goal.returns
returns c =
    rw c.copy_from_slice.ensures.after (lent-part c.args.bytes.now c.args.new.now c.args.at _ (omega arith)
    (omega arith))
