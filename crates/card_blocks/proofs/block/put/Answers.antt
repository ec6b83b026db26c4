-- `card_blocks::block::put` meets its contract: what is copied into the lent part is a patch of the card.
use Prim.Native.Nat.{◌*◌}
use native.Mathlib.Omega.{arith}
use Rattle.card.proofs.BytesLaws.{lent-part}
use Rattle.card.specs.Block.{put_block}
use Rattle.card_blocks.proofs.block.put.Goals as goal

pub returns : goal.returns
unfolding put_block
returns c =
    let a = c.args in
    rw c.copy_from_slice.ensures.after (lent-part a.card.now a.bytes.now (512 * a.n) _ (omega arith) (omega arith))
