-- `card_places::pot::clear_zero` meets its contract.
use Prim.Native.Nat.{◌/◌}
use lib.Bits.{and_mask, and_step}
use native.Mathlib.Omega.{arith}
use Rattle.card.specs.Pot.{clear_zero}
use Rattle.card_places.proofs.pot.clear_zero.Goals as goal

pub returns : goal.returns
unfolding clear_zero
returns c = omega (arith, and_step c.args.flags 254, and_mask (c.args.flags / 2) 7)
