-- `card_places::pot::set_zero` meets its contract.
use Prim.Native.Nat.{◌/◌}
use lib.Bits.{or_step, or_zero_r}
use native.Mathlib.Omega.{arith}
use Rattle.card.specs.Pot.{set_zero}
use Rattle.card_places.proofs.pot.set_zero.Goals as goal

pub returns : goal.returns
unfolding set_zero
returns c = omega (arith, or_step c.args.flags 1, or_zero_r (c.args.flags / 2))
