-- `card_places::pot::is_zero` meets its contract.
use Prim.Native.Nat.{ℕ}
use lib.Bits.{and_mask}
use lib.Dec.{eqb}
use mathlib.Core.Path.{ap}
use Rattle.card.specs.Pot.{is_zero}
use Rattle.card_places.proofs.pot.is_zero.Goals as goal

pub returns : goal.returns
unfolding is_zero
returns c = ap (λ (n : ℕ). eqb n 1) (and_mask c.args.flags 1)
