-- `record_hold::hold::size` meets its contract.
use mathlib.Core.Path.{sym}
use native.Mathlib.Omega.{arith}
use Rattle.card.proofs.RingLaws.{size_some, size_none}
use Rattle.record_hold.proofs.hold.size.Goals as goal

pub returns-then-e-eq0 : goal.returns-then-e-eq0
returns-then-e-eq0 c = sym (size_none _ _ c.if-e-eq0.true)

pub size-requires : goal.size-requires
size-requires c = omega (arith, size_some c.args.p c.args.e (omega arith))
