-- `frames_change::snapshot::snapshot` meets its contract.
use Rattle.std.proofs.Common.{arith, sym}
use Rattle.std.proofs.lemmas.Result.{err_from_is_err_and}
use Rattle.card.proofs.RefusalLaws.{number_some}
use Rattle.frames.proofs.CallLaws.{snapshot_common, snapshot_16, snapshot_17, snapshot_18, snapshot_done}
use Rattle.frames.proofs.ReadyLaws.{ready}
use Rattle.frames_change.proofs.snapshot.snapshot.Goals as goal

pub returns-in_err-common : goal.returns-in_err-common
returns-in_err-common c =
    let p = err_from_is_err_and c.from_residual.result c.from_residual.ensures.1 in
    let some = number_some c.in_err-common.field-0.0 in
    rw (p.1, p.2) (snapshot_common c.args.s.now _ _ _ c.in_err-common.ensures (omega (arith, some)))

pub returns-then-s-ne0 : goal.returns-then-s-ne0
returns-then-s-ne0 c = snapshot_16 c.args.s.now _ _ (sym c.in_ok-common.ensures) c.if-s-ne0.true

pub returns-then-s-eq0 : goal.returns-then-s-eq0
returns-then-s-eq0 c =
    snapshot_17 c.args.s.now _ _ (sym c.in_ok-common.ensures) c.if-s-ne0.false c.if-s-eq0.true

pub returns-then-s : goal.returns-then-s
returns-then-s c =
    snapshot_18 c.args.s.now _ _ (sym c.in_ok-common.ensures) c.if-s-ne0.false c.if-s-eq0.false (omega arith)

pub mark-requires-clause-together : goal.mark-requires-clause-together
mark-requires-clause-together c = (ready c.args.s.now _ _ (sym c.in_ok-common.ensures)).together

pub returns : goal.returns
returns c =
    snapshot_done c.args.s.now _ _ (sym c.in_ok-common.ensures) c.if-s-ne0.false c.if-s-eq0.false _ (omega arith)
    c.mark.ensures
