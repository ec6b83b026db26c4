-- `frames_advance::page_out::page_out` meets its contract.
use Rattle.std.proofs.Common.{◌≢◌, sym, arith}
use Rattle.std.proofs.lemmas.Result.{err_from_is_err_and}
use Rattle.card.proofs.RefusalLaws.{number_some}
use Rattle.card.specs.Refusal.{number}
use Rattle.frames.proofs.CallLaws.{page_out_common, page_out_owed}
use Rattle.frames.specs.Promise.{reported}
use Rattle.frames_advance.proofs.page_out.page_out.Goals as goal

pub returns-in_err-common : goal.returns-in_err-common
unfolding reported
returns-in_err-common c =
    let refusal = c.in_err-common.field-0.0 in
    let some : number refusal ≢ 0 = omega (arith, number_some refusal) in
    let p = err_from_is_err_and c.from_residual.result c.from_residual.ensures.1 in
    rw (p.1, p.2) (page_out_common c.args.s.now _ _ (number refusal) c.in_err-common.ensures some)

pub returns-then-s-eq2 : goal.returns-then-s-eq2
unfolding reported
returns-then-s-eq2 c = page_out_owed c.args.s.now _ _ (sym c.in_ok-common.ensures) c.if-s-eq2.true
