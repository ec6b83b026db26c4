-- `pages_checkpoint::advance::step` meets its contract.
use Rattle.std.proofs.Common.{sym}
use Rattle.std.proofs.lemmas.Result.{err_from_is_err_and}
use Rattle.frames.proofs.ReadyLaws.{ready, readable}
use Rattle.frames.specs.Promise.{lent, reported}
use Rattle.pages.proofs.CallLaws.{advance_refused, advance_kept_by}
use Rattle.pages.proofs.HomeLaws.{passed_due, passed_low, passed_few}
use Rattle.pages_checkpoint.proofs.advance.step.Goals as goal

pub returns-in_err-common : goal.returns-in_err-common
unfolding reported
returns-in_err-common c =
    let a = c.args in
    let p = err_from_is_err_and c.from_residual.result c.from_residual.ensures.1 in
    rw (p.1, p.2) (advance_refused (lent a.s.now a.memory.now a.card.now) _ c.in_err-common.ensures)

pub passed-passed-requires : goal.passed-passed-requires
passed-passed-requires c = readable _ _ _ (ready _ _ _ (sym c.in_ok-common.ensures))

pub advance-requires-clause-forward : goal.advance-requires-clause-forward
advance-requires-clause-forward c =
    let a = c.args in
    passed_low a.s.now a.card.now _ a.memory.now c.passed-passed.ensures

pub advance-requires-clause-inside : goal.advance-requires-clause-inside
advance-requires-clause-inside c =
    let a = c.args in
    let r = ready a.s.now _ _ (sym c.in_ok-common.ensures) in
    passed_few a.s.now a.card.now _ a.memory.now r.together c.passed-passed.ensures

pub advance-requires-clause-none_over : goal.advance-requires-clause-none_over
advance-requires-clause-none_over c =
    let a = c.args in
    λ owed. passed_due a.s.now a.card.now _ a.memory.now owed c.passed-passed.ensures

pub returns : goal.returns
returns c =
    let a = c.args in
    let passed = c.passed-passed.ensures a.memory.now in
    advance_kept_by (lent a.s.now a.memory.now a.card.now) _ _ _ passed c.advance.ensures
