-- `frames_advance::advance::commit_due` meets its contract.
use native.Mathlib.Omega.{arith}
use Rattle.frames.proofs.DueLaws.{due_page, advance_done, page_put, not_owed}
use Rattle.frames.proofs.ReadyLaws.{ready}
use Rattle.frames.specs.Promise.{written}
use Rattle.record.proofs.Held.{held}
use Rattle.recovery.specs.Step.{page, kind_write, after_kind}
use Rattle.frames_advance.proofs.advance.commit_due.Goals as goal

pub returns-then-s : goal.returns-then-s
unfolding written kind_write after_kind
returns-then-s c =
    let s = c.args.s.now in
    let r = c.requires in
    let calm = not_owed s r.calm (held s (ready s _ _ r.asked).together) in
    let due = due_page s _ calm (λ e. omega arith) c.if-s.true in
    advance_done s _ _ r.asked page page_put _ _ _ due c.pending.ensures
