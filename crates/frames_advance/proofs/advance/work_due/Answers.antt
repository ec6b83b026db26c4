-- `frames_advance::advance::work_due` meets its contract.
use Rattle.std.proofs.Common.{◌≡◌, ◌<◌, sym, ◌∙◌, arith}
use Rattle.frames.proofs.DueLaws.{commit_given, idle_given, pass_common, pass_kept, pass_none, not_owed}
use Rattle.frames.proofs.ReadyLaws.{ready}
use Rattle.frames.specs.Promise.{reported}
use Rattle.record.proofs.Held.{held}
use Rattle.record.proofs.SoundLaws.{notes_length}
use Rattle.record.specs.Meaning.{state_of}
use Rattle.frames_advance.proofs.advance.work_due.Goals as goal
use Rattle.frames_advance.proofs.advance.work_due.Goals.{else-s-eq0-via-then-s-eq0+else-passed-s}
use Rattle.frames_advance.proofs.advance.work_due.Goals.{else-s-eq0-via-else-s-eq0}

pub returns-then-passed-s : goal.returns-then-passed-s
unfolding reported
returns-then-passed-s c =
    let s = c.args.s.now in
    let r = c.requires in
    let calm = not_owed s r.calm (held s (ready s _ _ r.asked).together) in
    pass_none s _ _ r.asked c.args.passed calm c.if-s-eq0.true (omega arith)

pub pass-requires-clause-together : goal.pass-requires-clause-together
pass-requires-clause-together c = (ready c.args.s.now _ _ c.requires.asked).together

-- what was asked of the record holds of the one with entries passed over too
pub migration_due-requires-clause-asked : goal.migration_due-requires-clause-asked
migration_due-requires-clause-asked c =
    let p = c.pass.ensures in
    pass_common c.args.s.now _ _ c.requires.asked c.args.passed _ p.passing p.together

pub returns-then-s-eq0-2 : goal.returns-then-s-eq0-2
unfolding reported
returns-then-s-eq0-2 c =
    let s = c.args.s.now in
    let t = c.pass.new.s in
    let r = c.requires in
    let p = c.pass.ensures in
    let calm = not_owed t (rw p.passing r.calm) (held t p.together) in
    let none : s.pending.count ≡ 0 = rw p.passing at c.if-s-eq0-2.true in
    let left : c.args.passed < s.committed.count =
    elim c.else-s-eq0.branch [
      | else-s-eq0-via-then-s-eq0+else-passed-s w ↦ omega arith
      | else-s-eq0-via-else-s-eq0 w ↦ omega arith
    ] in
    let given = idle_given t c.args.memory.now calm c.if-s-eq0-2.true (rw p.passing left) in
    pass_kept s _ _ r.asked c.args.passed _ p.passing p.together given _ _ _ c.migration_due.ensures

pub commit_due-requires-clause-asked : goal.commit_due-requires-clause-asked
commit_due-requires-clause-asked c =
    let p = c.pass.ensures in
    pass_common c.args.s.now _ _ c.requires.asked c.args.passed _ p.passing p.together

pub returns : goal.returns
unfolding reported
returns c =
    let t = c.pass.new.s in
    let p = c.pass.ensures in
    let means = state_of t c.args.memory.now in
    let given = commit_given means (λ e. c.if-s-eq0-2.false (sym (notes_length t.pending) ∙ e)) in
    pass_kept c.args.s.now _ _ c.requires.asked c.args.passed _ p.passing p.together given _ _ _ c.commit_due.ensures
