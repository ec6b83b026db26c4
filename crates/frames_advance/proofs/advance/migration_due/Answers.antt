-- `frames_advance::advance::migration_due` meets its contract.
use Rattle.frames.proofs.DueLaws.{advance_done, migration_put, not_owed, due_idle}
use Rattle.frames.proofs.ReadyLaws.{ready, writable}
use Rattle.frames.specs.Promise.{written}
use Rattle.record.proofs.Held.{held}
use Rattle.recovery.specs.Step.{migration}
use Rattle.frames_advance.proofs.advance.migration_due.Goals as goal

pub migrate-requires-clause-writable : goal.migrate-requires-clause-writable
migrate-requires-clause-writable c =
    let r = c.requires in
    writable c.args.s.now _ _ (ready c.args.s.now _ _ r.asked) r.calm

pub returns : goal.returns
unfolding written
returns c =
    let s = c.args.s.now in
    let r = c.requires in
    let calm = not_owed s r.calm (held s (ready s _ _ r.asked).together) in
    let due = due_idle s _ calm r.none_pending r.left in
    advance_done s _ _ r.asked migration migration_put _ _ _ due (c.migrate.ensures _)
