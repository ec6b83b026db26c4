-- `frames_advance::advance::header_due` meets its contract.
use Rattle.std.proofs.Common.{◌≡◌, arith}
use Rattle.frames.proofs.DueLaws.{advance_done, advance_flushed, migration_put, header_put, not_owed}
use Rattle.frames.proofs.DueLaws.{due_migration, due_flush, due_header}
use Rattle.frames.proofs.ReadyLaws.{ready, writable}
use Rattle.frames.specs.Promise.{written}
use Rattle.record.proofs.Held.{held}
use Rattle.recovery.specs.Step.{migration, header}
use Rattle.frames_advance.proofs.advance.header_due.Goals as goal

pub migrate-requires-clause-writable : goal.migrate-requires-clause-writable
migrate-requires-clause-writable c =
    let r = c.requires in
    writable c.args.s.now _ _ (ready c.args.s.now _ _ r.asked) r.calm

pub returns-then-s : goal.returns-then-s
unfolding written
returns-then-s c =
    let s = c.args.s.now in
    let r = c.requires in
    let calm = not_owed s r.calm (held s (ready s _ _ r.asked).together) in
    let due = due_migration s _ calm (λ e. omega arith) r.none_waits r.tail_down c.if-s.true in
    advance_done s _ _ r.asked migration migration_put _ _ _ due (c.migrate.ensures _)

pub flush_all-requires-clause-together : goal.flush_all-requires-clause-together
flush_all-requires-clause-together c = (ready c.args.s.now _ _ c.requires.asked).together

pub returns-then-s-eq0 : goal.returns-then-s-eq0
unfolding written
returns-then-s-eq0 c =
    let s = c.args.s.now in
    let r = c.requires in
    let calm = not_owed s r.calm (held s (ready s _ _ r.asked).together) in
    let due = due_flush s _ calm (λ e. omega arith) r.none_waits r.tail_down c.if-s.false c.if-s-eq0.true in
    advance_flushed s _ _ r.asked _ due c.flush_all.ensures

pub header_block-requires-clause-writable : goal.header_block-requires-clause-writable
header_block-requires-clause-writable c =
    let r = c.requires in
    writable c.args.s.now _ _ (ready c.args.s.now _ _ r.asked) r.calm

pub returns : goal.returns
unfolding written
returns c =
    let s = c.args.s.now in
    let r = c.requires in
    let h = held s (ready s _ _ r.asked).together in
    let calm = not_owed s r.calm h in
    let flushed : s.phase ≡ 1 = omega (arith, h.phase_known) in
    let due = due_header s _ calm (λ e. omega arith) r.none_waits r.tail_down c.if-s.false flushed in
    advance_done s _ _ r.asked header header_put _ _ _ due (c.header_block.ensures _)
