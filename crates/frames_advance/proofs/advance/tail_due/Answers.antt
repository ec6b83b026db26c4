-- `frames_advance::advance::tail_due` meets its contract.
use native.Mathlib.Omega.{arith}
use Rattle.frames.proofs.DueLaws.{advance_done, directory_put, trailer_put, not_owed, due_directory, due_trailer}
use Rattle.frames.proofs.ReadyLaws.{ready, writable}
use Rattle.frames.specs.Promise.{written}
use Rattle.record.proofs.Held.{held, bounds}
use Rattle.recovery.specs.Step.{directory, trailer}
use Rattle.frames_advance.proofs.advance.tail_due.Goals as goal

pub overflow_add-blocks : goal.overflow_add-blocks
overflow_add-blocks c =
    let s = c.args.s.now in
    omega (arith, (bounds s (held s (ready s _ _ c.requires.asked).together)).pending_small)

pub directory_block-requires-clause-writable : goal.directory_block-requires-clause-writable
directory_block-requires-clause-writable c =
    let r = c.requires in
    writable c.args.s.now _ _ (ready c.args.s.now _ _ r.asked) r.calm

pub returns-then-s-blocks : goal.returns-then-s-blocks
unfolding written
returns-then-s-blocks c =
    let s = c.args.s.now in
    let r = c.requires in
    let calm = not_owed s r.calm (held s (ready s _ _ r.asked).together) in
    let due = due_directory s _ calm (λ e. omega arith) r.none_waits c.if-s-blocks.true in
    advance_done s _ _ r.asked directory directory_put _ _ _ due (c.directory_block.ensures _)

pub trailer_block-requires-clause-writable : goal.trailer_block-requires-clause-writable
trailer_block-requires-clause-writable c =
    let r = c.requires in
    writable c.args.s.now _ _ (ready c.args.s.now _ _ r.asked) r.calm

pub returns-then-s-blocks-2 : goal.returns-then-s-blocks-2
unfolding written
returns-then-s-blocks-2 c =
    let s = c.args.s.now in
    let r = c.requires in
    let calm = not_owed s r.calm (held s (ready s _ _ r.asked).together) in
    let due = due_trailer s _ calm (λ e. omega arith) r.none_waits c.if-s-blocks-2.true in
    advance_done s _ _ r.asked trailer trailer_put _ _ _ due (c.trailer_block.ensures _)
