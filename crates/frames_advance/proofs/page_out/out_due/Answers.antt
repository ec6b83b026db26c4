-- `frames_advance::page_out::out_due` meets its contract.
use Rattle.frames.proofs.CallLaws.{page_out_none, page_out_pending, page_out_current}
use Rattle.frames.proofs.DueLaws.{not_owed}
use Rattle.frames.proofs.ReadyLaws.{ready}
use Rattle.frames.specs.Promise.{written, reported}
use Rattle.record.proofs.Held.{held}
use Rattle.frames_advance.proofs.page_out.out_due.Goals as goal

pub returns-then-s : goal.returns-then-s
unfolding reported written
returns-then-s c =
    let s = c.args.s.now in
    let r = c.requires in
    let calm = not_owed s r.calm (held s (ready s _ _ r.asked).together) in
    page_out_pending s _ _ r.asked calm _ _ _ c.if-s.true c.pending.ensures

pub returns-then-s-2 : goal.returns-then-s-2
unfolding reported
returns-then-s-2 c =
    let s = c.args.s.now in
    let r = c.requires in
    let calm = not_owed s r.calm (held s (ready s _ _ r.asked).together) in
    page_out_none s _ _ r.asked calm c.if-s.false c.if-s-2.true

pub returns : goal.returns
unfolding reported written
returns c =
    let s = c.args.s.now in
    let r = c.requires in
    let calm = not_owed s r.calm (held s (ready s _ _ r.asked).together) in
    page_out_current s _ _ r.asked calm _ _ _ c.if-s.false c.if-s-2.false c.current.ensures
