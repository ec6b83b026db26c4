-- `frames_advance::advance::advance` meets its contract.
use Rattle.frames.proofs.DueLaws.{advance_flushed, due_owed}
use Rattle.frames.proofs.ReadyLaws.{ready}
use Rattle.frames.specs.Promise.{written, reported}
use Rattle.frames_advance.proofs.advance.advance.Goals as goal

pub flush_owed-requires-clause-together : goal.flush_owed-requires-clause-together
flush_owed-requires-clause-together c = (ready c.args.s.now _ _ c.requires.asked).together

-- none is passed over then
pub returns-then-s-eq2 : goal.returns-then-s-eq2
unfolding reported written
returns-then-s-eq2 c =
    let s = c.args.s.now in
    let t = c.flush_owed.new.s in
    let m = c.args.memory.now in
    let card = c.args.card.now in
    let r = c.requires in
    rw (r.none_over c.if-s-eq2.true)
    (advance_flushed s m card r.asked t (due_owed s m c.if-s-eq2.true) c.flush_owed.ensures)
