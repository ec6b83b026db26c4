-- `frames_load::load::load` meets its contract.
use Rattle.std.proofs.Common.{arith}
use Rattle.frames.proofs.ReadyLaws.{ready}
use Rattle.frames_load.proofs.load.load.Goals as goal

pub overflow_cast-frame : goal.overflow_cast-frame
overflow_cast-frame c = omega (arith, (ready c.args.s.now _ _ c.requires.asked).blocks_high)

pub newest-requires : goal.newest-requires
newest-requires c =
    let r = ready c.args.s.now _ _ c.requires.asked in
    record { together = r.together; on_card = c.requires.on_card; few = r.frames_high }

pub at-requires : goal.at-requires
at-requires c =
    let inside = c.in-Memory.ensures.inside in
    omega (arith, inside, (ready c.args.s.now _ _ c.requires.asked).memory_is)

pub at-requires-in-Card : goal.at-requires-in-Card
at-requires-in-Card c =
    let inside = c.in-Card.ensures.inside in
    omega (arith, inside, (ready c.args.s.now _ _ c.requires.asked).card_is)
