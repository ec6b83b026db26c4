-- `frames_load::load::committed` meets its contract.
use Rattle.std.proofs.Common.{arith, ◌∙◌}
use Rattle.recovery.specs.State.{committed_frame}
use Rattle.frames_load.proofs.load.committed.Goals as goal

pub overflow_cast-frame : goal.overflow_cast-frame
overflow_cast-frame c = omega (arith, c.requires.inside, c.requires.readable.card_few)

pub committed_block-requires : goal.committed_block-requires
committed_block-requires c =
    let k = c.requires in
    record { store = k.store; parts = k.parts; together = k.readable.together }

pub at-requires : goal.at-requires
at-requires c =
    let k = c.requires in
    let found = c.committed_block.ensures k.store k.parts k.readable.together k.inside in
    omega (arith, found.inside, k.readable.card_long)

pub returns : goal.returns
unfolding committed_frame
returns c = λ s parts readable inside memory.
    c.at.ensures ∙ (c.committed_block.ensures s parts readable.together inside).there c.args.card.now memory
