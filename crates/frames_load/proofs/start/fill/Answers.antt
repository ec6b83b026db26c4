-- `frames_load::start::fill` meets its contract.
use mathlib.Core.Path.{refl}
use Rattle.frames.proofs.StartLaws.{started}
use Rattle.record.proofs.NoneLaws.{none_is}
use Rattle.record.specs.Meaning.{zero_store}
use Rattle.frames_load.proofs.start.fill.Goals as goal

pub returns : goal.returns
unfolding zero_store
returns c =
    let a = c.args in
    rw c.requires.zeros (started a.memory.now a.card.now a.c.now c.requires.startable _ _ (none_is _ refl) (none_is _ refl))
