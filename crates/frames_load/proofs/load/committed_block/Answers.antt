-- `frames_load::load::committed_block` meets its contract.
use Rattle.std.proofs.Common.{refl}
use Rattle.frames.proofs.LoadLaws.{filed_rises, filed_found, filed_inside, filed_none}
use Rattle.frames.proofs.LoadLaws.{parts_small, parts_filed, parts_home, parts_fit, parts_entry}
use Rattle.frames_load.proofs.load.committed_block.Goals as goal

pub shared_ref_as_front-find : goal.shared_ref_as_front-find
shared_ref_as_front-find c = parts_small c.requires

pub find-requires : goal.find-requires
find-requires c = filed_rises (parts_filed c.requires)

pub at-requires : goal.at-requires
at-requires c =
    let d = parts_filed c.requires in
    (parts_fit (filed_found d c.in-Ok.ensures) c.requires (filed_inside d c.in-Ok.ensures) c.from.ensures).1.1

pub returns-in-Ok : goal.returns-in-Ok
returns-in-Ok c =
    let d = parts_filed c.requires in
    parts_entry (filed_found d c.in-Ok.ensures) _ (filed_inside d c.in-Ok.ensures)
    (rw (c.at.ensures, c.from.ensures) refl)

pub returns-in-Err : goal.returns-in-Err
returns-in-Err c = parts_home (filed_none (parts_filed c.requires) c.in-Err.ensures) _ refl c.from-in-Err.ensures
