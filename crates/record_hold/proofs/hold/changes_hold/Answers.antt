-- `record_hold::hold::changes_hold` meets its contract.
use Rattle.std.proofs.Common.{sym, ◌∙◌, arith}
use Rattle.record.proofs.HoldTests.{none_hold, changes_slices}
use Rattle.record_hold.proofs.hold.changes_hold.Goals as goal

pub returns-then-g-eq0 : goal.returns-then-g-eq0
returns-then-g-eq0 c = sym (none_hold c.args.area c.args.blocks c.args.g.now c.if-g-eq0.true)

pub returns-then-directory_holds : goal.returns-then-directory_holds
returns-then-directory_holds c =
    let a = c.args in
    let holds = sym c.directory_holds.ensures ∙ c.if-directory_holds.true in
    c.all_stand.ensures ∙ rw holds at (changes_slices a.area a.blocks a.g.now (omega arith) (omega arith))

pub returns-else-directory_holds : goal.returns-else-directory_holds
returns-else-directory_holds c =
    let a = c.args in
    let fails = sym c.directory_holds.ensures ∙ c.if-directory_holds.false in
    c.if-directory_holds.false ∙ rw fails at (changes_slices a.area a.blocks a.g.now (omega arith) (omega arith))
