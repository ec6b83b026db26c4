-- `record_hold::hold::committed_listed` meets its contract.
use Rattle.std.proofs.Common.{sym, ◌∙◌, arith}
use Rattle.record.proofs.HoldTests.{none_filed, filed_slices}
use Rattle.record_hold.proofs.hold.committed_listed.Goals as goal

pub returns-then-d-eq0 : goal.returns-then-d-eq0
returns-then-d-eq0 c = sym (none_filed _ _ _ _ _ _ c.if-d-eq0.true)

pub returns : goal.returns
returns c =
    let a = c.args in
    let d = a.d.now in
    c.directory_holds.ensures ∙ filed_slices a.area a.blocks a.p d.frames d.places d.count (omega arith) (omega arith)
