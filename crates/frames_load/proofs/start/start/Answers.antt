-- `frames_load::start::start` meets its contract.
use Rattle.std.proofs.Common.{◌≢◌, arith}
use Rattle.card.proofs.RefusalLaws.{number_some}
use Rattle.card.specs.Refusal.{number}
use Rattle.frames.proofs.CallLaws.{start_refused, start_done}
use Rattle.frames_load.proofs.start.start.Goals as goal

pub returns-in-Ok : goal.returns-in-Ok
returns-in-Ok c = start_done _ _ _ c.in-Ok.ensures.told c.fill.ensures

pub returns-in-Err : goal.returns-in-Err
returns-in-Err c =
    let some : number c.in-Err.no ≢ 0 = omega (arith, number_some c.in-Err.no) in
    rw c.zeros.ensures (start_refused _ _ _ c.in-Err.ensures.told some)
