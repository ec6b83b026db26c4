-- `pages_checkpoint::forecast::forecast` meets its contract.
use Rattle.std.proofs.Common.{sym}
use Rattle.std.proofs.lemmas.Result.{err_from_is_err_and}
use Rattle.frames.proofs.ReadyLaws.{ready, readable}
use Rattle.pages.proofs.CallLaws.{forecast_refused, forecast-done}
use Rattle.pages_checkpoint.proofs.forecast.forecast.Goals as goal

pub returns-in_err-common : goal.returns-in_err-common
returns-in_err-common c =
    let p = err_from_is_err_and c.from_residual.result c.from_residual.ensures.1 in
    rw (p.1, p.2) (forecast_refused _ _ c.in_err-common.ensures)

pub moves-requires : goal.moves-requires
moves-requires c = readable _ _ _ (ready _ _ _ (sym c.in_ok-common.ensures))

pub forecast-requires-clause-together : goal.forecast-requires-clause-together
forecast-requires-clause-together c = (ready _ _ _ (sym c.in_ok-common.ensures)).together

pub returns : goal.returns
returns c =
    forecast-done _ _ (sym c.in_ok-common.ensures) _ (c.moves.ensures.moves _) c.forecast.ensures
