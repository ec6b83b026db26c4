-- `pages_read::key::key` meets its contract.
use Rattle.std.proofs.lemmas.Result.{err_from_is_err_and}
use Rattle.pages.proofs.CallLaws.{key_refused, key_done}
use Rattle.pages.proofs.NamedLaws.{found_by, named_stops}
use Rattle.pages_read.proofs.key.key.Goals as goal

pub returns-in_err-place : goal.returns-in_err-place
returns-in_err-place c =
    let p = err_from_is_err_and c.from_residual.result c.from_residual.ensures.1 in
    let refusal = c.in_err-place.field-0.0 in
    rw (p.1, p.2) (key_refused _ _ refusal (named_stops _ _ _ refusal c.in_err-place.ensures.told))

pub returns : goal.returns
returns c =
    let found = c.in_ok-place.ensures.found in
    key_done _ _ _ (found_by found) found.pot_is c.count_at.ensures
