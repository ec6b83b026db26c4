-- `pages_write::rescind::empty` meets its contract.
use Rattle.std.proofs.Common.{ltb, refl, arith}
use Rattle.std.proofs.lemmas.Result.{err_from_is_err_and}
use Rattle.frames.specs.Promise.{lent}
use Rattle.pages.proofs.CallLaws.{rescind_refused, rescind_few, rescind_done}
use Rattle.pages.proofs.NamedLaws.{positive, found_by, small, pot_changing, named_stops, Keyed, key_stops, key_passes}
use Rattle.pages_write.proofs.rescind.empty.Goals as goal
use Rattle.pages_write.proofs.rescind.empty.Goals.{In_ok-keyed}

-- questions 10 and 15 are passed
keyed : (c : In_ok-keyed)
    → Keyed (lent c.args.s.now c.args.memory.now c.args.card.now) c.args.oid c.args.count c.in_ok-place.place
    c.in_ok-place.pot.now
    (ltb c.args.count 4294967295)
keyed c =
    let found = c.in_ok-place.ensures.found in
    key_passes _ _ _ _ (found_by found) _ found.pot_is 14 _ c.in_ok-keyed.ensures refl

pub returns-in_err-place : goal.returns-in_err-place
returns-in_err-place c =
    let p = err_from_is_err_and c.from_residual.result c.from_residual.ensures.1 in
    rw (p.1, p.2) (rescind_refused _ _ _ _ (named_stops _ _ _ c.in_err-place.field-0.0 c.in_err-place.ensures.told))

pub returns-in_err-keyed : goal.returns-in_err-keyed
returns-in_err-keyed c =
    let p = err_from_is_err_and c.from_residual-in_err-keyed.result c.from_residual-in_err-keyed.ensures.1 in
    let found = c.in_ok-place.ensures.found in
    let some = positive c.in_err-keyed.field-0.0 in
    rw (p.1, p.2) (rescind_refused _ _ _ _ (key_stops _ _ _ _ (found_by found) _ found.pot_is 14 _
    c.in_err-keyed.ensures _ some))

pub raise-requires-clause-few : goal.raise-requires-clause-few
raise-requires-clause-few c = rescind_few _ _ _ _ _ (keyed (goal.at.raise-requires-clause-few c).In_ok-keyed)

pub overflow_cast-place : goal.overflow_cast-place
overflow_cast-place c = omega (arith, (small _ _ _ (found_by c.in_ok-place.ensures.found)).1)

pub change-requires : goal.change-requires
change-requires c = pot_changing _ _ _ (found_by c.in_ok-place.ensures.found) refl _ c.raise.array_long

pub returns : goal.returns
returns c =
    rescind_done _ _ _ _ _ (keyed (goal.at.returns c).In_ok-keyed) refl _ c.raise.array_long c.raise.ensures _
    c.change.ensures.kept
