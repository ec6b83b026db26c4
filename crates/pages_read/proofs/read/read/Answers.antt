-- `pages_read::read::read` meets its contract.
use Rattle.std.proofs.Common.{length, eqb, ◌≡◌, refl, sym, ◌∙◌, eqb-true, rules}
use Rattle.std.proofs.lemmas.Result.{err_from_is_err_and}
use Rattle.frames.specs.Promise.{lent}
use Rattle.pages.proofs.CallLaws.{read_refused, read_done}
use Rattle.pages.proofs.NamedLaws.{positive, found_by, page_readable, page_full, page_empty}
use Rattle.pages.proofs.NamedLaws.{named_stops, Keyed, key_stops, key_passes}
use Rattle.pages_read.proofs.read.read.Goals as goal
use Rattle.pages_read.proofs.read.read.Goals.{In_ok-keyed}

-- questions 10 and 11 are passed
keyed : (c : In_ok-keyed)
    → Keyed (lent c.args.s c.args.memory.now c.args.card.now) c.args.oid c.args.count c.in_ok-place.place
    c.in_ok-place.pot.now
    (eqb (length c.args.buffer.now) 512)
keyed c =
    let found = c.in_ok-place.ensures.found in
    key_passes _ _ _ _ (found_by found) _ found.pot_is 10 _ c.in_ok-keyed.ensures refl

long : (c : In_ok-keyed) → length c.args.buffer.now ≡ 512
long c = eqb-true _ 512 (keyed c).own_is

pub returns-in_err-place : goal.returns-in_err-place
returns-in_err-place c =
    let p = err_from_is_err_and c.from_residual.result c.from_residual.ensures.1 in
    rw (p.1, p.2) (read_refused _ _ _ _ (named_stops _ _ _ c.in_err-place.field-0.0 c.in_err-place.ensures.told))

pub returns-in_err-keyed : goal.returns-in_err-keyed
returns-in_err-keyed c =
    let p = err_from_is_err_and c.from_residual-in_err-keyed.result c.from_residual-in_err-keyed.ensures.1 in
    let found = c.in_ok-place.ensures.found in
    let some = positive c.in_err-keyed.field-0.0 in
    rw (p.1, p.2) (read_refused _ _ _ _ (key_stops _ _ _ _ (found_by found) _ found.pot_is 10 _
    c.in_err-keyed.ensures _ some))

pub load-requires-clause-on_card : goal.load-requires-clause-on_card
load-requires-clause-on_card c = (page_readable _ _ _ (found_by c.in_ok-place.ensures.found)).1

pub copy_from_slice-requires : goal.copy_from_slice-requires
copy_from_slice-requires c = long (goal.at.copy_from_slice-requires c).In_ok-keyed ∙ sym (search rules)

pub copy_from_slice-requires-else-is_zero : goal.copy_from_slice-requires-else-is_zero
copy_from_slice-requires-else-is_zero c =
    long (goal.at.copy_from_slice-requires-else-is_zero c).In_ok-keyed ∙ sym (search rules)

pub returns-then-is_zero : goal.returns-then-is_zero
returns-then-is_zero c =
    let k = keyed (goal.at.returns-then-is_zero c).In_ok-keyed in
    let is = page_empty _ _ _ k.pot_is (sym c.is_zero.ensures ∙ c.if-is_zero.true) in
    read_done _ _ _ _ _ _ k (c.copy_from_slice.ensures.after ∙ c.empty.ensures ∙ sym is)

pub returns-else-is_zero : goal.returns-else-is_zero
returns-else-is_zero c =
    let k = keyed (goal.at.returns-else-is_zero c).In_ok-keyed in
    let is = page_full _ _ _ k.pot_is (sym c.is_zero.ensures ∙ c.if-is_zero.false) in
    read_done _ _ _ _ _ _ k (c.copy_from_slice-else-is_zero.ensures.after ∙ c.load.ensures ∙ sym is)
