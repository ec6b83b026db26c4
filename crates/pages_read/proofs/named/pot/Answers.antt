-- `pages_read::named::pot` meets its contract.
use Rattle.std.proofs.Common.{sym, ◌∙◌}
use Rattle.std.proofs.lemmas.Result.{err_from_is_err_and}
use Rattle.frames.proofs.ReadyLaws.{common_passed, common_refused}
use Rattle.frames.specs.Promise.{lent}
use Rattle.pages.proofs.NamedLaws.{positive, searchable, pot_readable}
use Rattle.pages_read.proofs.named.pot.Goals as goal

pub returns-in_err-common-clause-told : goal.returns-in_err-common-clause-told
returns-in_err-common-clause-told c =
    let p = err_from_is_err_and c.from_residual.result c.from_residual.ensures.1 in
    let asked = c.in_err-common.ensures in
    let some = positive c.in_err-common.field-0.0 in
    rw (p.1, p.2) (asked ∙ sym (common_refused c.args.s.now _ _ _ (λ e. some (asked ∙ e))))

pub find-requires : goal.find-requires
find-requires c =
    let l = lent c.args.s.now c.args.memory.now c.args.card.now in
    let can = searchable l (sym c.in_ok-common.ensures) in
    record { area = can.0; few = can.1 }

pub returns-in_err-place-clause-told : goal.returns-in_err-place-clause-told
returns-in_err-place-clause-told c =
    let p = err_from_is_err_and c.from_residual-in_err-place.result c.from_residual-in_err-place.ensures.1 in
    let asked = c.in_err-place.ensures.refusal_is in
    rw (p.1, p.2) (asked ∙ sym (common_passed c.args.s.now _ _ _ (sym c.in_ok-common.ensures)))

pub load-requires-clause-on_card : goal.load-requires-clause-on_card
load-requires-clause-on_card c =
    let l = lent c.args.s.now c.args.memory.now c.args.card.now in
    let passed = sym c.in_ok-common.ensures in
    let there = c.in_ok-place.ensures.place_is in
    (pot_readable l c.args.oid c.in_ok-place.place (record { passed = passed; place_is = there })).1

pub returns-clause-told : goal.returns-clause-told
returns-clause-told c =
    c.in_ok-place.ensures.refusal_is ∙ sym (common_passed c.args.s.now _ _ _ (sym c.in_ok-common.ensures))
