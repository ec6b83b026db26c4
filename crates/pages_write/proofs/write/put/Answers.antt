-- `pages_write::write::put` meets its contract.
use Rattle.std.proofs.Common.{ℕ, List, length, leb, ◌+◌, ◌≤◌, ◌≡◌, ◌≢◌, refl, ap, sym, ◌∙◌, leb-true, arith}
use Rattle.std.proofs.lemmas.Result.{err_from_is_err_and}
use Rattle.card.proofs.BytesLaws.{patch-length, patch-whole, zeros-length}
use Rattle.card.specs.Bytes.{patch, zeros}
use Rattle.frames.specs.Promise.{lent}
use Rattle.pages.proofs.CallLaws.{write_refused, write_nothing, write_page, write_both}
use Rattle.pages.proofs.NamedLaws.{positive, found_by, page_readable, page_whole, small, page_changing, both_changing}
use Rattle.pages.proofs.NamedLaws.{page_full, page_empty, named_stops, Keyed, key_stops, key_passes}
use Rattle.pages_write.proofs.write.put.Goals as goal
use Rattle.pages_write.proofs.write.put.Goals.{In_ok-keyed}

-- questions 10 and 11 are passed
keyed : (c : In_ok-keyed)
    → Keyed (lent c.args.s.now c.args.memory.now c.args.card.now) c.args.oid c.args.count c.in_ok-place.place
    c.in_ok-place.pot.now
    (leb (c.args.at + length c.args.new.now) 512)
keyed c =
    let found = c.in_ok-place.ensures.found in
    key_passes _ _ _ _ (found_by found) _ found.pot_is 10 _ (rw c.fits.ensures at c.in_ok-keyed.ensures) refl

fits : (c : In_ok-keyed) → c.args.at + length c.args.new.now ≤ 512
fits c = leb-true _ 512 (keyed c).own_is

fresh-long : (c : In_ok-keyed) → length (patch zeros c.args.at c.args.new.now) ≡ 512
fresh-long c = patch-length zeros _ _ (omega (arith, fits c, zeros-length)) ∙ zeros-length

pub returns-in_err-place : goal.returns-in_err-place
returns-in_err-place c =
    let p = err_from_is_err_and c.from_residual.result c.from_residual.ensures.1 in
    rw (p.1, p.2) (write_refused _ _ _ _ _ _ (named_stops _ _ _ c.in_err-place.field-0.0 c.in_err-place.ensures.told))

pub returns-in_err-keyed : goal.returns-in_err-keyed
returns-in_err-keyed c =
    let p = err_from_is_err_and c.from_residual-in_err-keyed.result c.from_residual-in_err-keyed.ensures.1 in
    let found = c.in_ok-place.ensures.found in
    let some = positive c.in_err-keyed.field-0.0 in
    let asked = rw c.fits.ensures at c.in_err-keyed.ensures in
    rw (p.1, p.2) (write_refused _ _ _ _ _ _ (key_stops _ _ _ _ (found_by found) _ found.pot_is 10 _ asked _ some))

pub returns-then-is_empty : goal.returns-then-is_empty
returns-then-is_empty c =
    let none : length c.args.new.now ≡ 0 = grind arith in
    write_nothing _ _ _ _ _ _ _ (keyed (goal.at.returns-then-is_empty c).In_ok-keyed) none _ refl

pub overflow_cast-page : goal.overflow_cast-page
overflow_cast-page c = omega (arith, (small _ _ _ (found_by c.in_ok-place.ensures.found)).0)

pub lay-both-requires : goal.lay-both-requires
lay-both-requires c = fits (goal.at.lay-both-requires c).In_ok-keyed

pub overflow_cast-place : goal.overflow_cast-place
overflow_cast-place c = omega (arith, (small _ _ _ (found_by c.in_ok-place.ensures.found)).1)

pub change-requires : goal.change-requires
change-requires c =
    both_changing _ _ _ (found_by c.in_ok-place.ensures.found) refl refl _ c.clear.new.pot
    (fresh-long (goal.at.change-requires c).In_ok-keyed)
    c.clear.array_long c.lay-both.ensures

pub returns-then-is_zero : goal.returns-then-is_zero
returns-then-is_zero c =
    let at_keyed = (goal.at.returns-then-is_zero c).In_ok-keyed in
    let k = keyed at_keyed in
    let new = c.args.new.now in
    let some : length new ≢ 0 = grind arith in
    let flag = sym c.is_zero.ensures ∙ c.if-is_zero.true in
    let page-is = ap (λ (x : List ℕ). patch x c.args.at new) (sym (page_empty _ _ _ k.pot_is flag)) in
    write_both _ _ _ _ new _ _ k some _ (fresh-long at_keyed) page-is _ flag c.clear.new.pot c.clear.array_long
    c.clear.ensures refl refl c.lay-both.ensures c.change.ensures.kept

pub change-requires-then-new-eq512 : goal.change-requires-then-new-eq512
change-requires-then-new-eq512 c =
    page_changing _ _ _ (found_by c.in_ok-place.ensures.found) refl _ c.if-new-eq512.true

pub returns-then-new-eq512 : goal.returns-then-new-eq512
returns-then-new-eq512 c =
    let at_keyed = (goal.at.returns-then-new-eq512 c).In_ok-keyed in
    let k = keyed at_keyed in
    let new = c.args.new.now in
    let some : length new ≢ 0 = omega (arith, c.if-new-eq512.true) in
    let flag = sym c.is_zero.ensures ∙ c.if-is_zero.false in
    let old-long = page_whole _ _ _ (found_by c.in_ok-place.ensures.found) in
    let old-is = ap (λ (x : List ℕ). patch x c.args.at new) (page_full _ _ _ k.pot_is flag) in
    let page-is = sym (old-is ∙ patch-whole _ c.args.at new (omega (arith, fits at_keyed, old-long))
    (c.if-new-eq512.true ∙ sym old-long)) in
    write_page _ _ _ _ new _ _ k some new c.if-new-eq512.true page-is _ flag refl c.change-then-new-eq512.ensures.kept

pub load-requires-clause-on_card : goal.load-requires-clause-on_card
load-requires-clause-on_card c = (page_readable _ _ _ (found_by c.in_ok-place.ensures.found)).1

pub patch-requires : goal.patch-requires
patch-requires c = fits (goal.at.patch-requires c).In_ok-keyed

pub change-requires-2 : goal.change-requires-2
change-requires-2 c = page_changing _ _ _ (found_by c.in_ok-place.ensures.found) refl _ c.patch.array_long

pub returns : goal.returns
returns c =
    let k = keyed (goal.at.returns c).In_ok-keyed in
    let new = c.args.new.now in
    let some : length new ≢ 0 = grind arith in
    let flag = sym c.is_zero.ensures ∙ c.if-is_zero.false in
    let old-is = c.load.ensures ∙ sym (page_full _ _ _ k.pot_is flag) in
    let page-is = c.patch.ensures ∙ ap (λ (x : List ℕ). patch x c.args.at new) old-is in
    write_page _ _ _ _ new _ _ k some _ c.patch.array_long page-is _ flag refl c.change-2.ensures.kept
