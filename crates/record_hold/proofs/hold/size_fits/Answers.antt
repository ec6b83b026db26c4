-- `record_hold::hold::size_fits` meets its contract.
use Rattle.std.proofs.Common.{sym, ◌∙◌, arith, le-leb, leb-false, eq-eqb}
use Rattle.std.proofs.lemmas.Bool.{lt-leb}
use Rattle.card.proofs.RingLaws.{size_some, size_none}
use Rattle.card.specs.Ring.{generation_size}
use Rattle.record_hold.proofs.hold.size_fits.Goals as goal
use Rattle.record_hold.proofs.hold.size_fits.Goals.{then-p-half, else-p-half}

pub returns-then-e-eq0 : goal.returns-then-e-eq0
returns-then-e-eq0 c =
    let a = c.args in
    let none = size_none a.p a.e c.if-e-eq0.true in
    eq-eqb a.e 0 c.if-e-eq0.true ∙ sym (le-leb (generation_size a.p a.e) a.half (omega (arith, none)))

pub returns-else-e-half : goal.returns-else-e-half
returns-else-e-half c =
    let a = c.args in
    let some = size_some a.p a.e (omega arith) in
    c.if-e-half.false
    ∙ sym (elim c.if-p-half.branch [
      | then-p-half w ↦
          let many = leb-false _ _ (sym w.value-is ∙ c.if-e-half.false) in
          lt-leb (generation_size a.p a.e) a.half (omega (arith, some, many))
      | else-p-half w ↦ lt-leb (generation_size a.p a.e) a.half (omega (arith, some))
    ])
