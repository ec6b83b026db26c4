-- `frames_advance::advance::migrating` meets its contract.
use Rattle.std.proofs.Common.{refl, ◌∙◌, arith}
use borrow.Author.Tests.{lt-leb}
use Rattle.frames.proofs.DueLaws.{not_owed, migrating_owed, migrating_idle, migrating-waits, migrating_tail}
use Rattle.record.proofs.Held.{held, bounds}
use Rattle.frames_advance.proofs.advance.migrating.Goals as goal

pub returns-then-s-eq2 : goal.returns-then-s-eq2
returns-then-s-eq2 c = migrating_owed c.args.s.now c.if-s-eq2.true

pub returns-then-s-eq0 : goal.returns-then-s-eq0
returns-then-s-eq0 c =
    let s = c.args.s.now in
    migrating_idle s (not_owed s c.if-s-eq2.false (held s c.requires)) c.if-s-eq0.true

pub overflow_add-result : goal.overflow_add-result
overflow_add-result c = omega (arith, (bounds c.args.s.now (held c.args.s.now c.requires)).pending_small)

pub returns-then-s : goal.returns-then-s
returns-then-s c =
    let s = c.args.s.now in
    migrating_tail s (not_owed s c.if-s-eq2.false (held s c.requires)) c.if-s-eq0.false c.if-s.true _ refl

pub returns-else-s : goal.returns-else-s
returns-else-s c m =
    let s = c.args.s.now in
    let calm = not_owed s c.if-s-eq2.false (held s c.requires) in
    lt-leb _ _ c.if-s.false ∙ migrating-waits s calm c.if-s-eq0.false c.if-s.false m
