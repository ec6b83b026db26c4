-- `frames_load::forecast::forecast` meets its contract.
use Rattle.std.proofs.Common.{true, ◌≡◌, ◌≤◌, refl, arith}
use Rattle.frames.proofs.ForecastLaws.{tail_few, foretold_none, foretold_some}
use Rattle.record.proofs.Held.{held, bounds}
use Rattle.record.specs.Holds.{holds_together}
use Rattle.record.specs.declared.store.Store.{Store}
use Rattle.frames_load.proofs.forecast.forecast.Goals as goal

few : (s : Store) → holds_together s ≡ true → (s.pending.count ≤ 256) × (s.pending.taken ≤ 256)
few s h = let b = bounds s (held s h) in (b.pending_small, b.pending_taken)

pub owed-requires : goal.owed-requires
owed-requires c = (held c.args.s.now c.requires.together).phase_known

pub returns-then-s-eq0 : goal.returns-then-s-eq0
returns-then-s-eq0 c = foretold_none c.args.s.now c.requires.together _ _ c.if-s-eq0.true c.owed.ensures

pub overflow_sub-waiting : goal.overflow_sub-waiting
overflow_sub-waiting c = (held c.args.s.now c.requires.together).pending_down_lem

pub overflow_add-behind : goal.overflow_add-behind
overflow_add-behind c = omega (arith, few c.args.s.now c.requires.together)

pub overflow_sub-behind : goal.overflow_sub-behind
overflow_sub-behind c = tail_few c.args.s.now c.requires.together c.if-s-eq0.false

pub overflow_add-result : goal.overflow_add-result
overflow_add-result c = omega (arith, few c.args.s.now c.requires.together)

pub overflow_add-result-2 : goal.overflow_add-result-2
overflow_add-result-2 c = omega (arith, few c.args.s.now c.requires.together)

pub ends-requires : goal.ends-requires
ends-requires c = (held c.args.s.now c.requires.together).phase_known

pub overflow_add-result-3 : goal.overflow_add-result-3
overflow_add-result-3 c = omega (arith, few c.args.s.now c.requires.together, c.ends.ensures.few)

pub overflow_cast-result : goal.overflow_cast-result
overflow_cast-result c = omega (arith, few c.args.s.now c.requires.together, c.ends.ensures.few)

pub returns : goal.returns
returns c = foretold_some c.args.s.now c.requires.together _ _ c.if-s-eq0.false _ c.ends.ensures.ends refl
