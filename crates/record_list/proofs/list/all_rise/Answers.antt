-- `record_list::list::all_rise` meets its contract: of elements that rise the first and the last tell the bounds.
use Rattle.std.proofs.Common.{◌≡◌, ◌<◌, ◌∙◌, arith, sym, ltb-true, ltb-false, leb-true, length}
use Rattle.record.proofs.ListLaws.{rise_none, rise_low, rise_high, rise_steps}
use Rattle.record_list.proofs.list.all_rise.Goals as goal
use Rattle.record_list.proofs.list.all_rise.Goals.{then-low-first, else-low-first}

pub returns-then-is_empty : goal.returns-then-is_empty
returns-then-is_empty c =
    let a = c.args in
    let none : length a.frames.now ≡ 0 = grind arith in
    sym (rise_none a.low a.high a.frames.now none)

pub returns-then-within : goal.returns-then-within
returns-then-within c =
    let a = c.args in
    let some : 0 < length a.frames.now = grind arith in
    elim c.if-low-first.branch [
      | then-low-first w ↦
          let last = ltb-true _ _ (sym w.within-is ∙ c.if-within.true) in
          c.all_above.ensures ∙ rise_steps a.low a.high a.frames.now some (omega arith) (omega (arith, last))
      | else-low-first w ↦ absurd (omega (arith, leb-true _ _ (sym w.within-is ∙ c.if-within.true)))
    ]

pub returns-else-within : goal.returns-else-within
returns-else-within c =
    let a = c.args in
    let some : 0 < length a.frames.now = grind arith in
    elim c.if-low-first.branch [
      | then-low-first w ↦
          let last = ltb-false _ _ (sym w.within-is ∙ c.if-within.false) in
          c.if-within.false ∙ sym (rise_high a.low a.high a.frames.now some (omega (arith, last)))
      | else-low-first w ↦ c.if-within.false ∙ sym (rise_low a.low a.high a.frames.now some (omega arith))
    ]
