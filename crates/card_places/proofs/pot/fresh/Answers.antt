-- `card_places::pot::fresh` meets its contract. The loop has set the flags of the first i entries.
use Prim.Native.Nat.{ℕ}
use mathlib.Core.List.{List}
use mathlib.Core.Path.{◌≡◌, ap, sym, ◌∙◌}
use native.Mathlib.Omega.{arith}
use Rattle.card.proofs.BytesLaws.{patch_none}
use Rattle.card.proofs.PotLaws.{fresh_more, fresh_all}
use Rattle.card.specs.Bytes.{zeros}
use Rattle.card.specs.Pot.{put_flags, fresh_entries}
use Rattle.card_places.proofs.pot.fresh.Goals as goal

pub loop-i-init : goal.loop-i-init
unfolding fresh_entries
loop-i-init c = c.empty-pot.ensures ∙ sym (patch_none zeros 0)

pub loop-i-preserved : goal.loop-i-preserved
loop-i-preserved c =
    let l = c.loop-i in
    c.put_flags.ensures ∙ ap (λ (s : List ℕ). put_flags s l.i 1) l.invariant ∙ fresh_more l.i (omega arith)

pub returns : goal.returns
returns c =
    let e : c.loop-i.i ≡ 102 = omega arith in
    rw e at c.loop-i.invariant ∙ fresh_all
