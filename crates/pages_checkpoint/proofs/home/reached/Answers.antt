-- `pages_checkpoint::home::reached` meets its contract. The loop leaves the entries from the i-th on to be looked at.
use Rattle.std.proofs.Common.{◌≡◌, sym, ◌∙◌, arith}
use Rattle.pages.proofs.HomeLaws.{passed_end}
use Rattle.record.proofs.Held.{held}
use Rattle.pages_checkpoint.proofs.home.reached.Goals as goal

pub returns : goal.returns
returns c =
    let s = c.args.s.now in
    let l = c.loop-i in
    let inside = (held s c.requires.readable.together).migrated_within in
    let end : l.i ≡ s.committed.count = omega arith in
    λ memory. sym end ∙ passed_end s c.args.card.now l.i c.loop-i-test.false l.invariant memory
