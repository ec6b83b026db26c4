-- `pages_write::write::lay` meets its contract.
use Rattle.std.proofs.Common.{ℕ, List, ◌++◌, length, ◌≡◌, ap, ◌∙◌, rules}
use Rattle.card.proofs.BlockLaws.{put_both}
use Rattle.card.specs.Bytes.{patch}
use Rattle.pages_write.proofs.write.lay.Goals as goal

pub returns : goal.returns
returns c =
    let page = c.patch.new.bytes in
    let pot = c.args.pot.now in
    let page-is = c.patch.ensures ∙ ap (λ (z : List ℕ). patch z c.args.at c.args.new.now) c.empty-page.ensures in
    let long : (length page ≡ 512) × (length pot ≡ 512) = (search rules, search rules) in
    put_both _ _ _ page pot (search rules) long.0 long.1 c.put.ensures c.put-2.ensures
    ∙ ap (λ (z : List ℕ). z ++ pot) page-is
