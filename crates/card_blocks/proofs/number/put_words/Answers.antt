-- `card_blocks::number::put_words` meets its contract. The loop has put the first k numbers.
use Rattle.std.proofs.Common.{ℕ, ◌+◌, ◌*◌, List, get_or, ap, sym, ◌∙◌, arith}
use Rattle.card.proofs.BytesLaws.{patch_none, words_more}
use Rattle.card.specs.Bytes.{put_u32, words}
use Rattle.card_blocks.proofs.number.put_words.Goals as goal

pub loop-k-init : goal.loop-k-init
unfolding words
loop-k-init c = sym (patch_none _ _)

pub loop-k-preserved : goal.loop-k-preserved
loop-k-preserved c =
    let a = c.args in
    let l = c.loop-k in
    let n = a.numbers.now in
    c.put_u32.ensures ∙ ap (λ (s : List ℕ). put_u32 s (a.at + 4 * l.k) (get_or n l.k 0)) l.invariant
    ∙ words_more a.s.now a.at l.k n (omega arith) (omega arith)
