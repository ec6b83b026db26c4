-- `card_checkpoint::directory::block` meets its contract. The loop has put the first k entries of the block.
use Rattle.std.proofs.Common.{ℕ, ◌<◌, ◌≤◌, ◌+◌, ◌-◌, ◌*◌, min, length, List, [], ◌∷◌}
use Rattle.std.proofs.Common.{◌≡◌, ap, sym, ◌∙◌, arith}
use Rattle.card.proofs.BytesLaws.{patch_none}
use Rattle.card.proofs.DirectoryLaws.{front_more, front_all}
use Rattle.card.proofs.RingLaws.{ring_high}
use Rattle.card.specs.Bytes.{patch, tabulate, pairs, words, zeros}
use Rattle.card.specs.Ring.{ring_at}
use Rattle.card_checkpoint.proofs.directory.block.Goals as goal

pub loop-k-init : goal.loop-k-init
unfolding tabulate pairs words
loop-k-init c = c.empty-bytes.ensures ∙ sym (patch_none zeros 0)

pub overflow_cast-entry : goal.overflow_cast-entry
overflow_cast-entry c =
    let a = c.args in
    let place = c.requires.places (64 * a.j + c.loop-k.k) (omega arith) in
    let inside : c.from.result ≤ a.ring.area = omega (arith, place, c.from.ensures) in
    omega (arith, c.at-block.ensures, ring_high a.ring.area a.ring.first c.from.result a.ring.first_inside inside)

pub loop-k-preserved : goal.loop-k-preserved
loop-k-preserved c =
    let a = c.args in
    let l = c.loop-k in
    let frame = c.from-in-loop-k in
    let block = c.at-block in
    let block_is = block.ensures ∙ ap (ring_at a.ring.area a.ring.first) c.from.ensures in
    let more : l.k < 64 = omega arith in
    c.put_words.ensures
    ∙ ap (λ (s : List ℕ). patch s (8 * l.k) (words (frame.result ∷ block.result ∷ []))) l.invariant
    ∙ front_more a.ring.area a.ring.first a.frames.now a.places.now (64 * a.j) l.k _ _ more frame.ensures block_is

pub returns : goal.returns
returns c =
    let a = c.args in
    let l = c.loop-k in
    let n = length a.frames.now in
    let e : l.k ≡ min 64 (n - 64 * a.j) = omega arith in
    rw e at l.invariant ∙ front_all a.ring.area a.ring.first a.frames.now a.places.now n a.j c.requires.begins
