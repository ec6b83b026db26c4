-- `pages_checkpoint::home::left` meets its contract. The closure may ask about each frame of the slice: it is a home
-- frame.
use Rattle.std.proofs.Common.{rules, arith}
use Rattle.std.proofs.iter.runs.Made.{chains}
use Rattle.std.proofs.lemmas.Iterator.{YieldsList-from_slice}
use Rattle.std.proofs.lemmas.Iterator.Adapters.{serves_from_places}
use Rattle.frames.specs.Parts.{Readable}
use Rattle.pages.proofs.HomeLaws.{rest_frames, rest_low, rest_high, moves_counted}
use Rattle.pages_checkpoint.proofs.home.left.Goals as goal

pub count-requires-clause-can : goal.count-requires-clause-can
count-requires-clause-can c =
    let s = c.args.s.now in
    let card = c.args.card.now in
    let readable : Readable s card = c.requires in (
      tt,
      tt,
      serves_from_places (YieldsList-from_slice (rest_frames s) (search rules)) (λ x q r. search rules)
          (λ x k inside is.
          let low = rest_low s card readable (omega arith) x.now k inside is in
          let high = rest_high s card readable (omega arith) x.now k inside is in
          search rules),
    )

pub returns-clause-moves : goal.returns-clause-moves
returns-clause-moves c =
    moves_counted c.args.s.now c.args.card.now c.requires (omega arith) _ (λ memory. search (rules, chains))
