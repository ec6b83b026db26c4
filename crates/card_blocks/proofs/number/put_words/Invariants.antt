-- `card_blocks::number::put_words` meets its contract. The loop has put the first k numbers.
use Rattle.std.proofs.Common.{◌≡◌, take}
use Rattle.card.specs.Bytes.{patch, words}
use Rattle.card_blocks.proofs.number.put_words.Given as goal

abbrev pub invariant-loop-k : goal.invariant-loop-k
invariant-loop-k l = l.s ≡ patch l.initial.s l.at (words (take l.k l.numbers))
