-- `card_checkpoint::directory::block` meets its contract. The loop has put the first k entries of the block.
use Rattle.std.proofs.Common.{◌≡◌}
use Rattle.card.proofs.DirectoryLaws.{front_bytes}
use Rattle.card.specs.Bytes.{patch, zeros}
use Rattle.card_checkpoint.proofs.directory.block.Given as goal

abbrev pub invariant-loop-k : goal.invariant-loop-k
invariant-loop-k l =
    l.bytes ≡ patch zeros 0 (front_bytes l.ring.area l.ring.first l.frames l.places l.from l.k)
