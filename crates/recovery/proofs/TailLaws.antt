-- What stands behind the pages of a generation: the blocks of its directory, then its trailer.
-- Assumes nothing.
use Prim.Native.Nat.{ℕ, ◌<◌}
use borrow.Author.Tests.{lt-ltb, le-ltb}
use lib.Dec.{ltb}
use lib.ListN.{length}
use mathlib.Core.List.{List}
use mathlib.Core.Path.{◌≡◌}
use native.Mathlib.Omega.{arith}
use Rattle.card.proofs.DirectoryLaws.{dir_block-length}
use Rattle.card.proofs.Test.{by_test}
use Rattle.card.proofs.TrailerLaws.{trailer_length}
use Rattle.card.specs.Directory.{dir_block}
use Rattle.card.specs.Ring.{dir_blocks}
use Rattle.card.specs.Trailer.{trailer_block}
use Rattle.recovery.proofs.Sorted.{SortedGeneration, trailer_of, tail_block}

module _ (commit : ℕ) (g : SortedGeneration) where
  pub tail_length : (j : ℕ) → length (tail_block commit g j) ≡ 512
  unfolding tail_block
  tail_length j = by_test (λ (l : List ℕ). length l ≡ 512) (ltb j (dir_blocks (length g.dir))) (λ e. dir_block-length g.dir j) (λ e. trailer_length (trailer_of commit g))

  pub tail_dir : (j : ℕ) → j < dir_blocks (length g.dir) → tail_block commit g j ≡ dir_block g.dir j
  unfolding tail_block
  tail_dir j h = rw (lt-ltb j (dir_blocks (length g.dir)) h)

  pub tail_trailer : tail_block commit g (dir_blocks (length g.dir)) ≡ trailer_block (trailer_of commit g)
  unfolding tail_block
  tail_trailer = rw (le-ltb (dir_blocks (length g.dir)) (dir_blocks (length g.dir)) (omega arith))
