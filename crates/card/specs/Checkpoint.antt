-- What reading a card promises.
-- Assumes nothing.
use Rattle.std.specs.Prelude.{ℕ, ◌/◌, length, true, List, ◌≡◌, Result, IfOk}
use Rattle.card.specs.Block.{block_at, whole}
use Rattle.card.specs.Directory.{entries_of, PlacesBelow}
use Rattle.card.specs.Header.{header_on}
use Rattle.card.specs.Question.{first_no, header_asks, committed_on, entries_on, card_asks}
use Rattle.card.specs.Refusal.{told}
use Rattle.card.specs.declared.checkpoint.Checkpoint.{Checkpoint}
use Rattle.card.specs.declared.header.Header.{Header}
use Rattle.card.specs.declared.refusal.Refusal.{Refusal}

-- what the card says, as code has read it
pub record ReadFrom (c : List ℕ) (x : Checkpoint) : Type 0 where
  pub header_is : x.header ≡ header_on (block_at c 0)
  pub trailer_is : x.trailer ≡ committed_on c
  pub entries_is : entries_of x.header.area x.trailer.first x.directory.frames x.directory.places x.directory.count ≡ entries_on c
  pub places_are : PlacesBelow x.trailer.pages x.directory.count x.directory.places

-- The first "no" of questions 3 to 8, and where there is none, what the card says.
pub record Recovered (c : List ℕ) (r : Result Checkpoint Refusal) : Type 0 where
  pub number : told r ≡ first_no (card_asks c)
  pub read : IfOk r (ReadFrom c)

-- a card whose header h has passed questions 3 to 6
pub record HeaderPassed (c : List ℕ) (h : Header) : Type 0 where
  pub card_whole : whole 11 65536 (length c) ≡ true
  pub header_is : h ≡ header_on (block_at c 0)
  pub passed : first_no (header_asks (length c / 512) h) ≡ 0
