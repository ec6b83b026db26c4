-- `card_checkpoint::directory::read` meets its contract. The loop has read the first i entries, and leaves those
-- from the i-th on to be asked about.
use Rattle.std.proofs.Common.{◌-◌, ◌≡◌, length}
use Rattle.card.proofs.BytesLaws.{Filled}
use Rattle.card.proofs.DirectoryLaws.{PlacesFilled}
use Rattle.card.specs.Bytes.{tabulate}
use Rattle.card.specs.Directory.{entry_on, read_dir}
use Rattle.card.specs.Question.{entries_fit}
use Rattle.card_checkpoint.proofs.directory.read.Given as goal

abbrev pub invariant-loop-i : goal.invariant-loop-i
invariant-loop-i l =
    let area = l.ring.area in
    let first = l.ring.first in
    let f = entry_on l.card area first l.p in
    record {
      rest : entries_fit l.blocks area first l.p l.low (tabulate f l.i (l.e - l.i))
          ≡ entries_fit l.blocks area first l.p area (read_dir l.card area first l.p l.e);
      frames_long : length l.directory.frames ≡ 256;
      frames : Filled (λ i. (f i).frame) l.i l.directory.frames;
      places_long : length l.directory.places ≡ 256;
      places : PlacesFilled area first l.p f l.i l.directory.places;
    }
