-- `frames_load::load::in_committed` meets its contract.
use Rattle.std.proofs.Common.{refl}
use Rattle.frames_load.proofs.load.in_committed.Goals as goal

pub committed_block-requires : goal.committed_block-requires
committed_block-requires c =
    let ring = c.committed_ring.ensures in
    record {
      store = c.args.s.now;
      parts = record { area_is = ring.area; first_is = ring.first; directory_is = refl };
      together = c.requires.together;
    }

pub returns : goal.returns
returns c =
    let ring = c.committed_ring.ensures in
    c.committed_block.ensures c.args.s.now (record { area_is = ring.area; first_is = ring.first; directory_is = refl })
    c.requires.together c.requires.on_card
