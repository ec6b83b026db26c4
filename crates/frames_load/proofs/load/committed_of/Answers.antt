-- `frames_load::load::committed_of` meets its contract.
use Rattle.std.proofs.Common.{refl}
use Rattle.frames_load.proofs.load.committed_of.Goals as goal

pub committed-requires : goal.committed-requires
committed-requires c =
    let ring = c.committed_ring.ensures in
    record {
      store = c.args.s.now;
      parts = record { area_is = ring.area; first_is = ring.first; directory_is = refl };
      readable = c.requires.readable;
      inside = c.requires.on_card;
    }

pub returns : goal.returns
returns c =
    let ring = c.committed_ring.ensures in
    c.committed.ensures c.args.s.now (record { area_is = ring.area; first_is = ring.first; directory_is = refl })
    c.requires.readable c.requires.on_card
