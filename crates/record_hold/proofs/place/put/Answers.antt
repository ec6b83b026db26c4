-- `record_hold::place::put` meets its contract.
use Rattle.std.proofs.Common.{arith}
use Rattle.record.proofs.SeatLaws.{seat_low}
use Rattle.record_hold.proofs.place.put.Goals as goal

pub put-requires : goal.put-requires
put-requires c =
    let s = c.args.s.now in
    let r = c.requires in
    omega (arith, c.seat.ensures, seat_low s.frames s.head c.args.turn r.head r.inside, r.memory)
