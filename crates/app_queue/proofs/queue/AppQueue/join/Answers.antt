use Rattle.std.proofs.Common.{◌<◌, arith}
use Rattle.app_queue.proofs.QueueSeats.{joins}
use Rattle.app_queue.proofs.queue.AppQueue.join.Goals as goal

pub join_seat-requires : goal.join_seat-requires
join_seat-requires c =
    let table = c.args.self.now.table.shared in
    let seat = c.args.seat.now.seat in
    let other = c.args.other.seat in
    let some : 0 < table.table_id.words = omega (arith, c.args.self.now.sized.1) in
    (c.requires.own.0, c.requires.own.1, c.args.other.sound.0, some, λ s holds at apart there. joins table.key seat.id other.id seat.me.0 other.me.0 c.requires.none s holds at apart there)
