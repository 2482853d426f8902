use Rattle.std.proofs.Common.{◌<◌, arith}
use Rattle.app_queue.proofs.QueueSeats.{splits}
use Rattle.app_queue.proofs.queue.AppQueue.split.Goals as goal

pub split_seat-requires : goal.split_seat-requires
split_seat-requires c =
    let table = c.args.self.now.table.shared in
    let seat = c.args.seat.now.seat in
    let some : 0 < table.table_id.words = omega (arith, c.args.self.now.sized.1) in
    (c.requires.own, some, λ s holds at. splits table.key seat.id seat.me.0 s holds at)
