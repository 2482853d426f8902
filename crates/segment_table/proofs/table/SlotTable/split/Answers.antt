use Rattle.std.proofs.Common.{◌<◌, arith}
use Rattle.segment_table.proofs.Stepping.{splits}
use Rattle.segment_table.proofs.table.SlotTable.split.Goals as goal

pub split_seat-requires : goal.split_seat-requires
split_seat-requires g c =
    let table = c.args.self.now.table.shared in
    let sized = c.args.self.now.sized in
    let some : 0 < table.table_id.words = omega (arith, sized.1) in
    (c.requires.own.0, some, λ s holds at. splits table.key c.args.seat.now.seat.id c.args.seat.now.seat.me.0 s holds at)
