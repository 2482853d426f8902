use Rattle.std.proofs.Common.{◌<◌, arith}
use Rattle.segment_table.proofs.SeatFacts.{nothing_carried}
use Rattle.segment_table.proofs.Stepping.{joins, nothing_held}
use Rattle.segment_table.proofs.table.SlotTable.join.Goals as goal

pub join_seat-requires : goal.join_seat-requires
join_seat-requires g c =
    let table = c.args.self.now.table.shared in
    let sized = c.args.self.now.sized in
    let other = c.args.other.seat in
    let some : 0 < table.table_id.words = omega (arith, sized.1) in (
      c.requires.own.0.0,
      c.requires.own.1.0,
      nothing_carried other.me.1 c.requires.none,
      some,
      λ s holds at apart there. joins table.key c.args.seat.now.seat.id other.id c.args.seat.now.seat.me.0 other.me.0 (nothing_held other.me.0 other.me.1 c.args.other.sound (nothing_carried other.me.1 c.requires.none)) s holds at apart there,
    )
