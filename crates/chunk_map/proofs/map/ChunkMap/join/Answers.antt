use Rattle.std.proofs.Common.{◌<◌, arith}
use Rattle.chunk_map.proofs.Stepping.{joins}
use Rattle.chunk_map.proofs.map.ChunkMap.join.Goals as goal

pub join_seat-requires : goal.join_seat-requires
join_seat-requires c =
    let table = c.args.self.now.table.shared in
    let sized = c.args.self.now.sized in
    let some : 0 < table.table_id.words = omega (arith, sized.1) in (
      c.requires.own.0.0,
      c.requires.own.1.0,
      c.args.other.sound.0,
      some,
      λ s holds at apart there. joins table.key c.args.seat.now.seat.id c.args.other.seat.id c.args.seat.now.seat.me.0 c.args.other.seat.me.0 c.requires.none s holds at apart there,
    )
