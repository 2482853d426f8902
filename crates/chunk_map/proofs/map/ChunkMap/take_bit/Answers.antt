use Rattle.std.proofs.Common.{arith}
use Rattle.chunk_map.proofs.Stepping.{takes_bit}
use Rattle.chunk_map.proofs.map.ChunkMap.take_bit.Goals as goal
use Rattle.chunk_map.proofs.Numbers.{index_within}

pub fetch_and-found-requires : goal.fetch_and-found-requires
fetch_and-found-requires c =
    let table = c.args.self.now.table.shared in
    let seat = c.args.seat.now.seat in
    let sized = c.args.self.now.sized in (
      c.requires.own.0,
      omega (arith, sized.1, index_within c.args.number c.args.self.now.segments c.requires.number),
      λ s holds homes at fits. takes_bit table.key c.args.number c.args.bit table.table_id.slots seat.id seat.me.0 seat.me.1 s (omega (arith, sized.0, c.requires.number)) c.requires.bit holds at c.requires.open,
    )
