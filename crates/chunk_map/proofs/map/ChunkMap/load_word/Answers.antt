use Rattle.std.proofs.Common.{arith}
use Rattle.chunk_map.proofs.Stepping.{sees_word}
use Rattle.chunk_map.proofs.map.ChunkMap.load_word.Goals as goal
use Rattle.chunk_map.proofs.Numbers.{index_within}
use Rattle.chunk_map.specs.Rule.{table_index}

pub load-requires : goal.load-requires
load-requires c =
    let table = c.args.self.now.table.shared in
    let seat = c.args.seat.now.seat in
    let sized = c.args.self.now.sized in (
      c.requires.own.0,
      omega (arith, sized.1, index_within c.args.number c.args.self.now.segments c.requires.number),
      λ s holds homes at fits. sees_word table.key (table_index c.args.number) table.table_id.slots seat.id seat.me.0 seat.me.1 s holds at,
    )
