use Rattle.std.proofs.Common.{◌<◌, ◌∙◌, sym, arith}
use Rattle.chunk_map.proofs.Stepping.{opens_one}
use Rattle.chunk_map.proofs.map.ChunkMap.exchange_open.Goals as goal

pub compare_exchange-requires : goal.compare_exchange-requires
compare_exchange-requires c =
    let table = c.args.self.now.table.shared in
    let seat = c.args.seat.now.seat in
    let sized = c.args.self.now.sized in
    let some : 0 < table.table_id.words = omega (arith, sized.1) in
    (c.requires.own.0, some, λ s holds homes at fits. opens_one table.key c.args.count table.table_id.slots seat.id seat.me.0 seat.me.1 s (c.requires.own.1 ∙ sym sized.0) (omega (arith, sized.0, c.requires.count.1)) holds at)
