use Rattle.std.proofs.Common.{◌<◌, ◌∙◌, sym, refl, arith}
use Rattle.chunk_map.proofs.Stepping.{sees_open}
use Rattle.chunk_map.proofs.map.ChunkMap.load_open.Goals as goal

pub load-requires : goal.load-requires
load-requires c =
    let table = c.args.self.now.table.shared in
    let seat = c.args.seat.now.seat in
    let sized = c.args.self.now.sized in
    let some : 0 < table.table_id.words = omega (arith, sized.1) in
    (c.requires.own.0, some, λ s holds homes at fits. sees_open table.key 0 table.table_id.slots seat.id seat.me.0 seat.me.1 s holds at refl (c.requires.own.1 ∙ sym sized.0))
