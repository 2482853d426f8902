use Rattle.std.proofs.Common.{◌<◌, refl, arith}
use Rattle.nncq_ring.specs.Views.{empty}
use Rattle.nncq_ring.proofs.Stepping.{splits}
use Rattle.nncq_ring.proofs.ring.Ring.split.Goals as goal

pub split_seat-requires : goal.split_seat-requires
split_seat-requires c =
    let table = c.args.self.now.table.shared in
    let seat = c.args.seat.now.seat in
    let some : 0 < table.table_id.words = omega (arith, c.args.self.now.sized.1, c.args.self.now.sized.2) in
    (c.requires.own, some, λ s holds at. splits table.key seat.id seat.me.0 seat.me.0 empty (λ f. omega arith) refl refl s holds at)
