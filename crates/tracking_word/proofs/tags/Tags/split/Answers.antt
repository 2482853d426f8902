use Rattle.std.proofs.Common.{◌<◌, arith}
use Rattle.tracking_word.proofs.Steps.{splits}
use Rattle.tracking_word.proofs.tags.Tags.split.Goals as goal

pub split_seat-requires : goal.split_seat-requires
split_seat-requires c =
    let table = c.args.self.now.table.shared in
    let sized = c.args.self.now.sized in
    let some : 0 < table.table_id.words = omega (arith, sized.1, sized.2) in
    (c.requires.own, some, λ s holds at. splits table.key c.args.seat.now.seat.id c.args.seat.now.seat.me.0 s holds at)
