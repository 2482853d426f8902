use Rattle.std.proofs.Common.{◌<◌, arith}
use Rattle.tracking_word.proofs.Steps.{joins}
use Rattle.tracking_word.proofs.tags.Tags.join.Goals as goal

pub join_seat-requires : goal.join_seat-requires
join_seat-requires c =
    let table = c.args.self.now.table.shared in
    let sized = c.args.self.now.sized in
    let some : 0 < table.table_id.words = omega (arith, sized.1, sized.2) in (
      c.requires.own.0,
      c.requires.own.1,
      c.args.other.sound.0,
      some,
      λ s holds at apart there. joins table.key c.args.seat.now.seat.id c.args.other.seat.id c.args.seat.now.seat.me.0 c.args.other.seat.me.0 c.requires.none s holds at apart there,
    )
