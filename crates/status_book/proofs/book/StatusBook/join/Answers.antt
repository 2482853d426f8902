use Rattle.std.proofs.Common.{◌<◌, ap, arith}
use Rattle.status_book.proofs.Steps.{joins}
use Rattle.status_book.proofs.book.StatusBook.join.Goals as goal

pub join_seat-requires : goal.join_seat-requires
join_seat-requires c =
    let shared = c.args.self.now.table.shared in
    let sized = c.args.self.now.sized in
    let some : 0 < shared.table_id.words = omega (arith, sized.1, sized.2) in (
      c.requires.own.0,
      c.requires.own.1,
      ap (λ (m : _). m.1) c.args.count.sound.0,
      some,
      λ s holds at apart there. joins shared.key c.args.last.now.id c.args.count.seat.id c.args.last.now.me.0 c.args.count.seat.me.0 s holds at apart there,
    )
