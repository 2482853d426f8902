use Rattle.std.proofs.Common.{arith}
use Rattle.status_book.proofs.Places.{word_within}
use Rattle.status_book.proofs.Steps.{reads}
use Rattle.status_book.proofs.book.StatusBook.count.Goals as goal

pub load-requires : goal.load-requires
load-requires c =
    let shared = c.args.self.now.table.shared in
    let seat = c.args.seat.now.seat in
    let sized = c.args.self.now.sized in (
      c.requires.own,
      omega (arith, sized.1, c.word_at.ensures, word_within c.args.place c.args.self.now.engines c.requires.place),
      λ s holds homes at fits. reads shared.key c.word_at.result shared.table_id.slots seat.id seat.me.0 seat.me.1 s holds at,
    )
