use Rattle.std.proofs.Common.{ℕ, ◌<◌, subst, sym}
use Rattle.tracking_word.proofs.Steps.{settles}
use Rattle.tracking_word.proofs.tags.Tags.exchange.Goals as goal

pub compare_exchange-requires : goal.compare_exchange-requires
compare_exchange-requires c =
    let table = c.args.self.now.table.shared in
    let seat = c.args.seat.now in
    let sized = c.args.self.now.sized in (
      c.requires.own,
      subst (λ (m : ℕ). c.args.item < m) (sym sized.1) c.requires.item,
      λ s holds homes at fits. settles table.key c.args.item c.args.stream table.table_id.slots seat.seat.id seat.seat.me.0 seat.seat.me.1 s (subst (λ (m : ℕ). c.args.item < m) (sym sized.0) c.requires.item) c.requires.stream holds at,
    )
