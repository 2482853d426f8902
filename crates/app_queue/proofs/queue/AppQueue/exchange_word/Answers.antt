use Rattle.std.proofs.Common.{ℕ, ◌≡◌, ◌<◌, ◌==◌, ◌∙◌, ap, sym, subst, arith}
use prog.Atomic.{either}
use Rattle.atomic_table.specs.Table.{Allows}
use Rattle.app_queue.specs.Layout.{word_at, word_count}
use Rattle.app_queue.specs.Rule.{QueueHolds}
use Rattle.app_queue.proofs.Places.{is_layout}
use Rattle.app_queue.proofs.queue.AppQueue.exchange_word.Goals as goal

pub compare_exchange-requires : goal.compare_exchange-requires
compare_exchange-requires g c =
    let table = c.args.self.now.table.shared in
    let seat = c.args.seat.now in
    let sized = c.args.self.now.sized in
    let n : ℕ = table.key.0 in
    let is : c.word_at-word.result ≡ word_at n c.args.place = c.word_at-word.ensures ∙ ap (λ (m : ℕ). word_at m c.args.place) (sym sized.0) in
    let inside : word_at n c.args.place < word_count n = (is_layout n).there c.args.place c.requires.real in
    let there : c.word_at-word.result < table.table_id.words = omega (arith, is, inside, sized.0, sized.1) in (
      c.requires.own,
      there,
      subst (λ (i : ℕ). Allows (QueueHolds table.key) table.table_id.slots seat.id seat.me i (λ m. either (m == c.args.old) c.args.new m) (λ m u. (u.1 ≡ seat.me.1) × g.J.Telling.tells m u.0)) (sym is) c.requires.allowed,
    )
