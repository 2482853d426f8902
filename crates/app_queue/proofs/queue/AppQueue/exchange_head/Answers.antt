use Rattle.std.proofs.Common.{ℕ, ◌≡◌, ◌+◌, ◌*◌, ◌<◌, ◌%◌, ◌∙◌, inl, inr, ap, sym, subst, arith, mod-lt}
use Rattle.std.proofs.lemmas.Bool.{cases_eq}
use Rattle.app_queue.specs.declared.view.QueueView.{QueueView}
use Rattle.app_queue.specs.Views.{HoldsBelow}
use Rattle.app_queue.proofs.QueueSteps.{takes}
use Rattle.app_queue.proofs.QueueViews.{below_same, below_took}
use Rattle.app_queue.proofs.queue.AppQueue.exchange_head.Goals as goal

pub exchange_word-requires-clause-allowed : goal.exchange_word-requires-clause-allowed
exchange_word-requires-clause-allowed c =
    let table = c.args.self.now.table.shared in
    let seat = c.args.seat.now.seat in
    λ s holds homes at fits. takes table.key seat.id seat.me.0 seat.me.1 s holds at c.args.side c.args.place c.args.entry c.requires.full c.requires.looked c.requires.seen

pub invariant_of-seat : goal.invariant_of-seat
invariant_of-seat c =
    let table = c.args.self.now.table.shared in
    let sized = c.args.self.now.sized in
    let seat = c.args.seat.now in
    let own = c.exchange_word.ensures.own in
    let told = c.exchange_word.ensures.told in
    let v : QueueView = seat.seat.me.0 in
    let u : QueueView = c.exchange_word.new.seat.me.0 in
    let item : ℕ = c.args.entry % table.key.0 in
    let some : 0 < table.key.0 = omega (arith, sized.0, sized.2) in
    let item_lt : item < table.key.0 = mod-lt c.args.entry some in
    let words : seat.seat.table_id.words ≡ table.table_id.words = ap (λ (id : _). id.words) c.requires.own in
    let inside : 112 + 5 * item < seat.seat.table_id.words = omega (arith, item_lt, words, sized.0, sized.1) in
    let below : HoldsBelow seat.seat.table_id.words u = elim (cases_eq c.exchange_word.result c.args.place) [
      | inl is ↦ below_took seat.seat.table_id.words item v u (ap (λ (w : QueueView). w.held) (told.won is).0) inside seat.sound.1
      | inr ne ↦ below_same seat.seat.table_id.words v u (ap (λ (w : QueueView). w.held) (told.missed ne).0) seat.sound.1
    ] in
    record { sound = (own.1 ∙ seat.sound.0, subst (λ (id : _). HoldsBelow id.words u) (sym own.0) below) }
