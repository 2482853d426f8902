use Rattle.std.proofs.Common.{ℕ, ◌≡◌, ◌+◌, ◌-◌, ◌%◌, ◌==◌, ◌∙◌, inl, inr, ap, sym, subst, arith, div-add-mod'}
use Rattle.std.proofs.lemmas.Bool.{cases_eq}
use prog.Atomic.{either}
use Rattle.atomic_table.specs.Table.{Allows}
use Rattle.nncq_ring.specs.Words.{entry_of}
use Rattle.app_queue.specs.declared.layout.Place.TheVariants.{InRing}
use Rattle.app_queue.specs.declared.view.QueueView.{QueueView}
use Rattle.app_queue.specs.Layout.{word_at}
use Rattle.app_queue.specs.Rule.{QueueHolds}
use Rattle.app_queue.specs.Told.{Puts}
use Rattle.app_queue.specs.Views.{HoldsBelow}
use Rattle.app_queue.proofs.QueueSteps.{puts}
use Rattle.app_queue.proofs.QueueViews.{below_same, below_put}
use Rattle.app_queue.proofs.queue.AppQueue.exchange_entry.Goals as goal

pub exchange_word-requires-clause-allowed : goal.exchange_word-requires-clause-allowed
exchange_word-requires-clause-allowed c =
    let table = c.args.self.now.table.shared in
    let seat = c.args.seat.now.seat in
    let n : ℕ = c.args.self.now.size in
    let t : ℕ = c.args.place in
    let second : ℕ = t - t % n + c.args.item in
    let is_entry : second ≡ entry_of n t c.args.item = omega (arith, div-add-mod' t n) in
    let is_entry' : second ≡ entry_of table.key.0 t c.args.item = is_entry ∙ ap (λ (m : ℕ). entry_of m t c.args.item) (sym c.args.self.now.sized.0) in
    let number : 32 + t % table.key.0 ≡ c.entry_number-number.result = sym c.entry_number-number.ensures.0 in
    subst (λ (o : ℕ). Allows (QueueHolds table.key) table.table_id.slots seat.id seat.me (word_at table.key.0 (InRing c.args.side o)) (λ m. either (m == c.args.entry) second m) (λ m u. (u.1 ≡ seat.me.1) × Puts table.key.0 c.args.side t c.args.entry c.args.item seat.me.0 m u.0)) number
    (λ s holds homes at fits. puts table.key seat.id seat.me.0 seat.me.1 s holds at c.args.side t c.args.entry c.args.item second c.requires.fresh c.requires.may c.requires.before c.requires.looked c.requires.seen is_entry')

pub invariant_of-seat : goal.invariant_of-seat
invariant_of-seat c =
    let seat = c.args.seat.now in
    let own = c.exchange_word.ensures.own in
    let told = c.exchange_word.ensures.told in
    let v : QueueView = seat.seat.me.0 in
    let u : QueueView = c.exchange_word.new.seat.me.0 in
    let below : HoldsBelow seat.seat.table_id.words u = elim (cases_eq c.exchange_word.result c.args.entry) [
      | inl is ↦ below_put seat.seat.table_id.words c.args.item v u (ap (λ (w : QueueView). w.held) (told.won is).0) c.requires.may.0 seat.sound.1
      | inr ne ↦ below_same seat.seat.table_id.words v u (ap (λ (w : QueueView). w.held) (told.missed ne).0) seat.sound.1
    ] in
    record { sound = (own.1 ∙ seat.sound.0, subst (λ (id : _). HoldsBelow id.words u) (sym own.0) below) }
