use Rattle.std.proofs.Common.{ℕ, ◌≡◌, ◌+◌, ◌%◌, ◌∙◌, ap, sym, subst}
use Rattle.atomic_table.specs.Table.{Allows}
use Rattle.app_queue.specs.declared.layout.Place.TheVariants.{InRing}
use Rattle.app_queue.specs.declared.view.QueueView.{QueueView}
use Rattle.app_queue.specs.Layout.{word_at}
use Rattle.app_queue.specs.Rule.{QueueHolds}
use Rattle.app_queue.specs.Told.{SeesEntry}
use Rattle.app_queue.proofs.QueueSteps.{sees_entry}
use Rattle.app_queue.proofs.HeldItems.{still_sound}
use Rattle.app_queue.proofs.queue.AppQueue.load_entry.Goals as goal

pub load_word-requires-clause-allowed : goal.load_word-requires-clause-allowed
load_word-requires-clause-allowed c =
    let table = c.args.self.now.table.shared in
    let seat = c.args.seat.now.seat in
    let number : 32 + c.args.place % table.key.0 ≡ c.entry_number-number.result = sym c.entry_number-number.ensures.0 in
    subst (λ (o : ℕ). Allows (QueueHolds table.key) table.table_id.slots seat.id seat.me (word_at table.key.0 (InRing c.args.side o)) (λ m. m) (λ m u. (u.1 ≡ seat.me.1) × SeesEntry table.key.0 c.args.side c.args.place seat.me.0 m u.0)) number
    (λ s holds homes at fits. sees_entry table.key seat.id seat.me.0 seat.me.1 s holds at c.args.side c.args.place)

pub invariant_of-seat : goal.invariant_of-seat
invariant_of-seat c =
    let seat = c.args.seat.now in
    let own = c.load_word.ensures.own in
    let same = ap (λ (v : QueueView). v.held) c.load_word.ensures.told.view in
    record {
      sound = still_sound seat c.load_word.new.seat own same;
    }
