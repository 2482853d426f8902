use Rattle.std.proofs.Common.{◌<◌, ◌∙◌, ap}
use Rattle.app_queue.specs.declared.view.QueueView.{QueueView}
use Rattle.app_queue.proofs.ItemSteps.{settles}
use Rattle.app_queue.proofs.HeldItems.{still_sound}
use Rattle.app_queue.proofs.queue.AppQueue.exchange_tag.Goals as goal

pub exchange_word-requires-clause-allowed : goal.exchange_word-requires-clause-allowed
exchange_word-requires-clause-allowed c =
    let table = c.args.self.now.table.shared in
    let seat = c.args.seat.now.seat in
    let lt : c.args.item < table.key.0 = c.requires.item in
    λ s holds homes at fits. settles table.key seat.id seat.me.0 seat.me.1 s holds at c.args.item c.args.stream lt c.requires.stream

pub invariant_of-seat : goal.invariant_of-seat
invariant_of-seat c =
    let seat = c.args.seat.now in
    let own = c.exchange_word.ensures.own in
    let same = ap (λ (v : QueueView). v.held) c.exchange_word.ensures.told.view in
    record {
      sound = still_sound seat c.exchange_word.new.seat own same;
    }
