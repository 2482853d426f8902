use Rattle.std.proofs.Common.{◌∙◌, ap}
use Rattle.app_queue.specs.declared.view.QueueView.{QueueView}
use Rattle.app_queue.proofs.QueueSteps.{sees_tail}
use Rattle.app_queue.proofs.HeldItems.{still_sound}
use Rattle.app_queue.proofs.queue.AppQueue.load_tail.Goals as goal

pub load_word-requires-clause-allowed : goal.load_word-requires-clause-allowed
load_word-requires-clause-allowed c =
    let table = c.args.self.now.table.shared in
    let seat = c.args.seat.now.seat in
    λ s holds homes at fits. sees_tail table.key seat.id seat.me.0 seat.me.1 s holds at c.args.side

pub invariant_of-seat : goal.invariant_of-seat
invariant_of-seat c =
    let seat = c.args.seat.now in
    let own = c.load_word.ensures.own in
    let same = ap (λ (v : QueueView). v.held) c.load_word.ensures.told.view in
    record {
      sound = still_sound seat c.load_word.new.seat own same;
    }
