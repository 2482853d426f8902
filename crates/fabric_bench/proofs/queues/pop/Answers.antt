use Rattle.std.proofs.Common.{refl}
use Rattle.app_queue.specs.Seats.{knows}
use Rattle.app_queue.proofs.HandLaws.{got_holds}
use Rattle.fabric_bench.proofs.queues.pop.Goals as goal

pub returns-in-Got-clause-got : goal.returns-in-Got-clause-got
returns-in-Got-clause-got c =
    let hand = c.in-Got.ensures.told.hand in
    (got_holds c.in-Got.value (knows c.args.seat.now) (knows c.pop_item_turn.new.seat) hand.0, c.in-Got.ensures.told.inside c.in-Got.place c.in-Got.value refl)
