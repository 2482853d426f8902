use Rattle.app_queue.specs.declared.side.Side.TheVariants.{Free}
use Rattle.app_queue.specs.Seats.{knows}
use Rattle.app_queue.proofs.HandLaws.{got_holds, got_tag}
use Rattle.fabric_bench.proofs.queues.take.Goals as goal

pub returns-in-Got-clause-got : goal.returns-in-Got-clause-got
returns-in-Got-clause-got c =
    let hand = c.in-Got.ensures.told.hand in
    let v = knows c.args.seat.now in
    let u = knows c.take_item_turn.new.seat in
    (got_holds c.in-Got.value v u hand.0, got_tag Free c.in-Got.value c.in-Got.place v u hand.1)
