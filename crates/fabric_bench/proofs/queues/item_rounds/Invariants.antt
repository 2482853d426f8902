use Rattle.app_queue.specs.Seats.{BelongsTo}
use Rattle.fabric_bench.proofs.queues.item_rounds.Given as goal

abbrev pub invariant-loop-round : goal.invariant-loop-round
invariant-loop-round l = BelongsTo l.seat l.queue
