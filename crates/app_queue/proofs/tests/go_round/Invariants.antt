use Rattle.std.proofs.Common.{◌≤◌}
use Rattle.app_queue.specs.Seats.{BelongsTo}
use Rattle.app_queue.proofs.tests.go_round.Given as goal

abbrev pub invariant-loop : goal.invariant-loop
invariant-loop g l = record {
  own : BelongsTo l.seat l.queue;
  few : l.count ≤ l.counter;
}
