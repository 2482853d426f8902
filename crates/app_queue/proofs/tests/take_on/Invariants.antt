use Rattle.app_queue.specs.Seats.{BelongsTo, knows}
use Rattle.app_queue.proofs.tests.take_on.Given as goal

abbrev pub invariant-loop : goal.invariant-loop
invariant-loop g l = record {
  able : (goal.iterator-loop g).can_next l.iterator';
  ends : (goal.iterator-loop g).is_finite l.iterator';
  own : BelongsTo l.seat l.queue;
}
