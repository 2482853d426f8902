use Rattle.std.proofs.Common.{IsTrue}
use Rattle.unit_model.specs.Sharing.{Holds}
use Rattle.app_queue.specs.Seats.{BelongsTo, knows}
use Rattle.app_queue.specs.Views.{held_by, is_armed}
use Rattle.app_queue.proofs.tests.push_on.Given as goal

abbrev pub invariant-loop : goal.invariant-loop
invariant-loop g l = record {
  able : (goal.iterator-loop g).can_next l.iterator';
  ends : (goal.iterator-loop g).is_finite l.iterator';
  own : BelongsTo l.seat l.queue;
  held : Holds held_by l.item (knows l.seat);
  armed : IsTrue (is_armed l.item (knows l.seat).items);
}
