use Rattle.std.proofs.Common.{◌≡◌, Some}
use Rattle.unit_model.specs.Sharing.{Holds}
use Rattle.app_queue.specs.Seats.{BelongsTo, knows}
use Rattle.app_queue.specs.Views.{held_by, last_tag}
use Rattle.app_queue.proofs.tests.free_on.Given as goal

abbrev pub invariant-loop : goal.invariant-loop
invariant-loop g l = record {
  able : (goal.iterator-loop g).can_next l.iterator';
  ends : (goal.iterator-loop g).is_finite l.iterator';
  own : BelongsTo l.seat l.queue;
  held : Holds held_by l.item (knows l.seat);
  zero : last_tag l.item (knows l.seat).items ≡ Some 0;
}
