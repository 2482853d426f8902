use Rattle.std.proofs.Common.{ℕ, ◌≤◌, ◌<◌}
use Rattle.unit_model.specs.Sharing.{Holds}
use Rattle.nncq_ring.specs.Seats.{BelongsTo, knows}
use Rattle.nncq_ring.specs.Views.{held_by}
use Rattle.nncq_ring.proofs.tests.push_and_pop.Given as goal

abbrev pub invariant-loop-v : goal.invariant-loop-v
invariant-loop-v g l = record {
  own : BelongsTo l.seat l.ring;
  rest : (i : ℕ) → l.v ≤ i → i < l.to → Holds held_by i (knows l.seat);
}
