use Rattle.std.proofs.Common.{ℕ, ◌≤◌, ◌<◌}
use Rattle.unit_model.specs.Sharing.{Holds}
use Rattle.nncq_ring.specs.Seats.{BelongsTo, knows}
use Rattle.nncq_ring.specs.Views.{held_by}
use Rattle.nncq_ring.proofs.tests.pass_all.Given as goal

abbrev pub invariant-loop-v : goal.invariant-loop-v
invariant-loop-v l = record {
  own : BelongsTo l.seat l.ring;
  others : BelongsTo l.other l.ring;
  kept : (i : ℕ) → i < l.from → Holds held_by i (knows l.seat);
  rest : (i : ℕ) → l.v ≤ i → i < l.to → Holds held_by i (knows l.seat);
  come : (i : ℕ) → l.from ≤ i → i < l.v → Holds held_by i (knows l.other);
}
