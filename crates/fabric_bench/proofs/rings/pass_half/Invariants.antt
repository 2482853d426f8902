use Rattle.std.proofs.Common.{ℕ, ◌≤◌, ◌<◌}
use Rattle.unit_model.specs.Sharing.{Holds}
use Rattle.nncq_ring.specs.Seats.{BelongsTo, knows}
use Rattle.nncq_ring.specs.Views.{held_by}
use Rattle.fabric_bench.proofs.rings.pass_half.Given as goal

abbrev pub invariant-loop-number : goal.invariant-loop-number
invariant-loop-number l = record {
  own : BelongsTo l.seat l.ring;
  others : BelongsTo l.other l.ring;
  kept : Holds held_by 0 (knows l.seat);
  rest : (i : ℕ) → l.number ≤ i → i < 64 → Holds held_by i (knows l.seat);
  come : (i : ℕ) → 32 ≤ i → i < l.number → Holds held_by i (knows l.other);
}
