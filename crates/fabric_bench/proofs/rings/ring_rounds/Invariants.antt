use Rattle.unit_model.specs.Sharing.{Holds}
use Rattle.nncq_ring.specs.Seats.{BelongsTo, knows}
use Rattle.nncq_ring.specs.Views.{held_by}
use Rattle.fabric_bench.proofs.rings.ring_rounds.Given as goal

abbrev pub invariant-loop-round : goal.invariant-loop-round
invariant-loop-round g l = record {
  own : BelongsTo l.seat l.ring;
  held : Holds held_by l.number (knows l.seat);
}
