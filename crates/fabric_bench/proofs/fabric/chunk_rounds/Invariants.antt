use Rattle.std.proofs.Common.{◌≡◌}
use Rattle.fabric_rule.specs.Turns.{SameWorks}
use Rattle.fabric_bench.proofs.fabric.chunk_rounds.Given as goal

abbrev pub invariant-loop-round : goal.invariant-loop-round
invariant-loop-round l = record {
  own : l.seat.seat.table_id ≡ l.table.table.shared.table_id;
  works : SameWorks l.fn.seat.seat.me.0 l.seat.seat.me.0;
}
