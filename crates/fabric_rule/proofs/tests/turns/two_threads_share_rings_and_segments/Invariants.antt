use Rattle.std.proofs.Common.{◌≡◌}
use Rattle.fabric_rule.proofs.tests.turns.two_threads_share_rings_and_segments.Given as goal

abbrev pub invariant-loop-number : goal.invariant-loop-number
invariant-loop-number g l = record {
  own : l.first.seat.table_id ≡ l.table.table.shared.table_id;
  laid : l.layout.shape ≡ l.table.table.shared.key;
}
