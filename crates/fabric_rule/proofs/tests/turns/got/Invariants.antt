use Rattle.std.proofs.Common.{◌≡◌}
use Rattle.fabric_rule.specs.Turns.{SameWorks}
use Rattle.fabric_rule.proofs.tests.turns.got.Given as goal

abbrev pub invariant-loop : goal.invariant-loop
invariant-loop l = record {
  own : l.seat.seat.table_id ≡ l.table.table.shared.table_id;
  slots : l.seat.seat.me.1 ≡ l.fn.seat.seat.me.1;
  works : SameWorks l.fn.seat.seat.me.0 l.seat.seat.me.0;
}
