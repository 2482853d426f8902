use Rattle.std.proofs.Common.{◌≡◌}
use Rattle.fabric_rule.specs.Turns.{MayGive, SameWorks}
use Rattle.fabric_rule.proofs.tests.turns.is_given.Given as goal

abbrev pub invariant-loop : goal.invariant-loop
invariant-loop l = record {
  own : l.seat.seat.table_id ≡ l.table.table.shared.table_id;
  may : MayGive l.table.table.shared.key 0 l.item l.seat.seat.me.0;
  slots : l.seat.seat.me.1 ≡ l.fn.seat.seat.me.1;
  works : SameWorks l.fn.seat.seat.me.0 l.seat.seat.me.0;
}
