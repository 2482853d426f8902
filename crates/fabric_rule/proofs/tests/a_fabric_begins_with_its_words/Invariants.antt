use Rattle.std.proofs.Common.{◌≡◌}
use Rattle.fabric_rule.proofs.tests.a_fabric_begins_with_its_words.Given as goal

abbrev pub invariant-loop-look : goal.invariant-loop-look
invariant-loop-look o l = record {
  own : l.seat.seat.table_id ≡ l.table.table.shared.table_id;
  laid : l.layout.shape ≡ l.table.table.shared.key;
}
