use Rattle.std.proofs.Common.{◌≡◌}
use Rattle.unit_model.specs.Opening.{first_entries}
use Rattle.trace_check.proofs.lane.first_entries.Given as goal

abbrev pub invariant-loop-item : goal.invariant-loop-item
invariant-loop-item l = l.entries.items ≡ first_entries l.start l.item
