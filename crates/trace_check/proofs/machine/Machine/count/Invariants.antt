use Rattle.std.proofs.Common.{◌≡◌, ◌≤◌}
use Rattle.std.specs.BTreeMap.{get}
use Rattle.std.specs.Ordering.{nat_cmp}
use Rattle.trace_check.specs.Outcomes.{has_outcome}
use Rattle.trace_check.specs.Streams.{known}
use Rattle.trace_check.proofs.machine.Machine.count.Given as goal
use Rattle.unit_model.specs.Weights.{below, one_if}

abbrev pub invariant-loop-number : goal.invariant-loop-number
invariant-loop-number l = record {
  small : l.count ≤ l.number;
  counted : l.count ≡ below (λ s. one_if (known (has_outcome l.outcome) (get nat_cmp l.self.streams s))) l.number;
}
