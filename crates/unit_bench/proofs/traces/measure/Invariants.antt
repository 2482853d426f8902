use Rattle.std.proofs.Common.{◌≡◌, ◌*◌, ◌≤◌, false}
use Rattle.trace_check.specs.Checking.{bytes_read, has_failed}
use Rattle.unit_bench.proofs.traces.measure.Given as goal

abbrev pub invariant-loop : goal.invariant-loop
invariant-loop l = record {
  count : bytes_read l.checker ≤ 65536 * l.counter;
  whole : has_failed l.checker ≡ false;
}
