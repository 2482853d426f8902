use Rattle.std.proofs.Common.{◌≡◌, false}
use Rattle.trace_check.specs.Checking.{bytes_read, has_failed}
use Rattle.trace_check.proofs.tests.verdict_by_bytes.Given as goal

abbrev pub invariant-loop-byte : goal.invariant-loop-byte
invariant-loop-byte g l = record {
  count : bytes_read l.checker ≡ l.byte-index;
  whole : has_failed l.checker ≡ false;
}
