use Rattle.std.proofs.Common.{◌≡◌}
use Rattle.unit_bench.proofs.heads.drain.Given as goal

abbrev pub invariant-loop-found : goal.invariant-loop-found
invariant-loop-found l = l.reader.ended ≡ l.fn.reader.ended
