use Rattle.std.proofs.Common.{◌≡◌}
use Rattle.fabric_bench.proofs.replies.collected.Given as goal

abbrev pub invariant-loop : goal.invariant-loop
invariant-loop l = l.parts.asked.stream ≡ l.stream
