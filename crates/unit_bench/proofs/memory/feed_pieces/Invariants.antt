use Rattle.std.proofs.Common.{◌≡◌}
use Rattle.unit_bench.proofs.memory.feed_pieces.Given as goal

abbrev pub invariant-loop : goal.invariant-loop
invariant-loop l = l.reader.ended ≡ l.fn.reader.ended
