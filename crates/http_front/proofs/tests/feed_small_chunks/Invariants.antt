use Rattle.std.proofs.Common.{◌≡◌}
use Rattle.http_front.proofs.tests.feed_small_chunks.Given as goal

abbrev pub invariant-loop : goal.invariant-loop
invariant-loop l = l.reader.ended ≡ l.fn.reader.ended
