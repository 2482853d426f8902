use Rattle.std.proofs.Common.{◌≤◌}
use Rattle.chunk_map.proofs.tests.two_threads_share_no_chunk.Given as goal

abbrev pub invariant-loop-chunk : goal.invariant-loop-chunk
invariant-loop-chunk g l = l.marked ≤ l.chunk
