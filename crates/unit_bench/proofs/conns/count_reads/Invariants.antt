use Rattle.std.proofs.Common.{◌<◌, length}
use Rattle.unit_bench.proofs.conns.count_reads.Given as goal

abbrev pub invariant-loop-reads : goal.invariant-loop-reads
invariant-loop-reads l = 0 < length l.buf
