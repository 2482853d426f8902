use Rattle.std.proofs.Common.{◌<◌, length}
use Rattle.net_bench.proofs.echo.serve.Given as goal

abbrev pub invariant-loop : goal.invariant-loop
invariant-loop g l = 0 < length l.buf.items
