use Rattle.std.proofs.Common.{All}
use Rattle.unit_io.specs.MemConn.{IsSomeEvent}
use Rattle.unit_bench.proofs.conns.script.Given as goal

abbrev pub invariant-loop : goal.invariant-loop
invariant-loop l = All IsSomeEvent l.events.items
