use Rattle.std.proofs.Common.{◌<◌, ◌≡◌, ◌-◌, length}
use Rattle.net_bench.proofs.echo.turn.Given as goal

abbrev pub invariant-loop-at : goal.invariant-loop-at
invariant-loop-at l = length l.buf ≡ length l.fn.buf

abbrev pub decreases-loop-at : goal.decreases-loop-at
decreases-loop-at l = length l.conns.items - l.at
