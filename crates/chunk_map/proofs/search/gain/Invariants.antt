use Rattle.std.proofs.Common.{◌≡◌}
use Rattle.chunk_map.specs.Gains.{gained}
use Rattle.chunk_map.proofs.search.gain.Given as goal

abbrev pub invariant-loop-i : goal.invariant-loop-i
invariant-loop-i g l = g.T.MapSteps.belongs l.seat l.map × (g.T.MapSteps.knows l.seat ≡ gained (g.T.MapSteps.after l.map) l.first l.i (g.T.MapSteps.knows l.fn.seat))
