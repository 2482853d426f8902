use Rattle.std.proofs.Common.{◌≡◌}
use Rattle.unit_net.proofs.gate.FreeGate.open.Given as goal

abbrev pub invariant-loop-link : goal.invariant-loop-link
invariant-loop-link g l = l.links ≡ l.fn.links
