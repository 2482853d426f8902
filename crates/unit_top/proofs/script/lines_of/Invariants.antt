use Rattle.std.proofs.Common.{◌≡◌, take}
use Rattle.trace_check.specs.Traces as lines
use Rattle.unit_top.proofs.script.lines_of.Given as goal

abbrev pub invariant-loop-step : goal.invariant-loop-step
invariant-loop-step l = l.text ≡ lines.trace_of (take l.step-index l.fn.steps)
