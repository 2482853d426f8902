use Rattle.std.proofs.Common.{◌≡◌, take}
use Rattle.unit_model.specs.Holding.{IsHeldRight}
use Rattle.unit_model.specs.Running.{AllEnabled, after_steps}
use Rattle.unit_model.proofs.steps.run_core.Given as goal

abbrev pub invariant-loop-i : goal.invariant-loop-i
invariant-loop-i l = record {
  enabled : AllEnabled l.fn.core (take l.i l.steps);
  held : IsHeldRight l.fn.core → IsHeldRight l.core;
  done : l.core ≡ after_steps l.fn.core (take l.i l.steps);
}
