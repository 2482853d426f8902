-- What a step answers, and what a list of steps does.
use Rattle.std.specs.Prelude.{◌≡◌, List, [], ◌∷◌, Option, Some, None}
use Rattle.unit_model.specs.Conditions.{first_unmet}
use Rattle.unit_model.specs.Effects.{after_step}
use Rattle.unit_model.specs.declared.machine.Core.{Core}
use Rattle.unit_model.specs.declared.machine.Step.{Step}
use Rattle.unit_model.specs.declared.machine.StepFault.{StepFault}
use Rattle.unit_model.specs.declared.machine.StepFault.TheVariants.{NotEnabled, Memory}
use Rattle.unit_model.specs.declared.machine.Unmet.{Unmet}

-- the step is enabled: none of its conditions fails
abbrev pub Enabled : Core → Step → Type 0
Enabled core step = first_unmet core step ≡ None

-- the fault of a step whose first unmet condition is this: that condition, and want of memory where there is none
abbrev pub IsFaultOf : Option Unmet → StepFault → Type 0
IsFaultOf unmet (NotEnabled rule want found) =
    unmet ≡ Some (record { rule = rule; want = want; found = found })
IsFaultOf unmet Memory = unmet ≡ None

-- the core after these steps
abbrev pub after_steps : Core → List Step → Core
after_steps core [] = core
after_steps core (step ∷ steps) = after_steps (after_step core step) steps

-- each of the steps is enabled in its turn
abbrev pub AllEnabled : Core → List Step → Type 0
AllEnabled core [] = Unit {0}
AllEnabled core (step ∷ steps) = Enabled core step × AllEnabled (after_step core step) steps
