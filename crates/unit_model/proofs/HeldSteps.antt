-- All stays held right by each step.
use Rattle.unit_model.proofs.HeldItemSteps.{held_draw, held_abandon, held_get, held_pop, held_push, held_give, held_set_run, held_set_part}
use Rattle.unit_model.proofs.HeldRunSteps.{held_claim, held_release, held_open, held_arm, held_settle}
use Rattle.std.proofs.Common.{List, [], ◌∷◌}
use Rattle.unit_model.specs.Effects.{after_step}
use Rattle.unit_model.specs.Holding.{IsHeldRight}
use Rattle.unit_model.specs.Running.{Enabled, AllEnabled, after_steps}
use Rattle.unit_model.specs.declared.machine.Core.{Core}
use Rattle.unit_model.specs.declared.machine.Step.{Step}
use Rattle.unit_model.specs.declared.machine.Step.TheVariants.{Draw, Claim, Release, Open, GetItem, SetRun, SetPart, Arm, Push, Pop, Settle, GiveItem, Abandon}

pub step_holds_right : (core : Core) (step : Step) → IsHeldRight core → Enabled core step → IsHeldRight (after_step core step)
step_holds_right core (Draw seat stream) held met = held_draw core seat stream held met
step_holds_right core (Claim seat segment chunk) held met = held_claim core seat segment chunk held met
step_holds_right core (Release seat segment chunk) held met = held_release core seat segment chunk held met
step_holds_right core (Open seat count) held met = held_open core seat count held met
step_holds_right core (GetItem seat queue item place) held met = held_get core seat queue item place held met
step_holds_right core (SetRun seat queue item run) held met = held_set_run core seat queue item run held met
step_holds_right core (SetPart seat queue item part) held met = held_set_part core seat queue item part held met
step_holds_right core (Arm seat queue item stream) held met = held_arm core seat queue item stream held met
step_holds_right core (Push seat queue item place) held met = held_push core seat queue item place held met
step_holds_right core (Pop seat queue item place) held met = held_pop core seat queue item place held met
step_holds_right core (Settle seat queue item stream) held met = held_settle core seat queue item stream held met
step_holds_right core (GiveItem seat queue item place) held met = held_give core seat queue item place held met
step_holds_right core (Abandon seat stream) held met = held_abandon core seat stream held met

-- and by every list of steps
pub steps_hold_right : (core : Core) (steps : List Step) → IsHeldRight core → AllEnabled core steps → IsHeldRight (after_steps core steps)
steps_hold_right core [] held enabled = held
steps_hold_right core (step ∷ steps) held enabled = steps_hold_right (after_step core step) steps (step_holds_right core step held enabled.0) enabled.1
