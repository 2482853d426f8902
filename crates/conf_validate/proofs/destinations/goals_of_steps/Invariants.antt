use Rattle.std.proofs.Common.{◌≡◌, map, take}
use Rattle.conf_validate.specs.Configuration.{action_goal_among}
use Rattle.conf_validate.proofs.destinations.goals_of_steps.Given as goal

abbrev pub invariant-loop-step : goal.invariant-loop-step
invariant-loop-step l = l.goals.items ≡ map (λ x. action_goal_among l.destinations x.action) (take l.step-index l.steps)
