use Rattle.std.proofs.Common.{◌≡◌, map, take}
use Rattle.conf_validate.specs.Configuration.{plain_goal_among}
use Rattle.conf_validate.proofs.destinations.goals_of_listeners.Given as goal

abbrev pub invariant-loop-listener : goal.invariant-loop-listener
invariant-loop-listener l = l.goals.items ≡ map (λ x. plain_goal_among l.destinations x.pass) (take l.listener-index l.listeners)
