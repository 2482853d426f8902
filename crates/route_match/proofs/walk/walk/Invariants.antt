use Rattle.std.proofs.Common.{◌≡◌, ◌-◌, None}
use Rattle.route_match.specs.Target.{walk, goal_of}
use Rattle.route_match.proofs.walk.walk.Given as goal

abbrev pub invariant-loop : goal.invariant-loop
invariant-loop l =
    walk (goal_of l.conf l.request) l.conf l.request 255 None l.fn.first ≡ walk (goal_of l.conf l.request) l.conf l.request (255 - l.counter) l.step l.goal
