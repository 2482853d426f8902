use Rattle.std.proofs.Common.{◌≡◌, ◌≤◌, ◌+◌, ◌-◌, drop, take}
use Rattle.route_match.specs.Target.{step_taken, first_matching}
use Rattle.route_match.proofs.walk.step_taken.Given as goal

abbrev pub invariant-loop-at : goal.invariant-loop-at
invariant-loop-at l = record {
  within : l.at ≤ l.count;
  left : step_taken l.conf l.request l.first l.count ≡ first_matching l.request (l.first + l.at) (take (l.count - l.at) (drop l.at l.steps));
}
