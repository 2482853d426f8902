use Rattle.std.proofs.Common.{◌≡◌, drop}
use Rattle.route_match.specs.Matches.{some_set_holds}
use Rattle.route_match.specs.Source.{values_of, test_of}
use Rattle.route_match.proofs.matching.some_set_holds.Given as goal

abbrev pub invariant-loop-set : goal.invariant-loop-set
invariant-loop-set l = some_set_holds (test_of l.source) (values_of l.source) l.sets ≡ some_set_holds (test_of l.source) (values_of l.source) (drop l.set-index l.sets)
