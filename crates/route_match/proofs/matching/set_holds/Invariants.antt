use Rattle.std.proofs.Common.{◌≡◌, drop}
use Rattle.route_match.specs.Matches.{set_holds}
use Rattle.route_match.specs.Source.{values_of, test_of}
use Rattle.route_match.proofs.matching.set_holds.Given as goal

abbrev pub invariant-loop-named : goal.invariant-loop-named
invariant-loop-named l = set_holds (test_of l.source) (values_of l.source) l.set ≡ set_holds (test_of l.source) (values_of l.source) (drop l.named-index l.set)
