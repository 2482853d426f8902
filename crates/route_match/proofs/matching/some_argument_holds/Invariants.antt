use Rattle.std.proofs.Common.{◌≡◌}
use Rattle.path_normal.specs.Pairs.{arguments_of}
use Rattle.path_normal.specs.PairsLeft.{arguments_left}
use Rattle.pattern_text.specs.TextPattern.{list_matches}
use Rattle.route_match.specs.Matches.{some_value_holds}
use Rattle.route_match.proofs.matching.some_argument_holds.Given as goal

abbrev pub invariant-loop-pair : goal.invariant-loop-pair
invariant-loop-pair l = some_value_holds list_matches (arguments_of l.query) l.named ≡ some_value_holds list_matches (arguments_left l.pair-iterator) l.named
