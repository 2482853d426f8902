use Rattle.std.proofs.Common.{◌≡◌, ◌++◌}
use Rattle.path_normal.specs.Pairs.{arguments_of}
use Rattle.path_normal.specs.PairsLeft.{arguments_left}
use Rattle.path_normal.proofs.pairs.arguments.Given as goal

abbrev pub invariant-loop-pair : goal.invariant-loop-pair
invariant-loop-pair l = l.list.items ++ arguments_left l.pair-iterator ≡ arguments_of l.query
