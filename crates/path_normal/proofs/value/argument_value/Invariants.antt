use Rattle.std.proofs.Common.{◌≡◌}
use Rattle.path_normal.specs.Pairs.{arguments_of}
use Rattle.path_normal.specs.PairsLeft.{arguments_left}
use Rattle.path_normal.specs.Variables.{first_value}
use Rattle.path_normal.proofs.value.argument_value.Given as goal

abbrev pub invariant-loop-pair : goal.invariant-loop-pair
invariant-loop-pair l = first_value l.name (arguments_of l.query) ≡ first_value l.name (arguments_left l.pair-iterator)
