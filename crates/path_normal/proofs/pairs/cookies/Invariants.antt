use Rattle.std.proofs.Common.{◌≡◌, ◌++◌}
use Rattle.path_normal.specs.Pairs.{cookies_of}
use Rattle.path_normal.specs.PairsLeft.{cookies_left}
use Rattle.path_normal.proofs.pairs.cookies.Given as goal

abbrev pub invariant-loop-pair : goal.invariant-loop-pair
invariant-loop-pair l = l.list.items ++ cookies_left l.pair-iterator ≡ cookies_of l.fields
