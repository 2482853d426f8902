use Rattle.std.proofs.Common.{◌≡◌}
use Rattle.path_normal.specs.PairsLeft.{arguments_left}
use Rattle.path_normal.proofs.PathLemmas.{text_length}
use Rattle.path_normal.proofs.pairs.QueryArgumentsIterator.next.Given as goal

abbrev pub invariant-loop-self : goal.invariant-loop-self
invariant-loop-self l = arguments_left l.self ≡ arguments_left l.fn.self

abbrev pub decreases-loop-self : goal.decreases-loop-self
decreases-loop-self l = text_length l.self.rest
