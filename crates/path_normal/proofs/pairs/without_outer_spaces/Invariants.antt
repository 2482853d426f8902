use Rattle.std.proofs.Common.{◌≡◌, length}
use Rattle.path_normal.specs.Pairs.{without_front_spaces}
use Rattle.path_normal.proofs.pairs.without_outer_spaces.Given as goal

abbrev pub invariant-loop-text : goal.invariant-loop-text
invariant-loop-text l = without_front_spaces l.text ≡ without_front_spaces l.fn.text

abbrev pub decreases-loop-text : goal.decreases-loop-text
decreases-loop-text l = length l.text
