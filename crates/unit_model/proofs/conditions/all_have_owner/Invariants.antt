use Rattle.std.proofs.Common.{◌≡◌, ◌+◌, ◌-◌}
use Rattle.unit_model.specs.Conditions.{all_have_owner}
use Rattle.unit_model.proofs.conditions.all_have_owner.Given as goal

abbrev pub invariant-loop-i : goal.invariant-loop-i
invariant-loop-i g l = all_have_owner (g.L.Looks.core l.looks) l.code l.number l.count ≡ all_have_owner (g.L.Looks.core l.looks) l.code (l.number + l.i) (l.count - l.i)
