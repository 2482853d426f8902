use Rattle.std.proofs.Common.{◌≡◌, length}
use Rattle.http_front.specs.Target.{has_broken_escape}
use Rattle.http_front.proofs.target.has_broken_escape.Given as goal

-- no escape in what is passed is broken
abbrev pub invariant-loop-rest : goal.invariant-loop-rest
invariant-loop-rest l = has_broken_escape l.rest ≡ has_broken_escape l.fn.path

abbrev pub decreases-loop-rest : goal.decreases-loop-rest
decreases-loop-rest l = length l.rest
