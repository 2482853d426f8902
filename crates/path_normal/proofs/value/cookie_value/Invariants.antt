use Rattle.std.proofs.Common.{◌≡◌}
use Rattle.path_normal.specs.Pairs.{cookies_of}
use Rattle.path_normal.specs.PairsLeft.{cookies_left}
use Rattle.path_normal.specs.Variables.{first_value}
use Rattle.path_normal.proofs.value.cookie_value.Given as goal

abbrev pub invariant-loop-cookie : goal.invariant-loop-cookie
invariant-loop-cookie l = first_value l.name (cookies_of l.fields) ≡ first_value l.name (cookies_left l.cookie-iterator)
