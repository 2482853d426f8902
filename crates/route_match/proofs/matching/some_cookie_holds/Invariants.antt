use Rattle.std.proofs.Common.{◌≡◌}
use Rattle.path_normal.specs.Pairs.{cookies_of}
use Rattle.path_normal.specs.PairsLeft.{cookies_left}
use Rattle.pattern_text.specs.TextPattern.{list_matches}
use Rattle.route_match.specs.Matches.{some_value_holds}
use Rattle.route_match.proofs.matching.some_cookie_holds.Given as goal

abbrev pub invariant-loop-cookie : goal.invariant-loop-cookie
invariant-loop-cookie l = some_value_holds list_matches (cookies_of l.fields) l.named ≡ some_value_holds list_matches (cookies_left l.cookie-iterator) l.named
