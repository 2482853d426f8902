use Rattle.std.proofs.Common.{◌≡◌, drop}
use Rattle.pattern_text.specs.TextPattern.{list_matches_ignoring_case}
use Rattle.route_match.specs.Matches.{some_value_holds}
use Rattle.route_match.proofs.matching.some_field_holds.Given as goal

abbrev pub invariant-loop-field : goal.invariant-loop-field
invariant-loop-field l = some_value_holds list_matches_ignoring_case l.fields l.named ≡ some_value_holds list_matches_ignoring_case (drop l.field-index l.fields) l.named
