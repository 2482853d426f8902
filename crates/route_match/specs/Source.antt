-- Where the values of names come from.
use Rattle.std.specs.Prelude.{List}
use Rattle.path_normal.specs.Pairs.{arguments_of, cookies_of}
use Rattle.pattern_text.specs.TextPattern.{list_matches, list_matches_ignoring_case}
use Rattle.unit_types.specs.declared.field.Field.{Field}
use Rattle.route_match.specs.declared.matching.Source.{Source}
use Rattle.route_match.specs.declared.matching.Source.TheVariants.{Arguments, Cookies, Headers}
use Rattle.route_match.specs.Matches.{Test}

-- the names with their values
abbrev pub values_of : Source → List Field
values_of (Arguments query) = arguments_of query.now
values_of (Cookies fields) = cookies_of fields.now
values_of (Headers fields) = fields.now

-- how the patterns are compared with a value
abbrev pub test_of : Source → Test
test_of (Arguments query) = list_matches
test_of (Cookies fields) = list_matches
test_of (Headers fields) = list_matches_ignoring_case
