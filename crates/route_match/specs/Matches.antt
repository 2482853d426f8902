-- Which requests meet the conditions of a step.
use Rattle.std.specs.Prelude.{ℕ, Bool, true, ◌&&◌, List, codes, Option, Some, None}
use Rattle.std.specs.List.{list_any, list_all}
use Rattle.std.specs.Str.{bytes_eq}
use Rattle.pattern_addr.specs.AddressPattern as address
use Rattle.pattern_text.specs.TextPattern.{list_matches, list_matches_ignoring_case}
use Rattle.path_normal.specs.Pairs.{arguments_of, cookies_of}
use Rattle.unit_types.specs.declared.field.Field.{Field}
use Rattle.unit_types.specs.declared.message.Request.{Request}
use Rattle.conf_validate.specs.declared.matching.Match.{Match}
use Rattle.conf_validate.specs.declared.matching.NamedPatterns.{NamedPatterns}

-- a member that isn't there asks nothing
abbrev pub holds_or_absent : {A : Type 0} → (A → Bool) → Option A → Bool
holds_or_absent test None = true
holds_or_absent test (Some asked) = test asked

-- whether a list of patterns matches a text: where case counts, or where it doesn't
abbrev pub Test : Type 0
Test = List (List ℕ) → List ℕ → Bool

-- the field has this name, and a value that the patterns match
abbrev pub value_holds : Test → NamedPatterns → Field → Bool
value_holds test named field = bytes_eq field.name named.name && test named.patterns field.value

-- the name has some value that its patterns match
abbrev pub some_value_holds : Test → List Field → NamedPatterns → Bool
some_value_holds test fields named = list_any (value_holds test named) fields

-- every name has some value that its patterns match
abbrev pub set_holds : Test → List Field → List NamedPatterns → Bool
set_holds test fields set = list_all (some_value_holds test fields) set

-- some set of names holds
abbrev pub some_set_holds : Test → List Field → List (List NamedPatterns) → Bool
some_set_holds test fields sets = list_any (set_holds test fields) sets

-- the path, the host and the query
abbrev pub target_matches : Match → Request → Bool
target_matches asked request =
    holds_or_absent (λ patterns. list_matches patterns request.path) asked.uri
    && holds_or_absent (λ patterns. list_matches_ignoring_case patterns request.host) asked.host
    && holds_or_absent (λ patterns. list_matches patterns request.query) asked.query

-- the method, and the scheme, which is `http`
abbrev pub method_matches : Match → Request → Bool
method_matches asked request =
    holds_or_absent (λ patterns. list_matches_ignoring_case patterns request.method) asked.method
    && holds_or_absent (λ patterns. list_matches_ignoring_case patterns (codes "http")) asked.scheme

-- the client's address, and the one at which the connection was accepted
abbrev pub addresses_match : Match → Request → Bool
addresses_match asked request =
    holds_or_absent (λ patterns. address.list_matches patterns request.from) asked.source
    && holds_or_absent (λ patterns. address.list_matches patterns request.to) asked.destination

-- the arguments, the cookies and the fields
abbrev pub names_match : Match → Request → Bool
names_match asked request =
    holds_or_absent (some_set_holds list_matches (arguments_of request.query)) asked.arguments
    && holds_or_absent (some_set_holds list_matches (cookies_of request.fields)) asked.cookies
    && holds_or_absent (some_set_holds list_matches_ignoring_case request.fields) asked.headers

-- each member that is there holds of the request
abbrev pub request_matches : Match → Request → Bool
request_matches asked request =
    target_matches asked request
    && method_matches asked request
    && addresses_match asked request
    && names_match asked request
