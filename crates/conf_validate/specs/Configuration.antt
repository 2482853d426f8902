-- What a valid document says.
use Rattle.std.specs.Prelude.{ℕ, suc, ◌+◌, ◌^◌, ◌==◌, nat_lt, nat_le, List, [], ◌∷◌, ◌++◌, length, map, codes, Bool, true, false, Option, Some, None, option_and_then, option_map, slice_get, if◌then◌else◌}
use Rattle.std.specs.List.{flat_map, list_any}
use Rattle.std.specs.Option.{option_to_list, unwrap_or}
use Rattle.std.specs.Str.{bytes_eq, str_to_ascii_lowercase}
use Rattle.unit_types.specs.Limits.{default_content_limit}
use Rattle.unit_types.specs.Names.{index_of_name}
use Rattle.pattern_addr.specs.AddressPattern.{AddressPattern, address_pattern_of}
use Rattle.serde_json.specs.Data.{Num, unsigned, negative, float, Data, null, boolean, number, string, array, object, Items, no_items, item, Members, no_members, member}
use Rattle.serde_json.specs.Find.{get, as_str}
use Rattle.conf_tree.specs.View.{Named}
use Rattle.conf_validate.specs.declared.conf.Action.{Action}
use Rattle.conf_validate.specs.declared.conf.Action.TheVariants.{Pass, Return}
use Rattle.conf_validate.specs.declared.conf.Application.{Application}
use Rattle.conf_validate.specs.declared.conf.Destination.{Destination}
use Rattle.conf_validate.specs.declared.conf.Goal.{Goal}
use Rattle.conf_validate.specs.declared.conf.Goal.TheVariants as goal
use Rattle.conf_validate.specs.declared.conf.Listener.{Listener}
use Rattle.conf_validate.specs.declared.conf.Step.{Step}
use Rattle.conf_validate.specs.declared.matching.Match.{Match}
use Rattle.conf_validate.specs.declared.matching.NamedPatterns.{NamedPatterns}

-- a configuration: its applications and its steps by their index, its listeners, what passes can name, and what it sets
pub record Configuration : Type 0 where
  pub applications : List Application
  pub listeners : List Listener
  pub destinations : List Destination
  pub steps : List Step
  pub max_body : ℕ
  pub log_format : Option (List ℕ)

-- ---- parts of a value

-- the member of this name of a value that is there
abbrev pub part : List ℕ → Option Data → Option Data
part name value = option_and_then (get name) value

abbrev pub text_in : Option Data → Option (List ℕ)
text_in value = option_and_then as_str value

abbrev pub word : Num → Option ℕ
word (unsigned n) = if nat_lt n (2 ^ 64) then Some n else None
word (negative z) = None
word (float x) = None

abbrev pub as_word : Data → Option ℕ
as_word null = None
as_word (boolean b) = None
as_word (number n) = word n
as_word (string s) = None
as_word (array ds) = None
as_word (object ms) = None

abbrev pub number_in : Option Data → Option ℕ
number_in value = option_and_then as_word value

abbrev pub items_list : Items → List Data
items_list no_items = []
items_list (item d ds) = d ∷ items_list ds

abbrev pub values_list : Members → List Data
values_list no_members = []
values_list (member k d ms) = d ∷ values_list ms

-- the items of an array
abbrev pub items_of : Data → List Data
items_of null = []
items_of (boolean b) = []
items_of (number n) = []
items_of (string s) = []
items_of (array ds) = items_list ds
items_of (object ms) = []

-- the members of an object, each with its name, in ascending byte order of the names
abbrev pub members_list : Members → List Named
members_list no_members = []
members_list (member k d ms) = (k, d) ∷ members_list ms

abbrev pub members_of : Data → List Named
members_of null = []
members_of (boolean b) = []
members_of (number n) = []
members_of (string s) = []
members_of (array ds) = []
members_of (object ms) = members_list ms

abbrev pub list_in : {A : Type 0} → (Data → List A) → Option Data → List A
list_in f None = []
list_in f (Some d) = f d

-- the members of the member of this name
abbrev pub members_in : List ℕ → Data → List Named
members_in name value = list_in members_of (get name value)

-- ---- applications, by their index in ascending byte order of their names

abbrev pub application_of : Named → Application
application_of m = record {
  name = m.0;
  handler = unwrap_or (text_in (get (codes "executable") m.1)) [];
  timeout = number_in (part (codes "timeout") (get (codes "limits") m.1));
}

abbrev pub applications_of : Data → List Application
applications_of document = map application_of (members_in (codes "applications") document)

-- ---- listeners, by their index in ascending byte order of their names

abbrev pub listener_of : Named → Listener
listener_of m = record { name = m.0; pass = unwrap_or (text_in (get (codes "pass") m.1)) [] }

abbrev pub listeners_of : Data → List Listener
listeners_of document = map listener_of (members_in (codes "listeners") document)

-- ---- steps, by their index: those of one route after those of another, in ascending byte order of the routes' names

abbrev pub steps_of_routes : Data → List Data
steps_of_routes null = []
steps_of_routes (boolean b) = []
steps_of_routes (number n) = []
steps_of_routes (string s) = []
steps_of_routes (array ds) = items_list ds
steps_of_routes (object ms) = flat_map items_of (values_list ms)

-- the header fields that are changed, each with its new text or with null, in ascending byte order of their names
abbrev pub changes_list : Members → List (List ℕ × Option (List ℕ))
changes_list no_members = []
changes_list (member k d ms) = (k, as_str d) ∷ changes_list ms

abbrev pub changes_of : Data → List (List ℕ × Option (List ℕ))
changes_of null = []
changes_of (boolean b) = []
changes_of (number n) = []
changes_of (string s) = []
changes_of (array ds) = []
changes_of (object ms) = changes_list ms

abbrev pub changes_in : Option Data → List (List ℕ × Option (List ℕ))
changes_in None = []
changes_in (Some d) = changes_of d

-- ---- what a match asks of a request

abbrev pub text_or_nil : Data → List ℕ
text_or_nil d = unwrap_or (as_str d) []

-- one text pattern, or a list of them
abbrev pub texts_of : Data → List (List ℕ)
texts_of null = []
texts_of (boolean b) = []
texts_of (number n) = []
texts_of (string s) = s ∷ []
texts_of (array ds) = map text_or_nil (items_list ds)
texts_of (object ms) = []

abbrev pub address_of : List ℕ → List AddressPattern
address_of text = option_to_list (address_pattern_of text)

-- one address pattern, or a list of them
abbrev pub addresses_of : Data → List AddressPattern
addresses_of null = []
addresses_of (boolean b) = []
addresses_of (number n) = []
addresses_of (string s) = address_of s
addresses_of (array ds) = flat_map (λ d. address_of (text_or_nil d)) (items_list ds)
addresses_of (object ms) = []

-- patterns by name; the names of header fields in lower case
abbrev pub named : Bool → List ℕ → Data → NamedPatterns
named lower name d = record { name = (if lower then str_to_ascii_lowercase name else name); patterns = texts_of d }

abbrev pub named_list : Bool → Members → List NamedPatterns
named_list lower no_members = []
named_list lower (member k d ms) = named lower k d ∷ named_list lower ms

abbrev pub named_of : Bool → Data → List NamedPatterns
named_of lower null = []
named_of lower (boolean b) = []
named_of lower (number n) = []
named_of lower (string s) = []
named_of lower (array ds) = []
named_of lower (object ms) = named_list lower ms

-- one object of names, or a list of them
abbrev pub sets_of : Bool → Data → List (List NamedPatterns)
sets_of lower null = []
sets_of lower (boolean b) = []
sets_of lower (number n) = []
sets_of lower (string s) = []
sets_of lower (array ds) = map (named_of lower) (items_list ds)
sets_of lower (object ms) = named_list lower ms ∷ []

-- the members of a match; what isn't there asks nothing
abbrev pub match_of : Option Data → Match
match_of value = record {
  uri = option_map texts_of (part (codes "uri") value);
  host = option_map texts_of (part (codes "host") value);
  method = option_map texts_of (part (codes "method") value);
  scheme = option_map texts_of (part (codes "scheme") value);
  query = option_map texts_of (part (codes "query") value);
  source = option_map addresses_of (part (codes "source") value);
  destination = option_map addresses_of (part (codes "destination") value);
  arguments = option_map (sets_of false) (part (codes "arguments") value);
  cookies = option_map (sets_of false) (part (codes "cookies") value);
  headers = option_map (sets_of true) (part (codes "headers") value);
}

-- a status of at most three digits; a valid document has no other
abbrev pub status_of : Option ℕ → ℕ
status_of None = 0
status_of (Some n) = if nat_le n 999 then n else 0

-- an action with this pass, or with this status where it has none
abbrev pub action_with : Option (List ℕ) → Option ℕ → Action
action_with (Some pass) status = Pass pass
action_with None status = Return (status_of status)

abbrev pub action_of : Option Data → Action
action_of value = action_with (text_in (part (codes "pass") value)) (number_in (part (codes "return") value))

abbrev pub step_of : Data → Step
step_of d = record {
  conditions = match_of (get (codes "match") d);
  action = action_of (get (codes "action") d);
  location = text_in (part (codes "location") (get (codes "action") d));
  rewrite = text_in (part (codes "rewrite") (get (codes "action") d));
  changes = changes_in (part (codes "response_headers") (get (codes "action") d));
}

abbrev pub steps_of : Data → List Step
steps_of document = map step_of (list_in steps_of_routes (get (codes "routes") document))

-- ---- what a pass can name, in ascending byte order of the names

-- each application, the first of them with this index
abbrev pub application_destinations : ℕ → List Named → List Destination
application_destinations app [] = []
application_destinations app (m ∷ ms) =
    record { name = codes "applications/" ++ m.0; goal = goal.Application app } ∷ application_destinations (suc app) ms

-- each route, the first of them with its steps from this index on
abbrev pub route_destinations : ℕ → List Named → List Destination
route_destinations first [] = []
route_destinations first (m ∷ ms) =
    record { name = codes "routes/" ++ m.0; goal = goal.Route first (length (items_of m.1)) }
    ∷ route_destinations (first + length (items_of m.1)) ms

-- the routes as one, or each by its name
abbrev pub destinations_of_routes : Data → List Destination
destinations_of_routes null = []
destinations_of_routes (boolean b) = []
destinations_of_routes (number n) = []
destinations_of_routes (string s) = []
destinations_of_routes (array ds) =
    record { name = codes "routes"; goal = goal.Route 0 (length (items_list ds)) } ∷ []
destinations_of_routes (object ms) = route_destinations 0 (members_list ms)

abbrev pub destinations_of : Data → List Destination
destinations_of document =
    application_destinations 0 (members_in (codes "applications") document)
    ++ list_in destinations_of_routes (get (codes "routes") document)

-- ---- settings

-- the largest content of a request, the usual one where the document says nothing
abbrev pub max_body_of : Data → ℕ
max_body_of document =
    unwrap_or (number_in (part (codes "max_body_size") (part (codes "http") (get (codes "settings") document)))) default_content_limit

abbrev pub default_format : List ℕ
default_format = codes "$remote_addr \"$request_line\" $status $body_bytes_sent \"$header_referer\" \"$header_user_agent\""

-- the format of a log, if there is one
abbrev pub format_of : Option Data → Option (List ℕ)
format_of None = None
format_of (Some log) = Some (unwrap_or (text_in (get (codes "format") log)) default_format)

-- ---- the whole

abbrev pub configuration_of : Data → Configuration
configuration_of document = record {
  applications = applications_of document;
  listeners = listeners_of document;
  destinations = destinations_of document;
  steps = steps_of document;
  max_body = max_body_of document;
  log_format = format_of (get (codes "access_log") document);
}

-- ---- look-ups

-- the index of the listener of this name
abbrev pub listener_index : List ℕ → List Listener → Option ℕ
listener_index name listeners = index_of_name (λ (l : Listener). l.name) name listeners

-- where the destination of this name leads
abbrev pub goal_named : List ℕ → List Destination → Option Goal
goal_named name [] = None
goal_named name (d ∷ ds) = if bytes_eq d.name name then Some d.goal else goal_named name ds

-- where a pass leads whose text has no `$`
abbrev pub plain_goal_among : List Destination → List ℕ → Option Goal
plain_goal_among destinations text = if list_any (λ b. b == 36) text then None else goal_named text destinations

abbrev pub plain_goal : Configuration → List ℕ → Option Goal
plain_goal conf text = plain_goal_among conf.destinations text

-- where the pass of an action leads, if it has one without `$`
abbrev pub action_goal_among : List Destination → Action → Option Goal
action_goal_among destinations (Pass text) = plain_goal_among destinations text
action_goal_among destinations (Return status) = None

abbrev pub action_goal : Configuration → Action → Option Goal
action_goal conf action = action_goal_among conf.destinations action

-- the name of the handler of the application of this index
abbrev pub handler_at : Configuration → ℕ → Option (List ℕ)
handler_at conf app = slice_get (map (λ a. a.handler) conf.applications) app

-- the texts of the `location` and the `rewrite` of the step of this index
abbrev pub location_at : Configuration → ℕ → Option (List ℕ)
location_at conf step = option_and_then (λ s. s.location) (slice_get conf.steps step)

abbrev pub rewrite_at : Configuration → ℕ → Option (List ℕ)
rewrite_at conf step = option_and_then (λ s. s.rewrite) (slice_get conf.steps step)

-- the changes of a step, none where there is no such step
abbrev pub changes_at : Option Step → List (List ℕ × Option (List ℕ))
changes_at None = []
changes_at (Some step) = step.changes
