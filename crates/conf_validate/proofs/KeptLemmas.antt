-- What a configuration keeps whose document breaks no rule.
use Rattle.std.proofs.Common.{◌≡◌, ℕ, ◌≤◌, Bool, true, false, not, ◌||◌, ◌&&◌, nat_le, List, [], ◌∷◌, ◌++◌, map, codes, Option, Some, None, IfSome, IsTrue, All, if◌then◌else◌, refl, subst, arith}
use Rattle.std.proofs.lemmas.Bool.{leb-true}
use Rattle.std.proofs.lemmas.List.Elements.{All-cons, All-head, All-map, All-nil, All-tail}
use Rattle.std.proofs.lemmas.Slice.Eq.{bytes_eq-Decides}
use Rattle.std.specs.List.{list_any}
use Rattle.std.specs.Option.{unwrap_or}
use Rattle.std.specs.Str.{bytes_eq}
use Rattle.serde_json.specs.Data.{Data, null, boolean, number, string, array, object, Members, no_members, member}
use Rattle.serde_json.specs.Find.{get, as_str}
use Rattle.conf_tree.specs.Document.{IsDocument}
use Rattle.conf_validate.specs.Configuration.{action_with, application_of, changes_in, changes_list, configuration_of, default_format, format_of, list_in, listener_of, members_list, members_of, number_in, part, status_of, step_of, steps_of_routes, text_in, values_list}
use Rattle.conf_validate.specs.Forms.{is_header_name, is_again, is_listener_name, is_location, is_log_format, is_rewrite, is_target_name}
use Rattle.conf_validate.specs.Kept.{IsKept, IsKeptAction, IsKeptApplication, IsKeptStep, IsPassText, IsShort}
use Rattle.conf_validate.specs.Table.{Entry, entries_of, place_among, row_of, whole_table}
use Rattle.conf_validate.specs.Valid.{Context, fault_of, members_fault}
use Rattle.conf_validate.specs.declared.conf.Listener.{Listener}
use Rattle.conf_validate.specs.declared.place.Form.TheVariants as form
use Rattle.conf_validate.specs.declared.place.Names.TheVariants as names
use Rattle.conf_validate.specs.declared.place.Place.TheVariants as place
use Rattle.conf_validate.proofs.CleanLemmas.{IsClean, NoFault, all_weaker, array_clean, below_none, clean_some, or_left, or_right, flat_clean, form_kept, get_clean, handler_kept, members_clean, number_kept, object_clean, part_clean, placed, text_kept, values_clean}
use Rattle.conf_validate.proofs.ChangeLemmas.{changes_list_named, part_changes_ascend, steps_documents}
use Rattle.conf_validate.proofs.DestinationLemmas.{IsTree, application_names_ascend, destination_names_ascend, destinations_there, get_document, listener_names_ascend}
use Rattle.conf_validate.proofs.MatchLemmas.{match_kept}

-- ---- the rows that are used

fixed-Whole : (row_of place.Whole).members ≡ Some names.Fixed
unfolding row_of
fixed-Whole = refl

fixed-Step : (row_of place.Step).members ≡ Some names.Fixed
unfolding row_of
fixed-Step = refl

fixed-Action : (row_of place.Action).members ≡ Some names.Fixed
unfolding row_of
fixed-Action = refl

fixed-Application : (row_of place.Application).members ≡ Some names.Fixed
unfolding row_of
fixed-Application = refl

fixed-Listener : (row_of place.Listener).members ≡ Some names.Fixed
unfolding row_of
fixed-Listener = refl

fixed-Limits : (row_of place.Limits).members ≡ Some names.Fixed
unfolding row_of
fixed-Limits = refl

fixed-Settings : (row_of place.Settings).members ≡ Some names.Fixed
unfolding row_of
fixed-Settings = refl

fixed-Http : (row_of place.Http).members ≡ Some names.Fixed
unfolding row_of
fixed-Http = refl

fixed-AccessLog : (row_of place.AccessLog).members ≡ Some names.Fixed
unfolding row_of
fixed-AccessLog = refl

at-Whole-applications : place_among (codes "applications") (entries_of place.Whole) ≡ Some place.Applications
unfolding entries_of
at-Whole-applications = refl

at-Whole-listeners : place_among (codes "listeners") (entries_of place.Whole) ≡ Some place.Listeners
unfolding entries_of
at-Whole-listeners = refl

at-Listener-pass : place_among (codes "pass") (entries_of place.Listener) ≡ Some place.Pass
unfolding entries_of
at-Listener-pass = refl

at-Step-match : place_among (codes "match") (entries_of place.Step) ≡ Some place.Match
unfolding entries_of
at-Step-match = refl

at-Action-pass : place_among (codes "pass") (entries_of place.Action) ≡ Some place.Pass
unfolding entries_of
at-Action-pass = refl

at-Whole-routes : place_among (codes "routes") (entries_of place.Whole) ≡ Some place.Routes
unfolding entries_of
at-Whole-routes = refl

at-Whole-settings : place_among (codes "settings") (entries_of place.Whole) ≡ Some place.Settings
unfolding entries_of
at-Whole-settings = refl

at-Whole-access_log : place_among (codes "access_log") (entries_of place.Whole) ≡ Some place.AccessLog
unfolding entries_of
at-Whole-access_log = refl

at-Step-action : place_among (codes "action") (entries_of place.Step) ≡ Some place.Action
unfolding entries_of
at-Step-action = refl

at-Action-location : place_among (codes "location") (entries_of place.Action) ≡ Some place.Location
unfolding entries_of
at-Action-location = refl

at-Action-rewrite : place_among (codes "rewrite") (entries_of place.Action) ≡ Some place.Rewrite
unfolding entries_of
at-Action-rewrite = refl

at-Action-response_headers : place_among (codes "response_headers") (entries_of place.Action) ≡ Some place.ResponseHeaders
unfolding entries_of
at-Action-response_headers = refl

at-Application-executable : place_among (codes "executable") (entries_of place.Application) ≡ Some place.Executable
unfolding entries_of
at-Application-executable = refl

at-Application-limits : place_among (codes "limits") (entries_of place.Application) ≡ Some place.Limits
unfolding entries_of
at-Application-limits = refl

at-Limits-timeout : place_among (codes "timeout") (entries_of place.Limits) ≡ Some place.Timeout
unfolding entries_of
at-Limits-timeout = refl

at-Settings-http : place_among (codes "http") (entries_of place.Settings) ≡ Some place.Http
unfolding entries_of
at-Settings-http = refl

at-Http-max_body_size : place_among (codes "max_body_size") (entries_of place.Http) ≡ Some place.MaxBodySize
unfolding entries_of
at-Http-max_body_size = refl

at-AccessLog-format : place_among (codes "format") (entries_of place.AccessLog) ≡ Some place.Format
unfolding entries_of
at-AccessLog-format = refl

text-Pass : (row_of place.Pass).text ≡ Some form.Pass
unfolding row_of
text-Pass = refl

text-Location : (row_of place.Location).text ≡ Some form.Location
unfolding row_of
text-Location = refl

text-Rewrite : (row_of place.Rewrite).text ≡ Some form.Rewrite
unfolding row_of
text-Rewrite = refl

text-HeaderText : (row_of place.HeaderText).text ≡ Some form.HeaderText
unfolding row_of
text-HeaderText = refl

text-Executable : (row_of place.Executable).text ≡ Some form.Handler
unfolding row_of
text-Executable = refl

text-Format : (row_of place.Format).text ≡ Some form.Format
unfolding row_of
text-Format = refl

number-Timeout : (row_of place.Timeout).number ≡ Some (record { first = 1; last = 86400 })
unfolding row_of
number-Timeout = refl

number-MaxBodySize : (row_of place.MaxBodySize).number ≡ Some (record { first = 0; last = 10000000 })
unfolding row_of
number-MaxBodySize = refl

members-Listeners : (row_of place.Listeners).members ≡ Some (names.Listener place.Listener)
unfolding row_of
members-Listeners = refl

members-Applications : (row_of place.Applications).members ≡ Some (names.Target place.Application)
unfolding row_of
members-Applications = refl

members-ResponseHeaders : (row_of place.ResponseHeaders).members ≡ Some (names.Header place.HeaderText)
unfolding row_of
members-ResponseHeaders = refl

members-Routes : (row_of place.Routes).members ≡ Some (names.Target place.Steps)
unfolding row_of
members-Routes = refl

items-Routes : (row_of place.Routes).items ≡ Some place.Step
unfolding row_of
items-Routes = refl

items-Steps : (row_of place.Steps).items ≡ Some place.Step
unfolding row_of
items-Steps = refl

-- ---- applications

or_case : {P : Type 0} (a b : Bool) → (a || b) ≡ true → (a ≡ true → P) → (b ≡ true → P) → P
or_case true b h f g = f refl
or_case false b h f g = g h

named_short : (names : List (List ℕ)) (s : List ℕ) → All IsShort names → list_any (λ name. bytes_eq name s) names ≡ true → IsShort s
named_short [] s h e = absurd (cc e)
named_short (n ∷ ns) s h e =
    or_case (bytes_eq n s) (list_any (λ name. bytes_eq name s) ns) e
    (λ same. subst IsShort ((bytes_eq-Decides n s).0 same) (All-head IsShort n ns h))
    (λ rest. named_short ns s (All-tail IsShort n ns h) rest)

short_or_nil : (o : Option (List ℕ)) → IfSome o IsShort → IsShort (unwrap_or o [])
short_or_nil None h = omega arith
short_or_nil (Some s) h = h

application_kept : (c : Context) (k : List ℕ) (d : Data) → All IsShort c.handlers → NoFault c place.Application d → IsKeptApplication (application_of (k, d))
application_kept c k d short h = record {
  handler = short_or_nil (text_in (get (codes "executable") d)) (text_kept IsShort c place.Executable form.Handler (get (codes "executable") d) text-Executable (λ s e. named_short c.handlers s short (handler_kept c form.Handler s e)) (get_clean c place.Application place.Executable (codes "executable") d fixed-Application at-Application-executable h));
  timeout = number_kept c place.Timeout (record { first = 1; last = 86400 }) _ number-Timeout (part_clean c place.Limits place.Timeout (codes "timeout") (get (codes "limits") d) fixed-Limits at-Limits-timeout (get_clean c place.Application place.Limits (codes "limits") d fixed-Application at-Application-limits h));
}

applications_kept : (c : Context) (o : Option Data) → All IsShort c.handlers → IsClean c place.Applications o → All IsKeptApplication (map application_of (list_in members_of o))
applications_kept c None short h = All-nil IsKeptApplication
applications_kept c (Some null) short h = All-nil IsKeptApplication
applications_kept c (Some (boolean b)) short h = All-nil IsKeptApplication
applications_kept c (Some (number n)) short h = All-nil IsKeptApplication
applications_kept c (Some (string s)) short h = All-nil IsKeptApplication
applications_kept c (Some (array ds)) short h = All-nil IsKeptApplication
applications_kept c (Some (object ms)) short h =
    All-map IsKeptApplication application_of (members_list ms)
    (all_weaker (members_list ms) (λ m e. application_kept c m.0 m.1 short e) (members_clean c (entries_of place.Applications) (names.Target place.Application) place.Application (λ again k d f. placed c (is_target_name k) place.Application d f) [] ms (object_clean c place.Applications (names.Target place.Application) ms members-Applications (h (object ms) refl))))

-- ---- listeners

pass_or_nil : (o : Option (List ℕ)) → IfSome o IsPassText → IsPassText (unwrap_or o [])
pass_or_nil None h = refl
pass_or_nil (Some s) h = h

abbrev IsKeptListener : Listener → Type 0
IsKeptListener l = IsPassText l.pass

listener_kept : (c : Context) (k : List ℕ) (d : Data) → NoFault c place.Listener d → IsKeptListener (listener_of (k, d))
listener_kept c k d h =
    pass_or_nil (text_in (get (codes "pass") d)) (text_kept IsPassText c place.Pass form.Pass (get (codes "pass") d) text-Pass (λ s e. form_kept c form.Pass s e) (get_clean c place.Listener place.Pass (codes "pass") d fixed-Listener at-Listener-pass h))

listeners_kept : (c : Context) (o : Option Data) → IsClean c place.Listeners o → All IsKeptListener (map listener_of (list_in members_of o))
listeners_kept c None h = All-nil IsKeptListener
listeners_kept c (Some null) h = All-nil IsKeptListener
listeners_kept c (Some (boolean b)) h = All-nil IsKeptListener
listeners_kept c (Some (number n)) h = All-nil IsKeptListener
listeners_kept c (Some (string s)) h = All-nil IsKeptListener
listeners_kept c (Some (array ds)) h = All-nil IsKeptListener
listeners_kept c (Some (object ms)) h =
    All-map IsKeptListener listener_of (members_list ms)
    (all_weaker (members_list ms) (λ m e. listener_kept c m.0 m.1 e) (members_clean c (entries_of place.Listeners) (names.Listener place.Listener) place.Listener (λ again k d f. placed c (is_listener_name k) place.Listener d f) [] ms (object_clean c place.Listeners (names.Listener place.Listener) ms members-Listeners (h (object ms) refl))))

-- ---- steps

abbrev IsKeptChange : List ℕ × Option (List ℕ) → Type 0
IsKeptChange change = IfSome change.1 (λ text. IsTrue (is_location text))

changes_list_kept : (c : Context) (es : List Entry) (earlier : List (List ℕ)) (ms : Members) → members_fault whole_table c es (names.Header place.HeaderText) earlier ms ≡ None → All IsKeptChange (changes_list ms)
changes_list_kept c es earlier no_members h = All-nil IsKeptChange
changes_list_kept c es earlier (member k d ms) h =
    let clean : NoFault c place.HeaderText d = placed c (is_header_name k && not (is_again earlier k)) place.HeaderText d (below_none k _ (or_left _ _ h)) in
    All-cons IsKeptChange (k, as_str d) (changes_list ms)
    (text_kept (λ text. IsTrue (is_location text)) c place.HeaderText form.HeaderText (Some d) text-HeaderText (λ s e. form_kept c form.HeaderText s e) (clean_some c place.HeaderText d clean))
    (changes_list_kept c es (earlier ++ k ∷ []) ms (or_right _ _ h))

changes_kept : (c : Context) (o : Option Data) → IsClean c place.ResponseHeaders o → All IsKeptChange (changes_in o)
changes_kept c None h = All-nil IsKeptChange
changes_kept c (Some null) h = All-nil IsKeptChange
changes_kept c (Some (boolean b)) h = All-nil IsKeptChange
changes_kept c (Some (number n)) h = All-nil IsKeptChange
changes_kept c (Some (string s)) h = All-nil IsKeptChange
changes_kept c (Some (array ds)) h = All-nil IsKeptChange
changes_kept c (Some (object ms)) h = changes_list_kept c (entries_of place.ResponseHeaders) [] ms (object_clean c place.ResponseHeaders (names.Header place.HeaderText) ms members-ResponseHeaders (h (object ms) refl))

abbrev HasFieldName : List ℕ × Option (List ℕ) → Type 0
HasFieldName change = IsTrue (is_header_name change.0)

names_kept : (c : Context) (o : Option Data) → IsClean c place.ResponseHeaders o → All HasFieldName (changes_in o)
names_kept c None h = All-nil HasFieldName
names_kept c (Some null) h = All-nil HasFieldName
names_kept c (Some (boolean b)) h = All-nil HasFieldName
names_kept c (Some (number n)) h = All-nil HasFieldName
names_kept c (Some (string s)) h = All-nil HasFieldName
names_kept c (Some (array ds)) h = All-nil HasFieldName
names_kept c (Some (object ms)) h = changes_list_named c (entries_of place.ResponseHeaders) [] ms (object_clean c place.ResponseHeaders (names.Header place.HeaderText) ms members-ResponseHeaders (h (object ms) refl))

small_if : (n : ℕ) (b : Bool) → nat_le n 999 ≡ b → (if b then n else 0) ≤ 999
small_if n true h = leb-true _ _ h
small_if n false h = omega arith

status_small : (o : Option ℕ) → status_of o ≤ 999
status_small None = omega arith
status_small (Some n) = small_if n (nat_le n 999) refl

action_kept : (pass : Option (List ℕ)) (status : Option ℕ) → IfSome pass IsPassText → IsKeptAction (action_with pass status)
action_kept (Some s) status h = h
action_kept None status h = status_small status

step_kept : (c : Context) (d : Data) → IsDocument d → NoFault c place.Step d → IsKeptStep (step_of d)
step_kept c d tree h =
    let action = get_clean c place.Step place.Action (codes "action") d fixed-Step at-Step-action h in
    record {
      conditions = match_kept c (get (codes "match") d) (get_clean c place.Step place.Match (codes "match") d fixed-Step at-Step-match h);
      action = action_kept (text_in (part (codes "pass") (get (codes "action") d))) (number_in (part (codes "return") (get (codes "action") d))) (text_kept IsPassText c place.Pass form.Pass _ text-Pass (λ s e. form_kept c form.Pass s e) (part_clean c place.Action place.Pass (codes "pass") (get (codes "action") d) fixed-Action at-Action-pass action));
      location = text_kept (λ text. IsTrue (is_location text)) c place.Location form.Location _ text-Location (λ s e. form_kept c form.Location s e) (part_clean c place.Action place.Location (codes "location") (get (codes "action") d) fixed-Action at-Action-location action);
      rewrite = text_kept (λ text. IsTrue (is_rewrite text)) c place.Rewrite form.Rewrite _ text-Rewrite (λ s e. form_kept c form.Rewrite s e) (part_clean c place.Action place.Rewrite (codes "rewrite") (get (codes "action") d) fixed-Action at-Action-rewrite action);
      changes = changes_kept c (part (codes "response_headers") (get (codes "action") d)) (part_clean c place.Action place.ResponseHeaders (codes "response_headers") (get (codes "action") d) fixed-Action at-Action-response_headers action);
      field_names = names_kept c (part (codes "response_headers") (get (codes "action") d)) (part_clean c place.Action place.ResponseHeaders (codes "response_headers") (get (codes "action") d) fixed-Action at-Action-response_headers action);
      field_order = part_changes_ascend (codes "action") (codes "response_headers") d tree;
    }

routes_clean : (c : Context) (d : Data) → NoFault c place.Routes d → All (NoFault c place.Step) (steps_of_routes d)
routes_clean c null h = All-nil (NoFault c place.Step)
routes_clean c (boolean b) h = All-nil (NoFault c place.Step)
routes_clean c (number n) h = All-nil (NoFault c place.Step)
routes_clean c (string s) h = All-nil (NoFault c place.Step)
routes_clean c (array ds) h = array_clean c place.Routes place.Step ds items-Routes h
routes_clean c (object ms) h =
    flat_clean c place.Steps place.Step (values_list ms) items-Steps (values_clean c (entries_of place.Routes) place.Steps [] ms (object_clean c place.Routes (names.Target place.Steps) ms members-Routes h))

steps_kept : (c : Context) (o : Option Data) → IsTree o → IsClean c place.Routes o → All IsKeptStep (map step_of (list_in steps_of_routes o))
steps_kept c None tree h = All-nil IsKeptStep
steps_kept c (Some d) tree h =
    All-map IsKeptStep step_of (steps_of_routes d) (λ i other lt. step_kept c _ (steps_documents d (tree d refl) i other lt) (routes_clean c d (h d refl) i other lt))

-- ---- settings

body_kept : (o : Option ℕ) → IfSome o (λ n. (0 ≤ n) × (n ≤ 10000000)) → unwrap_or o 8388608 ≤ 10000000
body_kept None h = omega arith
body_kept (Some n) h = h.1

or_default : (o : Option (List ℕ)) → IfSome o (λ text. IsTrue (is_log_format text)) → IsTrue (is_log_format (unwrap_or o default_format))
or_default None h = refl
or_default (Some s) h = h

format_kept : (c : Context) (o : Option Data) → IsClean c place.AccessLog o → IfSome (format_of o) (λ text. IsTrue (is_log_format text))
format_kept c None h = tt
format_kept c (Some d) h =
    or_default (text_in (get (codes "format") d)) (text_kept (λ text. IsTrue (is_log_format text)) c place.Format form.Format (get (codes "format") d) text-Format (λ s e. form_kept c form.Format s e) (get_clean c place.AccessLog place.Format (codes "format") d fixed-AccessLog at-AccessLog-format (h d refl)))

-- ---- the whole

pub configuration_kept : (document : Data) (handlers : List (List ℕ)) → IsDocument document → All IsShort handlers → fault_of document handlers ≡ None → IsKept (configuration_of document)
configuration_kept document handlers tree short h =
    let c : Context = record { document = document; handlers = handlers } in
    record {
      applications = applications_kept c (get (codes "applications") document) short (get_clean c place.Whole place.Applications (codes "applications") document fixed-Whole at-Whole-applications h);
      application_names = application_names_ascend document tree;
      listeners = listeners_kept c (get (codes "listeners") document) (get_clean c place.Whole place.Listeners (codes "listeners") document fixed-Whole at-Whole-listeners h);
      listener_names = listener_names_ascend document tree;
      destinations = destinations_there document;
      destination_names = destination_names_ascend document tree;
      steps = steps_kept c (get (codes "routes") document) (λ d at. get_document (codes "routes") document d tree at) (get_clean c place.Whole place.Routes (codes "routes") document fixed-Whole at-Whole-routes h);
      max_body = body_kept _ (number_kept c place.MaxBodySize (record { first = 0; last = 10000000 }) _ number-MaxBodySize (part_clean c place.Http place.MaxBodySize (codes "max_body_size") (part (codes "http") (get (codes "settings") document)) fixed-Http at-Http-max_body_size (part_clean c place.Settings place.Http (codes "http") (get (codes "settings") document) fixed-Settings at-Settings-http (get_clean c place.Whole place.Settings (codes "settings") document fixed-Whole at-Whole-settings h))));
      log_format = format_kept c (get (codes "access_log") document) (get_clean c place.Whole place.AccessLog (codes "access_log") document fixed-Whole at-Whole-access_log h);
    }
