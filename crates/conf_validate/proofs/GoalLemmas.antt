-- In a valid document each pass without `$` has its goal in the configuration, and each application its handler.
use Rattle.std.proofs.Common.{◌≡◌, ◌∙◌, ℕ, zero, suc, ◌+◌, ◌<◌, Bool, true, false, List, [], ◌∷◌, ◌++◌, length, map, get_or, codes, Option, Some, None, if◌then◌else◌, IfSome, IsTrue, All, Ordering, Less, Equal, Greater, refl, sym, ap, subst, arith}
use Rattle.std.proofs.lemmas.List.{map-append}
use Rattle.std.proofs.lemmas.List.Elements.{All-map, All-nil, Contains-append_left, Contains-append_right}
use Rattle.std.proofs.lemmas.Slice.Eq.{bytes_eq-Decides}
use Rattle.std.specs.Cmp.Lexicographic.{slice_cmp}
use Rattle.std.specs.List.{Contains}
use Rattle.std.specs.Option.{is_some, unwrap_or}
use Rattle.std.specs.Ordering.{nat_cmp, match_ordering}
use Rattle.std.specs.Str.{bytes_eq}
use Rattle.serde_json.specs.Data.{Data, null, boolean, number, string, array, object, Members, no_members, member}
use Rattle.serde_json.specs.Find.{get, get_member}
use Rattle.conf_validate.specs.Configuration.{application_destinations, application_of, configuration_of, destinations_of, destinations_of_routes, goal_named, items_of, list_in, members_in, members_list, members_of, plain_goal, route_destinations, text_in}
use Rattle.conf_validate.specs.Laws.{AsksOnlyFor, HasGoal}
use Rattle.conf_validate.specs.Forms.{is_target_name}
use Rattle.conf_validate.specs.Plain.{Finds, HasNoDollar, a_route, an_application, passes_of, the_routes}
use Rattle.conf_validate.specs.Table.{entries_of}
use Rattle.conf_validate.specs.Valid.{Context, fault_of}
use Rattle.conf_validate.specs.declared.conf.Application.{Application}
use Rattle.conf_validate.specs.declared.conf.Destination.{Destination}
use Rattle.conf_validate.specs.declared.conf.Goal.{Goal}
use Rattle.conf_validate.specs.declared.place.Form.TheVariants as form
use Rattle.conf_validate.specs.declared.place.Names.TheVariants as names
use Rattle.conf_validate.specs.declared.place.Place.TheVariants as place
use Rattle.conf_validate.proofs.CleanLemmas.{IsClean, NoFault, all_weaker, get_clean, handler_kept, members_clean, object_clean, placed, text_kept}
use Rattle.conf_validate.proofs.MemberLemmas.{same_key}
use Rattle.conf_validate.proofs.PlainLemmas.{no_dollar}
use Rattle.conf_validate.proofs.PlainPassLemmas.{at-Application-executable, at-Whole-applications, context, executable_text, executable_there, finds_unless, fixed-Application, fixed-Whole, handler_there, members-Applications, part_member, text-Executable}

abbrev names_of : List Destination → List (List ℕ)
names_of ds = map (λ d. d.name) ds

-- ---- a name that is there has a goal

found_if : (b : Bool) (here : Goal) (rest : Option Goal) → IsTrue (is_some rest) → IsTrue (is_some (if b then Some here else rest))
found_if true here rest h = refl
found_if false here rest h = h

named_first : (b : Bool) (here : Goal) (rest : Option Goal) → b ≡ true → IsTrue (is_some (if b then Some here else rest))
named_first true here rest e = refl
named_first false here rest e = absurd (cc e)

goal_at : (name : List ℕ) (ds : List Destination) (i : ℕ) → i < length (names_of ds) → get_or (names_of ds) i name ≡ name → IsTrue (is_some (goal_named name ds))
goal_at name [] i lt e = absurd (omega (arith, lt))
goal_at name (d ∷ ds) zero lt e = named_first (bytes_eq d.name name) d.goal (goal_named name ds) ((bytes_eq-Decides d.name name).1 e)
goal_at name (d ∷ ds) (suc i) lt e = found_if (bytes_eq d.name name) d.goal (goal_named name ds) (goal_at name ds i (omega (arith, lt)) e)

has_goal : (name : List ℕ) (ds : List Destination) → Contains (names_of ds) name → IsTrue (is_some (goal_named name ds))
has_goal name ds there = goal_at name ds there.0 there.1 there.2

-- ---- the destinations of members

member_case : {P : Type 0} (o : Ordering) (a : Option Data) (e d : Data) → match_ordering o a (Some e) a ≡ Some d → (o ≡ Equal → P) → (a ≡ Some d → P) → P
member_case Less a e d h f g = g h
member_case Equal a e d h f g = f refl
member_case Greater a e d h f g = g h

first_name : (names : List (List ℕ)) (k l : List ℕ) → k ≡ l → Contains (k ∷ names) l
first_name names k l e = (0, omega arith, e)

later_name : (names : List (List ℕ)) (k l : List ℕ) → Contains names l → Contains (k ∷ names) l
later_name names k l h = Contains-append_right (k ∷ []) names l h

application_named : (name : List ℕ) (app : ℕ) (ms : Members) (d : Data) → get_member name ms ≡ Some d → Contains (names_of (application_destinations app (members_list ms))) (codes "applications/" ++ name)
application_named name app no_members d h = absurd (cc h)
application_named name app (member k e ms) d h =
    let rest = names_of (application_destinations (suc app) (members_list ms)) in
    member_case (slice_cmp nat_cmp name k) (get_member name ms) e d h
    (λ equal. first_name rest (codes "applications/" ++ k) (codes "applications/" ++ name) (ap (λ (n : List ℕ). codes "applications/" ++ n) (sym (same_key name k equal))))
    (λ found. later_name rest (codes "applications/" ++ k) (codes "applications/" ++ name) (application_named name (suc app) ms d found))

route_named : (name : List ℕ) (first : ℕ) (ms : Members) (d : Data) → get_member name ms ≡ Some d → Contains (names_of (route_destinations first (members_list ms))) (codes "routes/" ++ name)
route_named name first no_members d h = absurd (cc h)
route_named name first (member k e ms) d h =
    let rest = names_of (route_destinations (first + length (items_of e)) (members_list ms)) in
    member_case (slice_cmp nat_cmp name k) (get_member name ms) e d h
    (λ equal. first_name rest (codes "routes/" ++ k) (codes "routes/" ++ name) (ap (λ (n : List ℕ). codes "routes/" ++ n) (sym (same_key name k equal))))
    (λ found. later_name rest (codes "routes/" ++ k) (codes "routes/" ++ name) (route_named name (first + length (items_of e)) ms d found))

-- ---- what a pass finds has a goal

of_applications : (document : Data) (s : List ℕ) → Contains (names_of (application_destinations 0 (members_in (codes "applications") document))) s → Contains (names_of (destinations_of document)) s
of_applications document s h =
    let apps = application_destinations 0 (members_in (codes "applications") document) in
    let routes = list_in destinations_of_routes (get (codes "routes") document) in
    subst (λ (ns : List (List ℕ)). Contains ns s) (sym (map-append (λ (d : Destination). d.name) apps routes)) (Contains-append_left (names_of apps) (names_of routes) s h)

of_routes : (document : Data) (s : List ℕ) → Contains (names_of (list_in destinations_of_routes (get (codes "routes") document))) s → Contains (names_of (destinations_of document)) s
of_routes document s h =
    let apps = application_destinations 0 (members_in (codes "applications") document) in
    let routes = list_in destinations_of_routes (get (codes "routes") document) in
    subst (λ (ns : List (List ℕ)). Contains ns s) (sym (map-append (λ (d : Destination). d.name) apps routes)) (Contains-append_right (names_of apps) (names_of routes) s h)

finds_named : (document : Data) (s : List ℕ) → Finds document s → Contains (names_of (destinations_of document)) s
finds_named document s (the_routes steps e g) =
    let there = ap (λ o. names_of (list_in destinations_of_routes o)) g in
    of_routes document s (subst (λ (ns : List (List ℕ)). Contains ns s) (sym there) (first_name [] (codes "routes") s (sym e)))
finds_named document s (a_route name route e g) =
    let m = part_member name (get (codes "routes") document) route g in
    let there = ap (λ o. names_of (list_in destinations_of_routes o)) m.1 in
    of_routes document s (subst (λ (ns : List (List ℕ)). Contains ns s) (sym there) (subst (λ (l : List ℕ). Contains (names_of (route_destinations 0 (members_list m.0))) l) (sym e) (route_named name 0 m.0 route m.2)))
finds_named document s (an_application name d e g) =
    let m = part_member name (get (codes "applications") document) d g in
    let there = ap (λ o. names_of (application_destinations 0 (list_in members_of o))) m.1 in
    of_applications document s (subst (λ (ns : List (List ℕ)). Contains ns s) (sym there) (subst (λ (l : List ℕ). Contains (names_of (application_destinations 0 (members_list m.0))) l) (sym e) (application_named name 0 m.0 d m.2)))

plain_is : (document : Data) (s : List ℕ) → HasNoDollar s → plain_goal (configuration_of document) s ≡ goal_named s (destinations_of document)
plain_is document s h = ap (λ b. if b then None else goal_named s (destinations_of document)) (no_dollar s h)

pass_has_goal : (document : Data) (s : List ℕ) → (HasNoDollar s → Finds document s) → HasGoal (configuration_of document) s
pass_has_goal document s h plain =
    subst (λ (o : Option Goal). IsTrue (is_some o)) (sym (plain_is document s plain)) (has_goal s (destinations_of document) (finds_named document s (h plain)))

pub passes_have_goals : (document : Data) (handlers : List (List ℕ)) → fault_of document handlers ≡ None → All (HasGoal (configuration_of document)) (passes_of document)
passes_have_goals document handlers h =
    all_weaker (passes_of document) (λ s found. pass_has_goal document s found) (finds_unless document handlers h)

-- ---- handlers

is_there : (o : Option (List ℕ)) (handlers : List (List ℕ)) → IsTrue (is_some o) → IfSome o (Contains handlers) → Contains handlers (unwrap_or o [])
is_there None handlers some h = absurd (cc some)
is_there (Some s) handlers some h = h

abbrev HasHandler : List (List ℕ) → Application → Type 0
HasHandler handlers a = Contains handlers a.handler

application_has : (c : Context) (k : List ℕ) (d : Data) → NoFault c place.Application d → HasHandler c.handlers (application_of (k, d))
application_has c k d h =
    let clean = get_clean c place.Application place.Executable (codes "executable") d fixed-Application at-Application-executable h in
    is_there (text_in (get (codes "executable") d)) c.handlers (executable_text c (get (codes "executable") d) (executable_there c d h) clean)
    (text_kept (Contains c.handlers) c place.Executable form.Handler (get (codes "executable") d) text-Executable (λ s e. handler_there c.handlers s (handler_kept c form.Handler s e)) clean)

applications_have : (c : Context) (o : Option Data) → IsClean c place.Applications o → All (HasHandler c.handlers) (map application_of (list_in members_of o))
applications_have c None h = All-nil (HasHandler c.handlers)
applications_have c (Some null) h = All-nil (HasHandler c.handlers)
applications_have c (Some (boolean b)) h = All-nil (HasHandler c.handlers)
applications_have c (Some (number n)) h = All-nil (HasHandler c.handlers)
applications_have c (Some (string s)) h = All-nil (HasHandler c.handlers)
applications_have c (Some (array ds)) h = All-nil (HasHandler c.handlers)
applications_have c (Some (object ms)) h =
    All-map (HasHandler c.handlers) application_of (members_list ms)
    (all_weaker (members_list ms) (λ m e. application_has c m.0 m.1 e) (members_clean c (entries_of place.Applications) (names.Target place.Application) place.Application (λ again k d f. placed c (is_target_name k) place.Application d f) [] ms (object_clean c place.Applications (names.Target place.Application) ms members-Applications (h (object ms) refl))))

pub asks_only_for : (document : Data) (handlers : List (List ℕ)) → fault_of document handlers ≡ None → AsksOnlyFor handlers (configuration_of document)
asks_only_for document handlers h =
    let c = context document handlers in
    applications_have c (get (codes "applications") document) (get_clean c place.Whole place.Applications (codes "applications") document fixed-Whole at-Whole-applications h)
