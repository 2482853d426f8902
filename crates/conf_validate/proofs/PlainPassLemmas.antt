-- In a valid plain document each pass leads to steps or to an application that are there.
use Rattle.std.proofs.Common.{◌≡◌, ◌∙◌, ℕ, Bool, true, false, not, ◌&&◌, ◌||◌, List, [], ◌∷◌, ◌++◌, drop, length, codes, Option, Some, None, IfSome, IsTrue, All, Ordering, Less, Equal, Greater, refl, sym, ap, subst, arith}
use Rattle.std.proofs.lemmas.Bool.{and_parts}
use Rattle.std.proofs.lemmas.Bool.Decides.{Decides-eqb}
use Rattle.std.proofs.lemmas.List.Elements.{All-append, All-cons, All-contains, All-contains_itself, All-head, All-nil, All-tail, All-weaker, Contains-append_left, Contains-append_right}
use Rattle.std.proofs.lemmas.Slice.Eq.{bytes_eq-Decides, starts_is}
use Rattle.std.specs.Cmp.Lexicographic.{slice_cmp}
use Rattle.std.specs.List.{Contains, flat_map, list_any, starts_with}
use Rattle.std.specs.Option.{is_some, option_to_list}
use Rattle.std.specs.Ordering.{nat_cmp, match_ordering}
use Rattle.std.specs.Prelude.{nat_eq}
use Rattle.std.specs.Str.{bytes_eq}
use Rattle.serde_json.specs.Data.{Data, null, boolean, number, string, array, object, Items, Members, no_members, member}
use Rattle.serde_json.specs.Find.{get, get_member}
use Rattle.conf_validate.specs.Choices.{has}
use Rattle.conf_validate.specs.Configuration.{items_list, items_of, list_in, part, steps_of_routes, text_in, values_list}
use Rattle.conf_validate.specs.Forms.{is_listener_name}
use Rattle.conf_validate.specs.Plain.{Finds, the_routes, a_route, an_application, HasNoDollar, IsApplication, IsPlain, IsStep, Leads, to_routes, to_route, to_application, applications_in, listeners_in, member_values, pass_of, passes_of, steps_in}
use Rattle.conf_validate.specs.Table.{Entry, entries_of, place_among, row_of, whole_table}
use Rattle.conf_validate.specs.Targets.{has_member, is_array, is_pass, is_target}
use Rattle.conf_validate.specs.Valid.{Context, broken_if, fault_of, has_required, members_fault, text_fault}
use Rattle.conf_validate.specs.declared.place.Form.TheVariants as form
use Rattle.conf_validate.specs.declared.place.Names.TheVariants as names
use Rattle.conf_validate.specs.declared.place.Place.{Place}
use Rattle.conf_validate.specs.declared.place.Place.TheVariants as place
use Rattle.conf_validate.proofs.CleanLemmas.{IsClean, NoFault, array_clean, below_none, flat_clean, get_clean, handler_kept, object_clean, or_left, or_right, part_clean, placed, text_kept, values_clean}
use Rattle.conf_validate.proofs.PlainLemmas.{pass_same}
use Rattle.conf_validate.proofs.WalkLemmas.{object_walk}

-- ---- the rows that are used

pub fixed-Whole : (row_of place.Whole).members ≡ Some names.Fixed
unfolding row_of
fixed-Whole = refl

fixed-Listener : (row_of place.Listener).members ≡ Some names.Fixed
unfolding row_of
fixed-Listener = refl

fixed-Step : (row_of place.Step).members ≡ Some names.Fixed
unfolding row_of
fixed-Step = refl

fixed-Action : (row_of place.Action).members ≡ Some names.Fixed
unfolding row_of
fixed-Action = refl

pub fixed-Application : (row_of place.Application).members ≡ Some names.Fixed
unfolding row_of
fixed-Application = refl

members-Listeners : (row_of place.Listeners).members ≡ Some (names.Listener place.Listener)
unfolding row_of
members-Listeners = refl

members-Routes : (row_of place.Routes).members ≡ Some (names.Target place.Steps)
unfolding row_of
members-Routes = refl

pub members-Applications : (row_of place.Applications).members ≡ Some (names.Target place.Application)
unfolding row_of
members-Applications = refl

items-Routes : (row_of place.Routes).items ≡ Some place.Step
unfolding row_of
items-Routes = refl

items-Steps : (row_of place.Steps).items ≡ Some place.Step
unfolding row_of
items-Steps = refl

text-Pass : (row_of place.Pass).text ≡ Some form.Pass
unfolding row_of
text-Pass = refl

pub text-Executable : (row_of place.Executable).text ≡ Some form.Handler
unfolding row_of
text-Executable = refl

at-Whole-listeners : place_among (codes "listeners") (entries_of place.Whole) ≡ Some place.Listeners
unfolding entries_of
at-Whole-listeners = refl

at-Whole-routes : place_among (codes "routes") (entries_of place.Whole) ≡ Some place.Routes
unfolding entries_of
at-Whole-routes = refl

pub at-Whole-applications : place_among (codes "applications") (entries_of place.Whole) ≡ Some place.Applications
unfolding entries_of
at-Whole-applications = refl

at-Listener-pass : place_among (codes "pass") (entries_of place.Listener) ≡ Some place.Pass
unfolding entries_of
at-Listener-pass = refl

at-Step-action : place_among (codes "action") (entries_of place.Step) ≡ Some place.Action
unfolding entries_of
at-Step-action = refl

at-Action-pass : place_among (codes "pass") (entries_of place.Action) ≡ Some place.Pass
unfolding entries_of
at-Action-pass = refl

pub at-Application-executable : place_among (codes "executable") (entries_of place.Application) ≡ Some place.Executable
unfolding entries_of
at-Application-executable = refl

-- ---- the targets that are found

or_case : {P : Type 0} (a b : Bool) → (a || b) ≡ true → (a ≡ true → P) → (b ≡ true → P) → P
or_case true b h f g = f refl
or_case false b h f g = g h

is_array_some : (o : Option Data) → is_array o ≡ true → (ds : Items) × (o ≡ Some (array ds))
is_array_some None h = absurd (cc h)
is_array_some (Some null) h = absurd (cc h)
is_array_some (Some (boolean b)) h = absurd (cc h)
is_array_some (Some (number n)) h = absurd (cc h)
is_array_some (Some (string s)) h = absurd (cc h)
is_array_some (Some (array ds)) h = (ds, refl)
is_array_some (Some (object ms)) h = absurd (cc h)

is_some_value : (o : Option Data) → is_some o ≡ true → (d : Data) × (o ≡ Some d)
is_some_value None h = absurd (cc h)
is_some_value (Some d) h = (d, refl)

has_member_part : (name : List ℕ) (o : Option Data) → has_member name o ≡ true → (d : Data) × (part name o ≡ Some d)
has_member_part name None h = absurd (cc h)
has_member_part name (Some r) h = is_some_value (get name r) h

begins : (s prefix : List ℕ) → starts_with nat_eq s prefix ≡ true → s ≡ prefix ++ drop (length prefix) s
begins s prefix h = (starts_is Decides-eqb s prefix (starts_with nat_eq s prefix) refl).0 h

pub finds : (document : Data) (s : List ℕ) → is_target document s ≡ true → Finds document s
finds document s h =
    or_case (is_routes || is_route) is_application h
    (λ routes.
    or_case is_routes is_route routes
    (λ all.
    let both = and_parts (bytes_eq s (codes "routes")) (is_array (get (codes "routes") document)) all in
    let found = is_array_some (get (codes "routes") document) both.1 in
    the_routes found.0 ((bytes_eq-Decides s (codes "routes")).0 both.0) found.1)
    (λ one.
    let both = and_parts (starts_with nat_eq s (codes "routes/")) (has_member (drop 7 s) (get (codes "routes") document)) one in
    let found = has_member_part (drop 7 s) (get (codes "routes") document) both.1 in
    a_route (drop 7 s) found.0 (begins s (codes "routes/") both.0) found.1))
    (λ one.
    let both = and_parts (starts_with nat_eq s (codes "applications/")) (has_member (drop 13 s) (get (codes "applications") document)) one in
    let found = has_member_part (drop 13 s) (get (codes "applications") document) both.1 in
    an_application (drop 13 s) found.0 (begins s (codes "applications/") both.0) found.1)
  where
    is_routes : Bool
    is_routes = bytes_eq s (codes "routes") && is_array (get (codes "routes") document)

    is_route : Bool
    is_route = starts_with nat_eq s (codes "routes/") && has_member (drop 7 s) (get (codes "routes") document)

    is_application : Bool
    is_application = starts_with nat_eq s (codes "applications/") && has_member (drop 13 s) (get (codes "applications") document)

-- ---- the passes of a valid document

not_broken : (b : Bool) (rule : ℕ) → broken_if (not b) rule ≡ None → b ≡ true
not_broken true rule h = refl
not_broken false rule h = absurd (cc h)

abbrev IsGood : Data → List ℕ → Type 0
IsGood document s = is_pass document s ≡ true

pass_kept : (c : Context) (s : List ℕ) → text_fault whole_table c form.Pass s ≡ None → IsGood c.document s
pass_kept c s h = not_broken (is_pass c.document s) 7 (or_left _ _ (or_right _ _ h))

listener_values : (c : Context) (es : List Entry) (q : Place) (earlier : List (List ℕ)) (ms : Members) → members_fault whole_table c es (names.Listener q) earlier ms ≡ None → All (NoFault c q) (values_list ms)
listener_values c es q earlier no_members h = All-nil (NoFault c q)
listener_values c es q earlier (member k d ms) h =
    All-cons (NoFault c q) d (values_list ms) (placed c (is_listener_name k) q d (below_none k _ (or_left _ _ h))) (listener_values c es q (earlier ++ k ∷ []) ms (or_right _ _ h))

listeners_clean : (c : Context) (o : Option Data) → IsClean c place.Listeners o → All (NoFault c place.Listener) (list_in member_values o)
listeners_clean c None h = All-nil (NoFault c place.Listener)
listeners_clean c (Some null) h = All-nil (NoFault c place.Listener)
listeners_clean c (Some (boolean b)) h = All-nil (NoFault c place.Listener)
listeners_clean c (Some (number n)) h = All-nil (NoFault c place.Listener)
listeners_clean c (Some (string s)) h = All-nil (NoFault c place.Listener)
listeners_clean c (Some (array ds)) h = All-nil (NoFault c place.Listener)
listeners_clean c (Some (object ms)) h =
    listener_values c (entries_of place.Listeners) place.Listener [] ms (object_clean c place.Listeners (names.Listener place.Listener) ms members-Listeners (h (object ms) refl))

routes_clean : (c : Context) (o : Option Data) → IsClean c place.Routes o → All (NoFault c place.Step) (list_in steps_of_routes o)
routes_clean c None h = All-nil (NoFault c place.Step)
routes_clean c (Some null) h = All-nil (NoFault c place.Step)
routes_clean c (Some (boolean b)) h = All-nil (NoFault c place.Step)
routes_clean c (Some (number n)) h = All-nil (NoFault c place.Step)
routes_clean c (Some (string s)) h = All-nil (NoFault c place.Step)
routes_clean c (Some (array ds)) h = array_clean c place.Routes place.Step ds items-Routes (h (array ds) refl)
routes_clean c (Some (object ms)) h =
    flat_clean c place.Steps place.Step (values_list ms) items-Steps (values_clean c (entries_of place.Routes) place.Steps [] ms (object_clean c place.Routes (names.Target place.Steps) ms members-Routes (h (object ms) refl)))

listener_good : (c : Context) (d : Data) → NoFault c place.Listener d → IfSome (text_in (get (codes "pass") d)) (IsGood c.document)
listener_good c d h =
    text_kept (IsGood c.document) c place.Pass form.Pass (get (codes "pass") d) text-Pass (pass_kept c) (get_clean c place.Listener place.Pass (codes "pass") d fixed-Listener at-Listener-pass h)

step_good : (c : Context) (d : Data) → NoFault c place.Step d → IfSome (text_in (part (codes "pass") (get (codes "action") d))) (IsGood c.document)
step_good c d h =
    text_kept (IsGood c.document) c place.Pass form.Pass (part (codes "pass") (get (codes "action") d)) text-Pass (pass_kept c) (part_clean c place.Action place.Pass (codes "pass") (get (codes "action") d) fixed-Action at-Action-pass (get_clean c place.Step place.Action (codes "action") d fixed-Step at-Step-action h))

-- ---- the passes of a valid plain document

-- a pass finds its target unless it has a `$`
abbrev pub FindsUnless : Data → List ℕ → Type 0
FindsUnless document s = HasNoDollar s → Finds document s

found_in : (document : Data) (o : Option (List ℕ)) → IfSome o (IsGood document) → All (FindsUnless document) (option_to_list o)
found_in document None h = All-nil (FindsUnless document)
found_in document (Some s) h =
    All-cons (FindsUnless document) s [] (λ plain. finds document s (sym (pass_same document s plain) ∙ h)) (All-nil (FindsUnless document))

all_flat : (P : List ℕ → Type 0) (f : Data → List (List ℕ)) (ds : List Data) → All (λ d. All P (f d)) ds → All P (flat_map f ds)
all_flat P f [] h = All-nil P
all_flat P f (d ∷ ds) h = All-append P (f d) (flat_map f ds) (All-head (λ e. All P (f e)) d ds h) (all_flat P f ds (All-tail (λ e. All P (f e)) d ds h))

abbrev pub context : Data → List (List ℕ) → Context
context document handlers = record { document = document; handlers = handlers }

-- each pass of a listener or of a step's action names something that is there, unless it has a `$`
pub finds_unless : (document : Data) (handlers : List (List ℕ)) → fault_of document handlers ≡ None → All (FindsUnless document) (passes_of document)
finds_unless document handlers h =
    let c = context document handlers in
    let listeners = listeners_clean c (get (codes "listeners") document) (get_clean c place.Whole place.Listeners (codes "listeners") document fixed-Whole at-Whole-listeners h) in
    let steps = routes_clean c (get (codes "routes") document) (get_clean c place.Whole place.Routes (codes "routes") document fixed-Whole at-Whole-routes h) in
    All-append (FindsUnless document) (flat_map (λ listener. pass_of (Some listener)) (listeners_in document)) (flat_map (λ step. pass_of (get (codes "action") step)) (steps_in document))
    (all_flat (FindsUnless document) (λ listener. pass_of (Some listener)) (listeners_in document) (λ k d lt. found_in document _ (listener_good c _ (listeners k d lt))))
    (all_flat (FindsUnless document) (λ step. pass_of (get (codes "action") step)) (steps_in document) (λ k d lt. found_in document _ (step_good c _ (steps k d lt))))

no_dollars_in : (o : Option (List ℕ)) → IfSome o HasNoDollar → All HasNoDollar (option_to_list o)
no_dollars_in None h = All-nil HasNoDollar
no_dollars_in (Some s) h = All-cons HasNoDollar s [] h (All-nil HasNoDollar)

no_dollars : (document : Data) → IsPlain document → All HasNoDollar (passes_of document)
no_dollars document plain =
    All-append HasNoDollar (flat_map (λ listener. pass_of (Some listener)) (listeners_in document)) (flat_map (λ step. pass_of (get (codes "action") step)) (steps_in document))
    (all_flat HasNoDollar (λ listener. pass_of (Some listener)) (listeners_in document) (λ k d lt. no_dollars_in _ (plain.listeners k d lt)))
    (all_flat HasNoDollar (λ step. pass_of (get (codes "action") step)) (steps_in document) (λ k d lt. no_dollars_in _ (plain.steps k d lt).pass))

pub passes_find : (document : Data) (handlers : List (List ℕ)) → IsPlain document → fault_of document handlers ≡ None → All (Finds document) (passes_of document)
passes_find document handlers plain h = λ k d lt. finds_unless document handlers h k d lt (no_dollars document plain k d lt)

-- ---- what stands at the targets

some_same : (d e : Data) → Some d ≡ Some e → d ≡ e
some_same d e h = cc h

-- a member that is found is the first one or one of the others
member_case : {P : Type 0} (o : Ordering) (a : Option Data) (e d : Data) → match_ordering o a (Some e) a ≡ Some d → (e ≡ d → P) → (a ≡ Some d → P) → P
member_case Less a e d h f g = g h
member_case Equal a e d h f g = f (some_same e d h)
member_case Greater a e d h f g = g h

first_one : (xs : List Data) (x y : Data) → x ≡ y → Contains (x ∷ xs) y
first_one xs x y e = (0, omega arith, e)

value_there : (name : List ℕ) (ms : Members) (d : Data) → get_member name ms ≡ Some d → Contains (values_list ms) d
value_there name no_members d h = absurd (cc h)
value_there name (member k e ms) d h =
    member_case (slice_cmp nat_cmp name k) (get_member name ms) e d h
    (λ same. first_one (values_list ms) e d same)
    (λ rest. Contains-append_right (e ∷ []) (values_list ms) d (value_there name ms d rest))

-- the items of one value of several stand among those of all
items_there : (name : List ℕ) (ms : Members) (d : Data) → get_member name ms ≡ Some d → All (Contains (flat_map items_of (values_list ms))) (items_of d)
items_there name no_members d h = absurd (cc h)
items_there name (member k e ms) d h =
    let all = flat_map items_of (values_list (member k e ms)) in
    member_case (slice_cmp nat_cmp name k) (get_member name ms) e d h
    (λ same. subst (λ (x : Data). All (Contains all) (items_of x)) same (All-weaker (Contains (items_of e)) (Contains all) (λ x there. Contains-append_left (items_of e) (flat_map items_of (values_list ms)) x there) (items_of e) (All-contains_itself (items_of e))))
    (λ rest. All-weaker (Contains (flat_map items_of (values_list ms))) (Contains all) (λ x there. Contains-append_right (items_of e) (flat_map items_of (values_list ms)) x there) (items_of d) (items_there name ms d rest))

-- rule 3 of an object that breaks none
required_there : (c : Context) (p : Place) (ms : Members) → (row_of p).members ≡ Some names.Fixed → NoFault c p (object ms) → has_required (entries_of p) ms ≡ true
required_there c p ms row h = not_broken (has_required (entries_of p) ms) 3 (or_left _ _ (sym (object_walk c p names.Fixed ms row) ∙ h))

step_required : (ms : Members) → has_required (entries_of place.Step) ms ≡ true → is_some (get_member (codes "action") ms) ≡ true
unfolding entries_of
step_required ms h = (and_parts (has (codes "action") ms) true h).0

application_required : (ms : Members) → has_required (entries_of place.Application) ms ≡ true → is_some (get_member (codes "executable") ms) ≡ true
unfolding entries_of
application_required ms h =
    (and_parts (has (codes "executable") ms) true (and_parts (has (codes "type") ms) (has (codes "executable") ms && true) h).1).0

action_there : (c : Context) (d : Data) → NoFault c place.Step d → IsTrue (is_some (get (codes "action") d))
unfolding row_of
action_there c null h = absurd (cc h)
action_there c (boolean b) h = absurd (cc h)
action_there c (number n) h = absurd (cc h)
action_there c (string s) h = absurd (cc h)
action_there c (array ds) h = absurd (cc h)
action_there c (object ms) h = step_required ms (required_there c place.Step ms fixed-Step h)

pub executable_there : (c : Context) (d : Data) → NoFault c place.Application d → is_some (get (codes "executable") d) ≡ true
unfolding row_of
executable_there c null h = absurd (cc h)
executable_there c (boolean b) h = absurd (cc h)
executable_there c (number n) h = absurd (cc h)
executable_there c (string s) h = absurd (cc h)
executable_there c (array ds) h = absurd (cc h)
executable_there c (object ms) h = application_required ms (required_there c place.Application ms fixed-Application h)

-- a route that breaks no rule is an array
steps_array : (c : Context) (d : Data) → NoFault c place.Steps d → (ds : Items) × (d ≡ array ds)
unfolding row_of
steps_array c null h = absurd (cc h)
steps_array c (boolean b) h = absurd (cc h)
steps_array c (number n) h = absurd (cc h)
steps_array c (string s) h = absurd (cc h)
steps_array c (array ds) h = (ds, refl)
steps_array c (object ms) h = absurd (cc h)

-- an executable that breaks no rule is a text
pub executable_text : (c : Context) (o : Option Data) → is_some o ≡ true → IsClean c place.Executable o → IsTrue (is_some (text_in o))
unfolding row_of
executable_text c None e h = absurd (cc e)
executable_text c (Some null) e h = absurd (cc (h null refl))
executable_text c (Some (boolean b)) e h = absurd (cc (h (boolean b) refl))
executable_text c (Some (number n)) e h = absurd (cc (h (number n) refl))
executable_text c (Some (string s)) e h = refl
executable_text c (Some (array ds)) e h = absurd (cc (h (array ds) refl))
executable_text c (Some (object ms)) e h = absurd (cc (h (object ms) refl))

pub handler_there : (handlers : List (List ℕ)) (s : List ℕ) → list_any (λ name. bytes_eq name s) handlers ≡ true → Contains handlers s
handler_there [] s h = absurd (cc h)
handler_there (n ∷ ns) s h =
    or_case (bytes_eq n s) (list_any (λ name. bytes_eq name s) ns) h
    (λ same. (0, omega arith, (bytes_eq-Decides n s).0 same))
    (λ rest. Contains-append_right (n ∷ []) ns s (handler_there ns s rest))

application_kept : (c : Context) (d : Data) → NoFault c place.Application d → Contains (applications_in c.document) d → IsApplication c.document c.handlers d
application_kept c d h there =
    let clean = get_clean c place.Application place.Executable (codes "executable") d fixed-Application at-Application-executable h in
    record {
      there = there;
      executable = executable_text c (get (codes "executable") d) (executable_there c d h) clean;
      handler = text_kept (Contains c.handlers) c place.Executable form.Handler (get (codes "executable") d) text-Executable (λ s e. handler_there c.handlers s (handler_kept c form.Handler s e)) clean;
    }

steps_kept : (c : Context) (ds : List Data) → All (NoFault c place.Step) ds → All (Contains (steps_in c.document)) ds → All (IsStep c.document) ds
steps_kept c ds h there = λ k d lt. record { there = there k d lt; action = action_there c _ (h k d lt) }

-- ---- where the passes lead

-- the member of an object
pub part_member : (name : List ℕ) (o : Option Data) (d : Data) → part name o ≡ Some d → (ms : Members) × (o ≡ Some (object ms)) × (get_member name ms ≡ Some d)
part_member name None d h = absurd (cc h)
part_member name (Some null) d h = absurd (cc h)
part_member name (Some (boolean b)) d h = absurd (cc h)
part_member name (Some (number n)) d h = absurd (cc h)
part_member name (Some (string s)) d h = absurd (cc h)
part_member name (Some (array ds)) d h = absurd (cc h)
part_member name (Some (object ms)) d h = (ms, refl, h)

all_routes : (c : Context) (o : Option Data) (steps : Items) → IsClean c place.Routes o → o ≡ Some (array steps) → All (Contains (list_in steps_of_routes o)) (items_list steps) × All (NoFault c place.Step) (items_list steps)
all_routes c o steps clean e =
    (subst (λ (x : Option Data). All (Contains (list_in steps_of_routes x)) (items_list steps)) (sym e) (All-contains_itself (items_list steps)), array_clean c place.Routes place.Step steps items-Routes (clean (array steps) e))

one_route : (c : Context) (o : Option Data) (ms : Members) (name : List ℕ) (steps : Items) → IsClean c place.Routes o → o ≡ Some (object ms) → get_member name ms ≡ Some (array steps) → All (Contains (list_in steps_of_routes o)) (items_list steps)
one_route c o ms name steps clean e g =
    subst (λ (x : Option Data). All (Contains (list_in steps_of_routes x)) (items_list steps)) (sym e) (items_there name ms (array steps) g)

route_clean : (c : Context) (o : Option Data) (ms : Members) (name : List ℕ) (route : Data) → IsClean c place.Routes o → o ≡ Some (object ms) → get_member name ms ≡ Some route → NoFault c place.Steps route
route_clean c o ms name route clean e g =
    All-contains (NoFault c place.Steps) (values_list ms) route (values_clean c (entries_of place.Routes) place.Steps [] ms (object_clean c place.Routes (names.Target place.Steps) ms members-Routes (clean (object ms) e))) (value_there name ms route g)

application_clean : (c : Context) (o : Option Data) (ms : Members) (name : List ℕ) (d : Data) → IsClean c place.Applications o → o ≡ Some (object ms) → get_member name ms ≡ Some d → NoFault c place.Application d × Contains (list_in member_values o) d
application_clean c o ms name d clean e g =
    (All-contains (NoFault c place.Application) (values_list ms) d (values_clean c (entries_of place.Applications) place.Application [] ms (object_clean c place.Applications (names.Target place.Application) ms members-Applications (clean (object ms) e))) (value_there name ms d g), subst (λ (x : Option Data). Contains (list_in member_values x) d) (sym e) (value_there name ms d g))

lead : (c : Context) (s : List ℕ) → IsClean c place.Routes (get (codes "routes") c.document) → IsClean c place.Applications (get (codes "applications") c.document) → Finds c.document s → Leads c.document c.handlers s
lead c s routes applications (the_routes steps e g) =
    let all = all_routes c (get (codes "routes") c.document) steps routes g in
    to_routes steps e g (steps_kept c (items_list steps) all.1 all.0)
lead c s routes applications (a_route name route e g) =
    let m = part_member name (get (codes "routes") c.document) route g in
    let clean = route_clean c (get (codes "routes") c.document) m.0 name route routes m.1 m.2 in
    let steps = steps_array c route clean in
    to_route name steps.0 e (g ∙ ap (λ (d : Data). Some d) steps.1) (steps_kept c (items_list steps.0) (array_clean c place.Steps place.Step steps.0 items-Steps (subst (λ (d : Data). NoFault c place.Steps d) steps.1 clean)) (one_route c (get (codes "routes") c.document) m.0 name steps.0 routes m.1 (m.2 ∙ ap (λ (d : Data). Some d) steps.1)))
lead c s routes applications (an_application name d e g) =
    let m = part_member name (get (codes "applications") c.document) d g in
    let clean = application_clean c (get (codes "applications") c.document) m.0 name d applications m.1 m.2 in
    to_application name d e g (application_kept c d clean.0 clean.1)

-- each pass of a listener or of a step's action leads to steps or to an application that are there
pub passes_lead : (document : Data) (handlers : List (List ℕ)) → IsPlain document → fault_of document handlers ≡ None → All (Leads document handlers) (passes_of document)
passes_lead document handlers plain h =
    let c = context document handlers in
    All-weaker (Finds document) (Leads document handlers) (λ s found. lead c s (get_clean c place.Whole place.Routes (codes "routes") document fixed-Whole at-Whole-routes h) (get_clean c place.Whole place.Applications (codes "applications") document fixed-Whole at-Whole-applications h) found) (passes_of document) (passes_find document handlers plain h)
