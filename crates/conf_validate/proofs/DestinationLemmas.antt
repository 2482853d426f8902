-- The names of a document's parts ascend, and what passes can name is there.
use Rattle.std.proofs.Common.{◌≡◌, ℕ, suc, ◌+◌, ◌≤◌, List, [], ◌∷◌, ◌++◌, length, map, codes, Option, Some, None, All, Less, refl, sym, ap, ◌∙◌, subst, arith}
use Rattle.std.proofs.lemmas.List.{length-append, length-map, map-append}
use Rattle.std.proofs.lemmas.List.Elements.{All-append, All-cons, All-nil}
use Rattle.std.specs.Cmp.Lexicographic.{slice_cmp}
use Rattle.std.specs.List.{flat_map}
use Rattle.std.specs.Ordering.{nat_cmp}
use Rattle.serde_json.specs.Data.{Data, null, boolean, number, string, array, object, Members, no_members, member}
use Rattle.serde_json.specs.Find.{get}
use Rattle.conf_tree.proofs.Documents.{child_document}
use Rattle.conf_tree.specs.Document.{AreMembers, ComeAfter, IsDocument}
use Rattle.conf_tree.specs.View.{Named}
use Rattle.conf_validate.specs.Configuration.{Configuration, application_destinations, application_of, applications_of, configuration_of, destinations_of, destinations_of_routes, items_list, items_of, list_in, listener_of, listeners_of, members_in, members_list, members_of, route_destinations, step_of, steps_of_routes, values_list}
use Rattle.unit_types.specs.Names.{Ascends}
use Rattle.unit_types.proofs.NameLemmas.{ascends-append, ascends-cons, ascends-nil}
use Rattle.conf_validate.specs.Kept.{IsThere}
use Rattle.conf_validate.specs.declared.conf.Application.{Application}
use Rattle.conf_validate.specs.declared.conf.Destination.{Destination}
use Rattle.conf_validate.specs.declared.conf.Goal.TheVariants as goal
use Rattle.conf_validate.specs.declared.conf.Listener.{Listener}

abbrev pub IsBefore : List ℕ → List ℕ → Type 0
IsBefore name later = slice_cmp nat_cmp name later ≡ Less

abbrev names_of : List Named → List (List ℕ)
names_of ms = map (λ m. m.0) ms

abbrev destination_names : List Destination → List (List ℕ)
destination_names ds = map (λ d. d.name) ds

-- ---- the names of members

come_after : (k : List ℕ) (ms : Members) → ComeAfter k ms → All (IsBefore k) (names_of (members_list ms))
come_after k no_members h = All-nil (IsBefore k)
come_after k (member l d ms) h = All-cons (IsBefore k) l (names_of (members_list ms)) h.0 (come_after k ms h.1)

names_ascend : (ms : Members) → AreMembers ms → Ascends (names_of (members_list ms))
names_ascend no_members h = ascends-nil
names_ascend (member k d ms) h = ascends-cons k (names_of (members_list ms)) (come_after k ms h.2) (names_ascend ms h.3)

pub get_document : (k : List ℕ) (d e : Data) → IsDocument d → get k d ≡ Some e → IsDocument e
get_document k null e h at = absurd (cc at)
get_document k (boolean b) e h at = absurd (cc at)
get_document k (number n) e h at = absurd (cc at)
get_document k (string s) e h at = absurd (cc at)
get_document k (array ds) e h at = absurd (cc at)
get_document k (object ms) e h at = child_document k (object ms) e h at

-- the value is a document, where there is one
abbrev pub IsTree : Option Data → Type 0
IsTree o = (d : Data) → o ≡ Some d → IsDocument d

member_names_ascend : (o : Option Data) → IsTree o → Ascends (names_of (list_in members_of o))
member_names_ascend None h = ascends-nil
member_names_ascend (Some null) h = ascends-nil
member_names_ascend (Some (boolean b)) h = ascends-nil
member_names_ascend (Some (number n)) h = ascends-nil
member_names_ascend (Some (string s)) h = ascends-nil
member_names_ascend (Some (array ds)) h = ascends-nil
member_names_ascend (Some (object ms)) h = names_ascend ms (h (object ms) refl)

-- what is made of each member has its name
same_names : {A : Type 0} (f : Named → A) (name : A → List ℕ) → ((m : Named) → name (f m) ≡ m.0) → (ms : List Named) → names_of ms ≡ map name (map f ms)
same_names f name same [] = refl
same_names f name same (m ∷ ms) = ap (λ n. n ∷ names_of ms) (sym (same m)) ∙ ap (λ ns. name (f m) ∷ ns) (same_names f name same ms)

pub application_names_ascend : (document : Data) → IsDocument document → Ascends (map (λ a. a.name) (applications_of document))
application_names_ascend document h =
    let o = get (codes "applications") document in
    subst Ascends (same_names application_of (λ (a : Application). a.name) (λ m. refl) (list_in members_of o))
    (member_names_ascend o (λ d at. get_document (codes "applications") document d h at))

pub listener_names_ascend : (document : Data) → IsDocument document → Ascends (map (λ l. l.name) (listeners_of document))
listener_names_ascend document h =
    let o = get (codes "listeners") document in
    subst Ascends (same_names listener_of (λ (l : Listener). l.name) (λ m. refl) (list_in members_of o))
    (member_names_ascend o (λ d at. get_document (codes "listeners") document d h at))

-- ---- the names of destinations

applications_after : (k : List ℕ) (app : ℕ) (ms : Members) → ComeAfter k ms → All (IsBefore (codes "applications/" ++ k)) (destination_names (application_destinations app (members_list ms)))
applications_after k app no_members h = All-nil (IsBefore (codes "applications/" ++ k))
applications_after k app (member l d ms) h =
    All-cons (IsBefore (codes "applications/" ++ k)) (codes "applications/" ++ l) (destination_names (application_destinations (suc app) (members_list ms))) h.0 (applications_after k (suc app) ms h.1)

applications_ascend : (app : ℕ) (ms : Members) → AreMembers ms → Ascends (destination_names (application_destinations app (members_list ms)))
applications_ascend app no_members h = ascends-nil
applications_ascend app (member k d ms) h =
    ascends-cons (codes "applications/" ++ k) (destination_names (application_destinations (suc app) (members_list ms))) (applications_after k (suc app) ms h.2) (applications_ascend (suc app) ms h.3)

all_applications_ascend : (o : Option Data) → IsTree o → Ascends (destination_names (application_destinations 0 (list_in members_of o)))
all_applications_ascend None h = ascends-nil
all_applications_ascend (Some null) h = ascends-nil
all_applications_ascend (Some (boolean b)) h = ascends-nil
all_applications_ascend (Some (number n)) h = ascends-nil
all_applications_ascend (Some (string s)) h = ascends-nil
all_applications_ascend (Some (array ds)) h = ascends-nil
all_applications_ascend (Some (object ms)) h = applications_ascend 0 ms (h (object ms) refl)

routes_after : (k : List ℕ) (first : ℕ) (ms : Members) → ComeAfter k ms → All (IsBefore (codes "routes/" ++ k)) (destination_names (route_destinations first (members_list ms)))
routes_after k first no_members h = All-nil (IsBefore (codes "routes/" ++ k))
routes_after k first (member l d ms) h =
    All-cons (IsBefore (codes "routes/" ++ k)) (codes "routes/" ++ l) (destination_names (route_destinations (first + length (items_of d)) (members_list ms))) h.0 (routes_after k (first + length (items_of d)) ms h.1)

routes_ascend : (first : ℕ) (ms : Members) → AreMembers ms → Ascends (destination_names (route_destinations first (members_list ms)))
routes_ascend first no_members h = ascends-nil
routes_ascend first (member k d ms) h =
    let next = first + length (items_of d) in
    ascends-cons (codes "routes/" ++ k) (destination_names (route_destinations next (members_list ms))) (routes_after k next ms h.2) (routes_ascend next ms h.3)

all_routes_ascend : (o : Option Data) → IsTree o → Ascends (destination_names (list_in destinations_of_routes o))
all_routes_ascend None h = ascends-nil
all_routes_ascend (Some null) h = ascends-nil
all_routes_ascend (Some (boolean b)) h = ascends-nil
all_routes_ascend (Some (number n)) h = ascends-nil
all_routes_ascend (Some (string s)) h = ascends-nil
all_routes_ascend (Some (array ds)) h = ascends-cons (codes "routes") [] (All-nil (IsBefore (codes "routes"))) ascends-nil
all_routes_ascend (Some (object ms)) h = routes_ascend 0 ms (h (object ms) refl)

-- the text begins with the byte
abbrev Begins : ℕ → List ℕ → Type 0
Begins b [] = ⊥
Begins b (x ∷ xs) = x ≡ b

applications_begin : (app : ℕ) (ms : List Named) → All (Begins 97) (destination_names (application_destinations app ms))
applications_begin app [] = All-nil (Begins 97)
applications_begin app (m ∷ ms) =
    All-cons (Begins 97) (codes "applications/" ++ m.0) (destination_names (application_destinations (suc app) ms)) refl (applications_begin (suc app) ms)

routes_begin : (first : ℕ) (ms : List Named) → All (Begins 114) (destination_names (route_destinations first ms))
routes_begin first [] = All-nil (Begins 114)
routes_begin first (m ∷ ms) =
    All-cons (Begins 114) (codes "routes/" ++ m.0) (destination_names (route_destinations (first + length (items_of m.1)) ms)) refl (routes_begin (first + length (items_of m.1)) ms)

all_routes_begin : (o : Option Data) → All (Begins 114) (destination_names (list_in destinations_of_routes o))
all_routes_begin None = All-nil (Begins 114)
all_routes_begin (Some null) = All-nil (Begins 114)
all_routes_begin (Some (boolean b)) = All-nil (Begins 114)
all_routes_begin (Some (number n)) = All-nil (Begins 114)
all_routes_begin (Some (string s)) = All-nil (Begins 114)
all_routes_begin (Some (array ds)) = All-cons (Begins 114) (codes "routes") [] refl (All-nil (Begins 114))
all_routes_begin (Some (object ms)) = routes_begin 0 (members_list ms)

first_before : (x y : List ℕ) → Begins 97 x → Begins 114 y → IsBefore x y
first_before [] y h k = absurd h
first_before (a ∷ xs) [] h k = absurd k
first_before (a ∷ xs) (b ∷ ys) h k = rw (h, k) refl

pub destination_names_ascend : (document : Data) → IsDocument document → Ascends (map (λ d. d.name) (destinations_of document))
destination_names_ascend document h =
    let apps = application_destinations 0 (members_in (codes "applications") document) in
    let o = get (codes "routes") document in
    let routes = list_in destinations_of_routes o in
    subst Ascends (sym (map-append (λ (d : Destination). d.name) apps routes))
    (ascends-append (destination_names apps) (destination_names routes)
    (all_applications_ascend (get (codes "applications") document) (λ d at. get_document (codes "applications") document d h at))
    (all_routes_ascend o (λ d at. get_document (codes "routes") document d h at))
    (λ i d lt j e within. first_before _ _ (applications_begin 0 (members_in (codes "applications") document) i d lt) (all_routes_begin o j e within)))

-- ---- where destinations lead

abbrev LeadsThere : Configuration → Destination → Type 0
LeadsThere conf d = IsThere conf d.goal

applications_there : (conf : Configuration) (app : ℕ) (ms : List Named) → app + length ms ≤ length conf.applications → All (LeadsThere conf) (application_destinations app ms)
applications_there conf app [] h = All-nil (LeadsThere conf)
applications_there conf app (m ∷ ms) h =
    All-cons (LeadsThere conf) (record { name = codes "applications/" ++ m.0; goal = goal.Application app }) (application_destinations (suc app) ms) (omega (arith, h)) (applications_there conf (suc app) ms (omega (arith, h)))

routes_there : (conf : Configuration) (first : ℕ) (ms : Members) → first + length (flat_map items_of (values_list ms)) ≤ length conf.steps → All (LeadsThere conf) (route_destinations first (members_list ms))
routes_there conf first no_members h = All-nil (LeadsThere conf)
routes_there conf first (member k d ms) h =
    let count = length (items_of d) in
    let parts = length-append (items_of d) (flat_map items_of (values_list ms)) in
    All-cons (LeadsThere conf) (record { name = codes "routes/" ++ k; goal = goal.Route first count }) (route_destinations (first + count) (members_list ms)) (omega (arith, h, parts)) (routes_there conf (first + count) ms (omega (arith, h, parts)))

all_routes_there : (conf : Configuration) (o : Option Data) → length (list_in steps_of_routes o) ≤ length conf.steps → All (LeadsThere conf) (list_in destinations_of_routes o)
all_routes_there conf None h = All-nil (LeadsThere conf)
all_routes_there conf (Some null) h = All-nil (LeadsThere conf)
all_routes_there conf (Some (boolean b)) h = All-nil (LeadsThere conf)
all_routes_there conf (Some (number n)) h = All-nil (LeadsThere conf)
all_routes_there conf (Some (string s)) h = All-nil (LeadsThere conf)
all_routes_there conf (Some (array ds)) h =
    All-cons (LeadsThere conf) (record { name = codes "routes"; goal = goal.Route 0 (length (items_list ds)) }) [] (omega (arith, h)) (All-nil (LeadsThere conf))
all_routes_there conf (Some (object ms)) h = routes_there conf 0 ms (omega (arith, h))

pub destinations_there : (document : Data) → All (λ d. IsThere (configuration_of document) d.goal) (destinations_of document)
destinations_there document =
    let conf = configuration_of document in
    let ms = members_in (codes "applications") document in
    let o = get (codes "routes") document in
    All-append (LeadsThere conf) (application_destinations 0 ms) (list_in destinations_of_routes o)
    (applications_there conf 0 ms (omega (arith, length-map ms application_of)))
    (all_routes_there conf o (omega (arith, length-map (list_in steps_of_routes o) step_of)))
