-- Where a document is plain, the walk by the plain table finds what the walk by the whole table finds.
use Rattle.std.proofs.Common.{◌≡◌, ◌≢◌, ◌∙◌, ℕ, ◌+◌, ◌==◌, Bool, true, false, not, ◌&&◌, ◌||◌, List, [], ◌∷◌, ◌++◌, codes, Option, Some, None, if◌then◌else◌, IfSome, All, Ordering, Less, Equal, Greater, refl, sym, ap, ap₂, subst}
use Rattle.std.proofs.lemmas.Bool.{ne_eqb}
use Rattle.std.proofs.lemmas.Cmp.{nat_list_cmp_total}
use Rattle.std.proofs.lemmas.List.Elements.{All-cons, All-head, All-nil, All-tail}
use Rattle.std.proofs.lemmas.Option.{IfSome_then}
use Rattle.std.proofs.lemmas.Slice.Eq.{bytes_eq-Decides}
use Rattle.std.specs.Cmp.Lexicographic.{slice_cmp}
use Rattle.std.specs.Fmt.{decimal}
use Rattle.std.specs.List.{flat_map, list_any}
use Rattle.std.specs.Option.{is_some}
use Rattle.std.specs.Ordering.{nat_cmp, match_ordering, ordering_reverse}
use Rattle.std.specs.Prelude.{⊤}
use Rattle.std.specs.Str.{bytes_eq}
use Rattle.serde_json.specs.Data.{Data, null, boolean, number, string, array, object, Items, no_items, item, Members, no_members, member}
use Rattle.serde_json.specs.Find.{as_str, get_member}
use Rattle.conf_tree.specs.Document.{AreDocuments, AreMembers, ComeAfter, IsDocument}
use Rattle.path_normal.proofs.PieceLemmas.{pieces_at_byte}
use Rattle.path_normal.specs.Variables.{known_among, variable_count}
use Rattle.conf_validate.specs.Choices.{has}
use Rattle.conf_validate.specs.Configuration.{items_list, items_of, list_in, steps_of_routes, text_in, values_list}
use Rattle.conf_validate.specs.Forms.{has_form, has_variables, is_again, is_at_most, is_in_line, is_listener_name, is_target_name}
use Rattle.conf_validate.specs.Plain.{HasNoDollar, IsPlain, IsPlainAction, IsPlainListener, IsPlainStep, member_values, plain_choice, plain_entries_of, plain_form, plain_row_of, plain_table}
use Rattle.conf_validate.specs.Table.{Entry, entries_of, place_among, row_of, whole_table}
use Rattle.conf_validate.specs.Targets.{is_pass, is_target, may_be_target}
use Rattle.conf_validate.specs.Valid.{Context, below, broken, broken_if, fault_by, fault_of, for_some, has_handler, has_required, has_target, is_choice_at, is_in_range, items_fault, members_fault, or_then, place_if, place_of, text_fault, value_fault}
use Rattle.conf_validate.specs.declared.fault.Invalid.{Invalid}
use Rattle.conf_validate.specs.declared.place.Form.{Form}
use Rattle.conf_validate.specs.declared.place.Form.TheVariants as form
use Rattle.conf_validate.specs.declared.place.Names.{Names}
use Rattle.conf_validate.specs.declared.place.Names.TheVariants as names
use Rattle.conf_validate.specs.declared.place.Place.{Place}
use Rattle.conf_validate.specs.declared.place.Place.TheVariants as place
use Rattle.conf_validate.specs.declared.place.Row.{Row}
use Rattle.conf_validate.proofs.MemberLemmas.{same_key}

-- ---- what is asked of the value at a place

abbrev IsPlainAt : Place → Data → Type 0
IsPlainAt place.Whole d = IsPlain d
IsPlainAt place.Listeners d = All IsPlainListener (member_values d)
IsPlainAt place.Listener d = IsPlainListener d
IsPlainAt place.Routes d = All IsPlainStep (steps_of_routes d)
IsPlainAt place.Steps d = All IsPlainStep (items_of d)
IsPlainAt place.Step d = IsPlainStep d
IsPlainAt place.Action d = IsPlainAction (Some d)
IsPlainAt place.Pass d = IfSome (as_str d) HasNoDollar
IsPlainAt place.Location d = IfSome (as_str d) HasNoDollar
IsPlainAt place.Rewrite d = ⊥
IsPlainAt place.ResponseHeaders d = ⊥
IsPlainAt place.HeaderText d = ⊥
IsPlainAt place.AccessLog d = ⊥
IsPlainAt place.Format d = ⊥
IsPlainAt other d = ⊤

abbrev Same : Context → Place → Data → Type 0
Same c p d = value_fault whole_table c p d ≡ value_fault plain_table c p d

-- ---- texts

pub no_dollar : (s : List ℕ) → HasNoDollar s → list_any (λ b. b == 36) s ≡ false
no_dollar [] h = refl
no_dollar (b ∷ bs) h =
    ap (λ x. x || list_any (λ b. b == 36) bs) (ne_eqb b 36 (All-head (λ c. c ≢ 36) b bs h)) ∙ no_dollar bs (All-tail (λ c. c ≢ 36) b bs h)

no_variables : (s : List ℕ) → HasNoDollar s → variable_count [] s ≡ Some 0
no_variables [] h = refl
no_variables (b ∷ bs) h =
    ap (known_among []) (pieces_at_byte b bs (All-head (λ c. c ≢ 36) b bs h)) ∙ no_variables bs (All-tail (λ c. c ≢ 36) b bs h)

few_variables : (s : List ℕ) → HasNoDollar s → has_variables [] 4 s ≡ true
few_variables s h = ap (is_at_most 4) (no_variables s h)

pub pass_same : (document : Data) (s : List ℕ) → HasNoDollar s → is_pass document s ≡ is_target document s
pass_same document s h = ap (λ x. if x then may_be_target document s else is_target document s) (no_dollar s h)

and_true : (b : Bool) → (b && true) ≡ b
and_true true = refl
and_true false = refl

tests_same : (c : Context) (f : Form) (s : List ℕ) → has_form f s ≡ plain_form f s → has_target whole_table c f s ≡ has_target plain_table c f s → text_fault whole_table c f s ≡ text_fault plain_table c f s
tests_same c f s a b =
    ap (λ x. or_then (broken_if (not x) 5) (or_then (broken_if (not (has_target whole_table c f s)) 7) (broken_if (not (has_handler c f s)) 8))) a
    ∙ ap (λ x. or_then (broken_if (not (plain_form f s)) 5) (or_then (broken_if (not x) 7) (broken_if (not (has_handler c f s)) 8))) b

texts_same : (c : Context) (p : Place) (s : List ℕ) → IsPlainAt p (string s) → IfSome (row_of p).text (λ f. text_fault whole_table c f s ≡ text_fault plain_table c f s)
unfolding row_of
texts_same c place.Pass s h = tests_same c form.Pass s (few_variables s h) (pass_same c.document s h)
texts_same c place.Location s h = tests_same c form.Location s (ap (λ x. is_in_line s && x) (few_variables s h) ∙ and_true (is_in_line s)) refl
texts_same c place.Texts s h = refl
texts_same c place.Text s h = refl
texts_same c place.Addresses s h = refl
texts_same c place.Address s h = refl
texts_same c place.Type s h = refl
texts_same c place.Executable s h = refl
texts_same c place.Rewrite s h = absurd h
texts_same c place.HeaderText s h = absurd h
texts_same c place.Format s h = absurd h
texts_same c other s h = tt

-- ---- rows and entries

rows_same : (p : Place) (d : Data) → IsPlainAt p d → row_of p ≡ plain_row_of p
unfolding row_of plain_row_of
rows_same place.Rewrite d h = absurd h
rows_same place.ResponseHeaders d h = absurd h
rows_same place.HeaderText d h = absurd h
rows_same place.AccessLog d h = absurd h
rows_same place.Format d h = absurd h
rows_same other d h = refl

required_same : (p : Place) (ms : Members) → has_required (entries_of p) ms ≡ has_required (plain_entries_of p) ms
unfolding entries_of plain_entries_of
required_same place.Whole ms = refl
required_same other ms = refl

choice_same : (p : Place) (ms : Members) → IsPlainAt p (object ms) → is_choice_at whole_table p ms ≡ is_choice_at plain_table p ms
choice_same place.Action ms h =
    ap (λ (o : Option Data). plain_choice ms && (not (is_some o) || has (codes "pass") ms)) h.rewrite ∙ and_true (plain_choice ms)
choice_same other ms h = refl

-- ---- members by their name

abbrev compared : List ℕ → List ℕ → Ordering
compared k l = slice_cmp nat_cmp k l

is_equal : (o : Ordering) → o ≡ ordering_reverse o → o ≡ Equal
is_equal Less h = absurd (cc h)
is_equal Equal h = refl
is_equal Greater h = absurd (cc h)

not_among : (k : List ℕ) (ms : Members) → ComeAfter k ms → get_member k ms ≡ None
not_among k no_members h = refl
not_among k (member l d ms) h = rw h.0 (not_among k ms h.1)

past_first : (o : Ordering) (a b : Option Data) (e : Data) → (o ≡ Equal → ⊥) → a ≡ Some e → match_ordering o a b a ≡ Some e
past_first Less a b e h g = g
past_first Equal a b e h g = absurd (h refl)
past_first Greater a b e h g = g

none_some : (e : Data) → None ≡ Some e → ⊥
none_some e h = cc h

first_member : (k : List ℕ) (d : Data) (ms : Members) → get_member k (member k d ms) ≡ Some d
first_member k d ms = rw (is_equal (compared k k) (nat_list_cmp_total.antisymm k k)) refl

later_member : (j k : List ℕ) (d e : Data) (ms : Members) → ComeAfter k ms → get_member j ms ≡ Some e → get_member j (member k d ms) ≡ Some e
later_member j k d e ms h g =
    past_first (compared j k) (get_member j ms) (Some d) e
    (λ same. none_some e (sym (not_among k ms h) ∙ ap (λ (n : List ℕ). get_member n ms) (sym (same_key j k same)) ∙ g))
    g

abbrev Each : (List ℕ → Data → Type 0) → Members → Type 0
Each P no_members = ⊤
Each P (member k d ms) = P k d × Each P ms

by_get : (P : List ℕ → Data → Type 0) (ms : Members) → AreMembers ms → ((k : List ℕ) (d : Data) → get_member k ms ≡ Some d → P k d) → Each P ms
by_get P no_members h f = tt
by_get P (member k d ms) h f = (f k d (first_member k d ms), by_get P ms h.3 (λ j e g. f j e (later_member j k d e ms h.2 g)))

-- ---- the places of members

-- the member has the same place by both lists of entries, and is plain there
abbrev PlacesAgree : List Entry → List Entry → Names → List ℕ → Data → Type 0
PlacesAgree es fs ns k d = (again : Bool) → (place_of es ns again k ≡ place_of fs ns again k) × IfSome (place_of es ns again k) (λ q. IsPlainAt q d)

-- where the member has the name of an entry, it is plain at its place
abbrev Placed : List ℕ → Data → List Entry → Type 0
Placed k d [] = ⊤
Placed k d (e ∷ es) = (k ≡ e.name → IsPlainAt e.place d) × Placed k d es

chosen : (b : Bool) (p : Place) (d : Data) (o : Option Place) → (b ≡ true → IsPlainAt p d) → IfSome o (λ q. IsPlainAt q d) → IfSome (if b then Some p else o) (λ q. IsPlainAt q d)
chosen true p d o h g = h refl
chosen false p d o h g = g

among : (k : List ℕ) (d : Data) (es : List Entry) → Placed k d es → IfSome (place_among k es) (λ q. IsPlainAt q d)
among k d [] h = tt
among k d (e ∷ es) h = chosen (bytes_eq k e.name) e.place d (place_among k es) (λ same. h.0 ((bytes_eq-Decides k e.name).0 same)) (among k d es h.1)

if_placed : (b : Bool) (q : Place) (d : Data) → IsPlainAt q d → IfSome (place_if b q) (λ r. IsPlainAt r d)
if_placed true q d h = h
if_placed false q d h = tt

not_same_at : (b : Bool) (k name : List ℕ) → bytes_eq k name ≡ b → (k ≡ name → ⊥) → b ≡ false
not_same_at true k name e h = absurd (h ((bytes_eq-Decides k name).0 e))
not_same_at false k name e h = refl

not_same : (k name : List ℕ) → (k ≡ name → ⊥) → bytes_eq k name ≡ false
not_same k name h = not_same_at (bytes_eq k name) k name refl h

named_so : (k name : List ℕ) (ms : Members) (d : Data) → get_member k ms ≡ Some d → k ≡ name → get_member name ms ≡ Some d
named_so k name ms d at e = subst (λ (n : List ℕ). get_member n ms ≡ Some d) e at

not_there : (k name : List ℕ) (ms : Members) (d : Data) → get_member k ms ≡ Some d → get_member name ms ≡ None → k ≡ name → ⊥
not_there k name ms d at none e = none_some d (sym none ∙ named_so k name ms d at e)

fixed_each : (es : List Entry) (ms : Members) → ((k : List ℕ) (d : Data) → Placed k d es) → Each (PlacesAgree es es names.Fixed) ms
fixed_each es no_members f = tt
fixed_each es (member k d ms) f = (λ again. (refl, among k d es (f k d)), fixed_each es ms f)

any_each : (es fs : List Entry) (q : Place) (ms : Members) → ((d : Data) → IsPlainAt q d) → Each (PlacesAgree es fs (names.Any q)) ms
any_each es fs q no_members f = tt
any_each es fs q (member k d ms) f = (λ again. (refl, f d), any_each es fs q ms f)

target_each : (es fs : List Entry) (q : Place) (ms : Members) → All (IsPlainAt q) (values_list ms) → Each (PlacesAgree es fs (names.Target q)) ms
target_each es fs q no_members h = tt
target_each es fs q (member k d ms) h =
    (λ again. (refl, if_placed (is_target_name k) q d (All-head (IsPlainAt q) d (values_list ms) h)), target_each es fs q ms (All-tail (IsPlainAt q) d (values_list ms) h))

listener_each : (es fs : List Entry) (q : Place) (ms : Members) → All (IsPlainAt q) (values_list ms) → Each (PlacesAgree es fs (names.Listener q)) ms
listener_each es fs q no_members h = tt
listener_each es fs q (member k d ms) h =
    (λ again. (refl, if_placed (is_listener_name k) q d (All-head (IsPlainAt q) d (values_list ms) h)), listener_each es fs q ms (All-tail (IsPlainAt q) d (values_list ms) h))

all_left : (P : Data → Type 0) (xs ys : List Data) → All P (xs ++ ys) → All P xs
all_left P [] ys h = All-nil P
all_left P (x ∷ xs) ys h = All-cons P x xs (All-head P x (xs ++ ys) h) (all_left P xs ys (All-tail P x (xs ++ ys) h))

all_right : (P : Data → Type 0) (xs ys : List Data) → All P (xs ++ ys) → All P ys
all_right P [] ys h = h
all_right P (x ∷ xs) ys h = all_right P xs ys (All-tail P x (xs ++ ys) h)

steps_each : (ds : List Data) → All IsPlainStep (flat_map items_of ds) → All (IsPlainAt place.Steps) ds
steps_each [] h = All-nil (IsPlainAt place.Steps)
steps_each (d ∷ ds) h =
    All-cons (IsPlainAt place.Steps) d ds (all_left IsPlainStep (items_of d) (flat_map items_of ds) h) (steps_each ds (all_right IsPlainStep (items_of d) (flat_map items_of ds) h))

-- ---- the members of the objects that differ

whole_placed : (ms : Members) (k : List ℕ) (d : Data) → IsPlain (object ms) → get_member k ms ≡ Some d → Placed k d (entries_of place.Whole)
unfolding entries_of
whole_placed ms k d h at = (
  λ e. subst (λ (o : Option Data). All IsPlainListener (list_in member_values o)) (named_so k (codes "listeners") ms d at e) h.listeners,
  (
    λ e. subst (λ (o : Option Data). All IsPlainStep (list_in steps_of_routes o)) (named_so k (codes "routes") ms d at e) h.steps,
    (λ e. tt, (λ e. tt, (not_there k (codes "access_log") ms d at h.access_log, tt))),
  ),
)

whole_agree : (ms : Members) (k : List ℕ) (d : Data) → IsPlain (object ms) → get_member k ms ≡ Some d → place_among k (entries_of place.Whole) ≡ place_among k (plain_entries_of place.Whole)
unfolding entries_of plain_entries_of
whole_agree ms k d h at = rw (not_same k (codes "access_log") (not_there k (codes "access_log") ms d at h.access_log)) refl

listener_placed : (ms : Members) (k : List ℕ) (d : Data) → IsPlainListener (object ms) → get_member k ms ≡ Some d → Placed k d (entries_of place.Listener)
unfolding entries_of
listener_placed ms k d h at = (λ e. subst (λ (o : Option Data). IfSome (text_in o) HasNoDollar) (named_so k (codes "pass") ms d at e) h, tt)

step_placed : (ms : Members) (k : List ℕ) (d : Data) → IsPlainStep (object ms) → get_member k ms ≡ Some d → Placed k d (entries_of place.Step)
unfolding entries_of
step_placed ms k d h at =
    (λ e. tt, (λ e. subst (λ (o : Option Data). IsPlainAction o) (named_so k (codes "action") ms d at e) h, tt))

action_placed : (ms : Members) (k : List ℕ) (d : Data) → IsPlainAction (Some (object ms)) → get_member k ms ≡ Some d → Placed k d (entries_of place.Action)
unfolding entries_of
action_placed ms k d h at = (
  λ e. subst (λ (o : Option Data). IfSome (text_in o) HasNoDollar) (named_so k (codes "pass") ms d at e) h.pass,
  (
    λ e. tt,
    (
      λ e. subst (λ (o : Option Data). IfSome (text_in o) HasNoDollar) (named_so k (codes "location") ms d at e) h.location,
      (not_there k (codes "rewrite") ms d at h.rewrite, (not_there k (codes "response_headers") ms d at h.response_headers, tt)),
    ),
  ),
)

action_agree : (ms : Members) (k : List ℕ) (d : Data) → IsPlainAction (Some (object ms)) → get_member k ms ≡ Some d → place_among k (entries_of place.Action) ≡ place_among k (plain_entries_of place.Action)
unfolding entries_of plain_entries_of
action_agree ms k d h at =
    rw (not_same k (codes "rewrite") (not_there k (codes "rewrite") ms d at h.rewrite), not_same k (codes "response_headers") (not_there k (codes "response_headers") ms d at h.response_headers)) refl

-- ---- the parts of a plain value

items_plain : (p : Place) (ds : Items) → IsPlainAt p (array ds) → IfSome (row_of p).items (λ q. All (IsPlainAt q) (items_list ds))
unfolding row_of
items_plain place.Routes ds h = h
items_plain place.Steps ds h = h
items_plain place.Texts ds h = λ k d lt. tt
items_plain place.Addresses ds h = λ k d lt. tt
items_plain place.NamedTexts ds h = λ k d lt. tt
items_plain other ds h = tt

members_plain : (p : Place) (ms : Members) → AreMembers ms → IsPlainAt p (object ms) → IfSome (row_of p).members (λ ns. Each (PlacesAgree (entries_of p) (plain_entries_of p) ns) ms)
unfolding row_of entries_of plain_entries_of
members_plain place.Whole ms doc h =
    by_get (PlacesAgree (entries_of place.Whole) (plain_entries_of place.Whole) names.Fixed) ms doc (λ k d at again. (whole_agree ms k d h at, among k d (entries_of place.Whole) (whole_placed ms k d h at)))
members_plain place.Listeners ms doc h = listener_each [] [] place.Listener ms h
members_plain place.Listener ms doc h =
    by_get (PlacesAgree (entries_of place.Listener) (plain_entries_of place.Listener) names.Fixed) ms doc (λ k d at again. (refl, among k d (entries_of place.Listener) (listener_placed ms k d h at)))
members_plain place.Routes ms doc h = target_each [] [] place.Steps ms (steps_each (values_list ms) h)
members_plain place.Step ms doc h =
    by_get (PlacesAgree (entries_of place.Step) (plain_entries_of place.Step) names.Fixed) ms doc (λ k d at again. (refl, among k d (entries_of place.Step) (step_placed ms k d h at)))
members_plain place.Match ms doc h =
    fixed_each (entries_of place.Match) ms (λ k d. (λ e. tt, (λ e. tt, (λ e. tt, (λ e. tt, (λ e. tt, (λ e. tt, (λ e. tt, (λ e. tt, (λ e. tt, (λ e. tt, tt)))))))))))
members_plain place.NamedTexts ms doc h = any_each [] [] place.Texts ms (λ d. tt)
members_plain place.NamedTextsItem ms doc h = any_each [] [] place.Texts ms (λ d. tt)
members_plain place.Action ms doc h =
    by_get (PlacesAgree (entries_of place.Action) (plain_entries_of place.Action) names.Fixed) ms doc (λ k d at again. (action_agree ms k d h at, among k d (entries_of place.Action) (action_placed ms k d h at)))
members_plain place.Applications ms doc h = target_each [] [] place.Application ms (λ k d lt. tt)
members_plain place.Application ms doc h = fixed_each (entries_of place.Application) ms (λ k d. (λ e. tt, (λ e. tt, (λ e. tt, tt))))
members_plain place.Limits ms doc h = fixed_each (entries_of place.Limits) ms (λ k d. (λ e. tt, tt))
members_plain place.Settings ms doc h = fixed_each (entries_of place.Settings) ms (λ k d. (λ e. tt, tt))
members_plain place.Http ms doc h = fixed_each (entries_of place.Http) ms (λ k d. (λ e. tt, tt))
members_plain place.ResponseHeaders ms doc h = absurd h
members_plain place.AccessLog ms doc h = absurd h
members_plain other ms doc h = tt

-- ---- the walks

for_some_same : {A : Type 0} (o : Option A) (b : Option Invalid) (f g : A → Option Invalid) → IfSome o (λ x. f x ≡ g x) → for_some o b f ≡ for_some o b g
for_some_same None b f g h = refl
for_some_same (Some x) b f g h = h

object_same : (c : Context) (p : Place) (ns : Names) (ms : Members) → IsPlainAt p (object ms) → members_fault whole_table c (entries_of p) ns [] ms ≡ members_fault plain_table c (plain_entries_of p) ns [] ms → or_then (broken_if (not (has_required (entries_of p) ms)) 3) (or_then (broken_if (not (is_choice_at whole_table p ms)) 6) (members_fault whole_table c (entries_of p) ns [] ms)) ≡ or_then (broken_if (not (has_required (plain_entries_of p) ms)) 3) (or_then (broken_if (not (is_choice_at plain_table p ms)) 6) (members_fault plain_table c (plain_entries_of p) ns [] ms))
object_same c p ns ms h rest =
    ap (λ x. or_then (broken_if (not x) 3) (or_then (broken_if (not (is_choice_at whole_table p ms)) 6) (members_fault whole_table c (entries_of p) ns [] ms))) (required_same p ms)
    ∙ ap (λ x. or_then (broken_if (not (has_required (plain_entries_of p) ms)) 3) (or_then (broken_if (not x) 6) (members_fault whole_table c (entries_of p) ns [] ms))) (choice_same p ms h)
    ∙ ap (λ x. or_then (broken_if (not (has_required (plain_entries_of p) ms)) 3) (or_then (broken_if (not (is_choice_at plain_table p ms)) 6) x)) rest

mutual
  value_same : (c : Context) (p : Place) (d : Data) → IsDocument d → IsPlainAt p d → Same c p d
  value_same c p null doc h = ap (λ (r : Row). broken_if (not r.null) 1) (rows_same p null h)
  value_same c p (boolean b) doc h = refl
  value_same c p (number n) doc h =
      ap (λ (r : Row). for_some r.number (broken 1) (λ range. broken_if (not (is_in_range range n)) 4)) (rows_same p (number n) h)
  value_same c p (string s) doc h =
      for_some_same (row_of p).text (broken 1) (λ f. text_fault whole_table c f s) (λ f. text_fault plain_table c f s) (texts_same c p s h)
      ∙ ap (λ (r : Row). for_some r.text (broken 1) (λ f. text_fault plain_table c f s)) (rows_same p (string s) h)
  value_same c p (array ds) doc h =
      for_some_same (row_of p).items (broken 1) (λ q. items_fault whole_table c q 0 ds) (λ q. items_fault plain_table c q 0 ds) (IfSome_then (row_of p).items (items_plain p ds h) (λ q e. items_same c q 0 ds doc e))
      ∙ ap (λ (r : Row). for_some r.items (broken 1) (λ q. items_fault plain_table c q 0 ds)) (rows_same p (array ds) h)
  value_same c p (object ms) doc h =
      for_some_same (row_of p).members (broken 1)
      (λ ns. or_then (broken_if (not (has_required (entries_of p) ms)) 3) (or_then (broken_if (not (is_choice_at whole_table p ms)) 6) (members_fault whole_table c (entries_of p) ns [] ms)))
      (λ ns. or_then (broken_if (not (has_required (plain_entries_of p) ms)) 3) (or_then (broken_if (not (is_choice_at plain_table p ms)) 6) (members_fault plain_table c (plain_entries_of p) ns [] ms)))
      (IfSome_then (row_of p).members (members_plain p ms doc h) (λ ns e. object_same c p ns ms h (members_same c (entries_of p) (plain_entries_of p) ns [] ms doc e)))
      ∙ ap (λ (r : Row). for_some r.members (broken 1) (λ ns. or_then (broken_if (not (has_required (plain_entries_of p) ms)) 3) (or_then (broken_if (not (is_choice_at plain_table p ms)) 6) (members_fault plain_table c (plain_entries_of p) ns [] ms)))) (rows_same p (object ms) h)

  items_same : (c : Context) (q : Place) (i : ℕ) (ds : Items) → AreDocuments ds → All (IsPlainAt q) (items_list ds) → items_fault whole_table c q i ds ≡ items_fault plain_table c q i ds
  items_same c q i no_items doc h = refl
  items_same c q i (item d ds) doc h =
      ap₂ (λ x y. or_then (below (decimal i) x) y) (value_same c q d doc.0 (All-head (IsPlainAt q) d (items_list ds) h)) (items_same c q (i + 1) ds doc.1 (All-tail (IsPlainAt q) d (items_list ds) h))

  members_same : (c : Context) (es fs : List Entry) (ns : Names) (earlier : List (List ℕ)) (ms : Members) → AreMembers ms → Each (PlacesAgree es fs ns) ms → members_fault whole_table c es ns earlier ms ≡ members_fault plain_table c fs ns earlier ms
  members_same c es fs ns earlier no_members doc h = refl
  members_same c es fs ns earlier (member k d ms) doc h =
      let agree = h.0 (is_again earlier k) in
      ap₂ (λ x y. or_then (below k x) y)
      (
      for_some_same (place_of es ns (is_again earlier k) k) (broken 2) (λ q. value_fault whole_table c q d) (λ q. value_fault plain_table c q d) (IfSome_then (place_of es ns (is_again earlier k) k) agree.1 (λ q e. value_same c q d doc.1 e))
      ∙ ap (λ o. for_some o (broken 2) (λ q. value_fault plain_table c q d)) agree.0
      )
      (members_same c es fs ns (earlier ++ k ∷ []) ms doc.3 h.1)

pub faults_same : (document : Data) (handlers : List (List ℕ)) → IsDocument document → IsPlain document → fault_of document handlers ≡ fault_by plain_table document handlers
faults_same document handlers doc h = value_same (record { document = document; handlers = handlers }) place.Whole document doc h
