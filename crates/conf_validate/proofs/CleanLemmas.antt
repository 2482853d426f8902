-- Where no rule is broken of a value, none is broken of its parts.
use Rattle.std.proofs.Common.{◌≡◌, ◌∙◌, ℕ, ◌+◌, ◌≤◌, ◌^◌, Bool, true, false, not, nat_lt, ◌&&◌, List, [], ◌∷◌, ◌++◌, Option, Some, None, if◌then◌else◌, IfSome, IsTrue, All, Ordering, Less, Equal, Greater, refl, sym, ap, subst}
use Rattle.std.proofs.lemmas.Bool.{leb-true}
use Rattle.std.proofs.lemmas.List.Elements.{All-append, All-cons, All-head, All-nil, All-tail}
use Rattle.std.specs.Cmp.Lexicographic.{slice_cmp}
use Rattle.std.specs.Fmt.{decimal}
use Rattle.std.specs.List.{flat_map}
use Rattle.std.specs.Ordering.{nat_cmp, match_ordering}
use Rattle.serde_json.specs.Data.{Num, unsigned, negative, float, Data, null, boolean, number, string, array, object, Items, no_items, item, Members, no_members, member}
use Rattle.serde_json.specs.Find.{get, get_member}
use Rattle.conf_tree.specs.View.{Named}
use Rattle.conf_validate.specs.Configuration.{items_list, items_of, members_list, number_in, part, text_in, values_list}
use Rattle.conf_validate.specs.Forms.{has_form, is_again, is_target_name}
use Rattle.conf_validate.specs.Table.{Entry, entries_of, place_among, row_of, whole_table}
use Rattle.conf_validate.specs.Valid.{Context, below, broken, broken_if, for_some, has_handler, has_required, is_choice_at, is_in_range, items_fault, members_fault, or_then, place_if, place_of, text_fault, value_fault}
use Rattle.conf_validate.specs.declared.fault.Invalid.{Invalid}
use Rattle.conf_validate.specs.declared.place.Form.{Form}
use Rattle.conf_validate.specs.declared.place.Names.{Names}
use Rattle.conf_validate.specs.declared.place.Names.TheVariants as names
use Rattle.conf_validate.specs.declared.place.Place.{Place}
use Rattle.conf_validate.specs.declared.place.Range.{Range}
use Rattle.conf_validate.proofs.MemberLemmas.{same_key}
use Rattle.conf_validate.proofs.WalkLemmas.{object_walk}

-- no rule is broken of the value at the place
abbrev pub NoFault : Context → Place → Data → Type 0
NoFault c p d = value_fault whole_table c p d ≡ None

-- the value, where there is one, breaks no rule at the place
abbrev pub IsClean : Context → Place → Option Data → Type 0
IsClean c p o = (d : Data) → o ≡ Some d → NoFault c p d

pub or_left : (a b : Option Invalid) → or_then a b ≡ None → a ≡ None
or_left None b h = refl
or_left (Some f) b h = absurd (cc h)

pub or_right : (a b : Option Invalid) → or_then a b ≡ None → b ≡ None
or_right None b h = h
or_right (Some f) b h = absurd (cc h)

pub below_none : (k : List ℕ) (o : Option Invalid) → below k o ≡ None → o ≡ None
below_none k None h = refl
below_none k (Some f) h = absurd (cc h)

not_broken : (b : Bool) (rule : ℕ) → broken_if (not b) rule ≡ None → b ≡ true
not_broken true rule h = refl
not_broken false rule h = absurd (cc h)

some_same : (d e : Data) → Some d ≡ Some e → d ≡ e
some_same d e h = cc h

member_case : {P : Type 0} (o : Ordering) (a : Option Data) (e d : Data) → match_ordering o a (Some e) a ≡ Some d → (o ≡ Equal → e ≡ d → P) → (a ≡ Some d → P) → P
member_case Less a e d h f g = g h
member_case Equal a e d h f g = f refl (some_same e d h)
member_case Greater a e d h f g = g h

-- what the walk found of a member
abbrev found : Context → List Entry → Names → Bool → List ℕ → Data → Option Invalid
found c es ns again k d = for_some (place_of es ns again k) (broken 2) (λ p. value_fault whole_table c p d)

pub member_clean : (c : Context) (es : List Entry) (ns : Names) (earlier : List (List ℕ)) (ms : Members) (k : List ℕ) (d : Data) → members_fault whole_table c es ns earlier ms ≡ None → get_member k ms ≡ Some d → (again : Bool) × (found c es ns again k d ≡ None)
member_clean c es ns earlier no_members k d h m = absurd (cc m)
member_clean c es ns earlier (member n e ms) k d h m =
    let here : found c es ns (is_again earlier n) n e ≡ None = below_none n _ (or_left _ _ h) in
    member_case (slice_cmp nat_cmp k n) (get_member k ms) e d m
    (λ eq same. (is_again earlier n, subst (λ (l : List ℕ). found c es ns (is_again earlier n) l d ≡ None) (sym (same_key k n eq)) (subst (λ (y : Data). found c es ns (is_again earlier n) n y ≡ None) same here)))
    (λ rest. member_clean c es ns (earlier ++ n ∷ []) ms k d (or_right _ _ h) rest)

pub object_clean : (c : Context) (p : Place) (ns : Names) (ms : Members) → (row_of p).members ≡ Some ns → NoFault c p (object ms) → members_fault whole_table c (entries_of p) ns [] ms ≡ None
object_clean c p ns ms row h =
    or_right (broken_if (not (is_choice_at whole_table p ms)) 6) _ (or_right (broken_if (not (has_required (entries_of p) ms)) 3) _ (sym (object_walk c p ns ms row) ∙ h))

-- a member whose name is fixed
pub get_clean : (c : Context) (p q : Place) (k : List ℕ) (d : Data) → (row_of p).members ≡ Some names.Fixed → place_among k (entries_of p) ≡ Some q → NoFault c p d → IsClean c q (get k d)
get_clean c p q k null row at h = λ e m. absurd (cc m)
get_clean c p q k (boolean b) row at h = λ e m. absurd (cc m)
get_clean c p q k (number n) row at h = λ e m. absurd (cc m)
get_clean c p q k (string s) row at h = λ e m. absurd (cc m)
get_clean c p q k (array ds) row at h = λ e m. absurd (cc m)
get_clean c p q k (object ms) row at h = λ e m.
    let x = member_clean c (entries_of p) names.Fixed [] ms k e (object_clean c p names.Fixed ms row h) m in
    ap (λ o. for_some o (broken 2) (λ r. value_fault whole_table c r e)) (sym at) ∙ x.1

pub part_clean : (c : Context) (p q : Place) (k : List ℕ) (o : Option Data) → (row_of p).members ≡ Some names.Fixed → place_among k (entries_of p) ≡ Some q → IsClean c p o → IsClean c q (part k o)
part_clean c p q k None row at h = λ e m. absurd (cc m)
part_clean c p q k (Some d) row at h = get_clean c p q k d row at (h d refl)

-- what is there and breaks no rule
pub clean_some : (c : Context) (p : Place) (d : Data) → NoFault c p d → IsClean c p (Some d)
clean_some c p d h = λ e same. subst (λ (y : Data). NoFault c p y) (some_same d e same) h

-- ---- numbers and texts

pub and_left : (a b : Bool) → (a && b) ≡ true → a ≡ true
and_left true b h = refl
and_left false b h = h

and_right : (a b : Bool) → (a && b) ≡ true → b ≡ true
and_right true b h = h
and_right false b h = absurd (cc h)

if_some : (P : ℕ → Type 0) (b : Bool) (n : ℕ) → P n → IfSome (if b then Some n else None) P
if_some P true n h = h
if_some P false n h = tt

abbrev pub IsIn : Range → ℕ → Type 0
IsIn range n = (range.first ≤ n) × (n ≤ range.last)

in_range : (range : Range) (n : ℕ) → is_in_range range (unsigned n) ≡ true → IsIn range n
in_range range n h = (leb-true _ _ (and_left _ _ h), leb-true _ _ (and_right _ _ h))

number_case : (c : Context) (q : Place) (range : Range) (n : Num) → (row_of q).number ≡ Some range → NoFault c q (number n) → IfSome (number_in (Some (number n))) (IsIn range)
number_case c q range (unsigned n) row h =
    if_some (IsIn range) (nat_lt n (2 ^ 64)) n (in_range range n (not_broken _ 4 (ap (λ o. for_some o (broken 1) (λ r. broken_if (not (is_in_range r (unsigned n))) 4)) (sym row) ∙ h)))
number_case c q range (negative z) row h = tt
number_case c q range (float x) row h = tt

pub number_kept : (c : Context) (q : Place) (range : Range) (o : Option Data) → (row_of q).number ≡ Some range → IsClean c q o → IfSome (number_in o) (IsIn range)
number_kept c q range None row h = tt
number_kept c q range (Some null) row h = tt
number_kept c q range (Some (boolean b)) row h = tt
number_kept c q range (Some (number n)) row h = number_case c q range n row (h (number n) refl)
number_kept c q range (Some (string s)) row h = tt
number_kept c q range (Some (array ds)) row h = tt
number_kept c q range (Some (object ms)) row h = tt

text_case : (c : Context) (q : Place) (f : Form) (s : List ℕ) → (row_of q).text ≡ Some f → NoFault c q (string s) → text_fault whole_table c f s ≡ None
text_case c q f s row h = ap (λ o. for_some o (broken 1) (λ g. text_fault whole_table c g s)) (sym row) ∙ h

-- what is true of each text of the form that breaks no rule
pub text_kept : (P : List ℕ → Type 0) (c : Context) (q : Place) (f : Form) (o : Option Data) → (row_of q).text ≡ Some f → ((s : List ℕ) → text_fault whole_table c f s ≡ None → P s) → IsClean c q o → IfSome (text_in o) P
text_kept P c q f None row g h = tt
text_kept P c q f (Some null) row g h = tt
text_kept P c q f (Some (boolean b)) row g h = tt
text_kept P c q f (Some (number n)) row g h = tt
text_kept P c q f (Some (string s)) row g h = g s (text_case c q f s row (h (string s) refl))
text_kept P c q f (Some (array ds)) row g h = tt
text_kept P c q f (Some (object ms)) row g h = tt

pub form_kept : (c : Context) (f : Form) (s : List ℕ) → text_fault whole_table c f s ≡ None → IsTrue (has_form f s)
form_kept c f s h = not_broken (has_form f s) 5 (or_left _ _ h)

pub handler_kept : (c : Context) (f : Form) (s : List ℕ) → text_fault whole_table c f s ≡ None → has_handler c f s ≡ true
handler_kept c f s h = not_broken (has_handler c f s) 8 (or_right _ _ (or_right _ _ h))

-- ---- items and values

pub all_weaker : {A : Type 0} {P Q : A → Type 0} (xs : List A) → ((x : A) → P x → Q x) → All P xs → All Q xs
all_weaker xs f h = λ k d lt. f _ (h k d lt)

pub items_clean : (c : Context) (q : Place) (i : ℕ) (ds : Items) → items_fault whole_table c q i ds ≡ None → All (NoFault c q) (items_list ds)
items_clean c q i no_items h = All-nil (NoFault c q)
items_clean c q i (item d ds) h = All-cons (NoFault c q) d (items_list ds) (below_none (decimal i) (value_fault whole_table c q d) (or_left _ (items_fault whole_table c q (i + 1) ds) h)) (items_clean c q (i + 1) ds (or_right (below (decimal i) (value_fault whole_table c q d)) _ h))

pub array_clean : (c : Context) (p q : Place) (ds : Items) → (row_of p).items ≡ Some q → NoFault c p (array ds) → All (NoFault c q) (items_list ds)
array_clean c p q ds row h = items_clean c q 0 ds (ap (λ o. for_some o (broken 1) (λ r. items_fault whole_table c r 0 ds)) (sym row) ∙ h)

pub items_of_clean : (c : Context) (p q : Place) (d : Data) → (row_of p).items ≡ Some q → NoFault c p d → All (NoFault c q) (items_of d)
items_of_clean c p q null row h = All-nil (NoFault c q)
items_of_clean c p q (boolean b) row h = All-nil (NoFault c q)
items_of_clean c p q (number n) row h = All-nil (NoFault c q)
items_of_clean c p q (string s) row h = All-nil (NoFault c q)
items_of_clean c p q (array ds) row h = array_clean c p q ds row h
items_of_clean c p q (object ms) row h = All-nil (NoFault c q)

pub placed : (c : Context) (b : Bool) (q : Place) (d : Data) → for_some (place_if b q) (broken 2) (λ p. value_fault whole_table c p d) ≡ None → NoFault c q d
placed c true q d h = h
placed c false q d h = absurd (cc h)

pub is_placed : (c : Context) (b : Bool) (q : Place) (d : Data) → for_some (place_if b q) (broken 2) (λ p. value_fault whole_table c p d) ≡ None → b ≡ true
is_placed c true q d h = refl
is_placed c false q d h = absurd (cc h)

pub values_clean : (c : Context) (es : List Entry) (q : Place) (earlier : List (List ℕ)) (ms : Members) → members_fault whole_table c es (names.Target q) earlier ms ≡ None → All (NoFault c q) (values_list ms)
values_clean c es q earlier no_members h = All-nil (NoFault c q)
values_clean c es q earlier (member k d ms) h =
    All-cons (NoFault c q) d (values_list ms) (placed c (is_target_name k) q d (below_none k _ (or_left _ _ h))) (values_clean c es q (earlier ++ k ∷ []) ms (or_right _ _ h))

-- the values of members whose places are this one
pub members_clean : (c : Context) (es : List Entry) (ns : Names) (q : Place) → ((again : Bool) (k : List ℕ) (d : Data) → found c es ns again k d ≡ None → NoFault c q d) → (earlier : List (List ℕ)) (ms : Members) → members_fault whole_table c es ns earlier ms ≡ None → All (λ m. NoFault c q m.1) (members_list ms)
members_clean c es ns q f earlier no_members h = All-nil (λ (m : Named). NoFault c q m.1)
members_clean c es ns q f earlier (member k d ms) h =
    All-cons (λ (m : Named). NoFault c q m.1) (k, d) (members_list ms) (f (is_again earlier k) k d (below_none k _ (or_left _ _ h))) (members_clean c es ns q f (earlier ++ k ∷ []) ms (or_right _ _ h))

pub flat_clean : (c : Context) (p q : Place) (ds : List Data) → (row_of p).items ≡ Some q → All (NoFault c p) ds → All (NoFault c q) (flat_map items_of ds)
flat_clean c p q [] row h = All-nil (NoFault c q)
flat_clean c p q (d ∷ ds) row h =
    All-append (NoFault c q) (items_of d) (flat_map items_of ds) (items_of_clean c p q d row (All-head (NoFault c p) d ds h)) (flat_clean c p q ds row (All-tail (NoFault c p) d ds h))
