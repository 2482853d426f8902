-- What a change keeps of a document.
use Rattle.std.proofs.Common.{◌≡◌, ℕ, zero, suc, List, [], ◌∷◌, Option, Some, None, Ordering, Less, Equal, Greater, IsUtf8, IfSome, IfOk, OnErr, Result, Ok, Err, option_map, option_and_then, refl, sym, ap, ◌∙◌, subst}
use Rattle.std.proofs.lemmas.Cmp.{nat_list_cmp_total}
use Rattle.std.specs.Cmp.Lexicographic.{slice_cmp}
use Rattle.std.specs.List.{AllByRecursion}
use Rattle.std.specs.Ordering.{nat_cmp, match_ordering, ordering_reverse}
use Rattle.std.specs.Prelude.{⊤}
use Rattle.serde_json.specs.Data.{Data, null, boolean, number, string, array, object, Items, no_items, item, Members, no_members, member, put as put_member}
use Rattle.serde_json.specs.Find.{get_item, get_member}
use Rattle.conf_tree.proofs.Order.{turned}
use Rattle.conf_tree.specs.Answers.{Puts, Appends, Removes}
use Rattle.conf_tree.specs.Document.{ComeAfter, IsDocument, AreDocuments, AreMembers}
use Rattle.conf_tree.specs.Paths.{Change, changed, absent, no_array, child, index_of, set_item, remove_item, push_item, remove_member, array_or_absent, object_or_absent, put_child, remove_child, append_item, kept_in, change_child, put, append, remove}
use Rattle.conf_tree.specs.declared.outcomes.Put.{Put}
use Rattle.conf_tree.specs.declared.outcomes.Put.TheVariants as puts
use Rattle.conf_tree.specs.declared.outcomes.Append.{Append}
use Rattle.conf_tree.specs.declared.outcomes.Append.TheVariants as appends
use Rattle.conf_tree.specs.declared.outcomes.Remove.{Remove}
use Rattle.conf_tree.specs.declared.outcomes.Remove.TheVariants as removes

IfSome-map : {A B : Type 0} (P : A → Type 0) (Q : B → Type 0) (f : A → B) (o : Option A) → ((x : A) → P x → Q (f x)) → IfSome o P → IfSome (option_map f o) Q
IfSome-map P Q f None g h = tt
IfSome-map P Q f (Some x) g h = g x h

IfSome-then : {A B : Type 0} (Q : B → Type 0) (f : A → Option B) (o : Option A) → ((x : A) → IfSome (f x) Q) → IfSome (option_and_then f o) Q
IfSome-then Q f None g = tt
IfSome-then Q f (Some x) g = g x

at_some : {A : Type 0} (P : A → Type 0) (o : Option A) (x : A) → IfSome o P → o ≡ Some x → P x
at_some P o x h e = subst (λ p. IfSome p P) e h

ordered : (P : Members → Type 0) (o : Ordering) (a b c : Members) → (o ≡ Less → P a) → (o ≡ Equal → P b) → (o ≡ Greater → P c) → P (match_ordering o a b c)
ordered P Less a b c f g h = f refl
ordered P Equal a b c f g h = g refl
ordered P Greater a b c f g h = h refl

either : {A : Type 0} (P : A → Type 0) (o : Ordering) (a b : Option A) → IfSome a P → IfSome b P → IfSome (match_ordering o a b a) P
either P Less a b h k = h
either P Equal a b h k = k
either P Greater a b h k = h

-- ---- what a key names

item_document : (ds : Items) (i : ℕ) → AreDocuments ds → IfSome (get_item i ds) IsDocument
item_document no_items i h = tt
item_document (item d ds) zero h = h.0
item_document (item d ds) (suc i) h = item_document ds i h.1

member_document : (k : List ℕ) (ms : Members) → AreMembers ms → IfSome (get_member k ms) IsDocument
member_document k no_members h = tt
member_document k (member l d ms) h = either IsDocument (slice_cmp nat_cmp k l) (get_member k ms) (Some d) (member_document k ms h.3) h.1

child_is_document : (k : List ℕ) (d : Data) → IsDocument d → IfSome (child k d) IsDocument
child_is_document k null h = tt
child_is_document k (boolean b) h = tt
child_is_document k (number n) h = tt
child_is_document k (string s) h = tt
child_is_document k (array ds) h = IfSome-then IsDocument (λ i. get_item i ds) (index_of k) (λ i. item_document ds i h)
child_is_document k (object ms) h = member_document k ms h

pub child_document : (k : List ℕ) (d c : Data) → IsDocument d → child k d ≡ Some c → IsDocument c
child_document k d c h e = at_some IsDocument (child k d) c (child_is_document k d h) e

-- ---- items

set_item_documents : (i : ℕ) (v : Data) (ds : Items) → IsDocument v → AreDocuments ds → IfSome (set_item i v ds) AreDocuments
set_item_documents i v no_items d h = tt
set_item_documents zero v (item e es) d h = (d, h.1)
set_item_documents (suc i) v (item e es) d h = IfSome-map AreDocuments AreDocuments (item e) (set_item i v es) (λ x k. (h.0, k)) (set_item_documents i v es d h.1)

remove_item_documents : (i : ℕ) (ds : Items) → AreDocuments ds → IfSome (remove_item i ds) AreDocuments
remove_item_documents i no_items h = tt
remove_item_documents zero (item e es) h = h.1
remove_item_documents (suc i) (item e es) h = IfSome-map AreDocuments AreDocuments (item e) (remove_item i es) (λ x k. (h.0, k)) (remove_item_documents i es h.1)

push_item_documents : (v : Data) (ds : Items) → IsDocument v → AreDocuments ds → AreDocuments (push_item v ds)
push_item_documents v no_items d h = (d, tt)
push_item_documents v (item e es) d h = (h.0, push_item_documents v es d h.1)

-- ---- members

later_still : (k l : List ℕ) (ms : Members) → slice_cmp nat_cmp k l ≡ Less → ComeAfter l ms → ComeAfter k ms
later_still k l no_members e h = tt
later_still k l (member m d ms) e h = (nat_list_cmp_total.trans k l m e h.0, later_still k l ms e h.1)

put_after : (l k : List ℕ) (v : Data) (ms : Members) → slice_cmp nat_cmp l k ≡ Less → ComeAfter l ms → ComeAfter l (put_member k v ms)
put_after l k v no_members e h = (e, tt)
put_after l k v (member m d ms) e h =
    ordered (ComeAfter l) (slice_cmp nat_cmp k m) (member k v (member m d ms)) (member m v ms) (member m d (put_member k v ms)) (λ _. (e, h)) (λ _. h) (λ _. (h.0, put_after l k v ms e h.1))

put_members : (k : List ℕ) (v : Data) (ms : Members) → IsUtf8 k → IsDocument v → AreMembers ms → AreMembers (put_member k v ms)
put_members k v no_members u d h = (u, d, tt, tt)
put_members k v (member l e ms) u d h =
    ordered AreMembers (slice_cmp nat_cmp k l) (member k v (member l e ms)) (member l v ms) (member l e (put_member k v ms))
    (λ less. (u, d, (less, later_still k l ms less h.2), h))
    (λ _. (h.0, d, h.2, h.3))
    (λ greater. (h.0, h.1, put_after l k v ms (turned l k ∙ ap ordering_reverse greater) h.2, put_members k v ms u d h.3))

-- the members left are members still, and come after what they came after
abbrev IsLeft : Members → Members → Type 0
IsLeft ms left = AreMembers left × ((l : List ℕ) → ComeAfter l ms → ComeAfter l left)

removed_members : (k : List ℕ) (ms : Members) → AreMembers ms → IfSome (remove_member k ms) (IsLeft ms)
removed_members k no_members h = tt
removed_members k (member l e ms) h =
    let more = IfSome-map (IsLeft ms) (IsLeft (member l e ms)) (member l e) (remove_member k ms) (λ left x. ((h.0, h.1, x.1 l h.2, x.0), λ m y. (y.0, x.1 m y.1))) (removed_members k ms h.3) in
    either (IsLeft (member l e ms)) (slice_cmp nat_cmp k l) (option_map (member l e) (remove_member k ms)) (Some ms) more (h.3, λ m y. y.1)

-- ---- a change

abbrev pub IfChanged : Change → (Data → Type 0) → Type 0
IfChanged (changed d) P = P d
IfChanged absent P = ⊤
IfChanged no_array P = ⊤

array_document : (o : Option Items) → IfSome o AreDocuments → IfChanged (array_or_absent o) IsDocument
array_document None h = tt
array_document (Some ds) h = h

object_document : (ms : Members) (o : Option Members) → IfSome o (IsLeft ms) → IfChanged (object_or_absent o) IsDocument
object_document ms None h = tt
object_document ms (Some left) h = h.0

put_child_document : (k : List ℕ) (v d : Data) → IsUtf8 k → IsDocument v → IsDocument d → IfChanged (put_child k v d) IsDocument
put_child_document k v null u w h = tt
put_child_document k v (boolean b) u w h = tt
put_child_document k v (number n) u w h = tt
put_child_document k v (string s) u w h = tt
put_child_document k v (array ds) u w h = array_document _ (IfSome-then AreDocuments (λ i. set_item i v ds) (index_of k) (λ i. set_item_documents i v ds w h))
put_child_document k v (object ms) u w h = put_members k v ms u w h

remove_child_document : (k : List ℕ) (d : Data) → IsDocument d → IfChanged (remove_child k d) IsDocument
remove_child_document k null h = tt
remove_child_document k (boolean b) h = tt
remove_child_document k (number n) h = tt
remove_child_document k (string s) h = tt
remove_child_document k (array ds) h = array_document _ (IfSome-then AreDocuments (λ i. remove_item i ds) (index_of k) (λ i. remove_item_documents i ds h))
remove_child_document k (object ms) h = object_document ms (remove_member k ms) (removed_members k ms h)

append_item_document : (v d : Data) → IsDocument v → IsDocument d → IfChanged (append_item v d) IsDocument
append_item_document v null w h = tt
append_item_document v (boolean b) w h = tt
append_item_document v (number n) w h = tt
append_item_document v (string s) w h = tt
append_item_document v (array ds) w h = push_item_documents v ds w h
append_item_document v (object ms) w h = tt

kept_document : (k : List ℕ) (d : Data) (c : Change) → IsUtf8 k → IsDocument d → IfChanged c IsDocument → IfChanged (kept_in k d c) IsDocument
kept_document k d (changed c) u h w = put_child_document k c d u w h
kept_document k d absent u h w = tt
kept_document k d no_array u h w = tt

change_child_document : (k : List ℕ) (f : Data → Change) (d : Data) (o : Option Data) → IsUtf8 k → IsDocument d → ((c : Data) → IsDocument c → IfChanged (f c) IsDocument) → IfSome o IsDocument
    → IfChanged (change_child k f d o) IsDocument
change_child_document k f d None u h g w = tt
change_child_document k f d (Some c) u h g w = kept_document k d (f c) u h (g c w)

pub put_document : (ks : List (List ℕ)) (v d : Data) → AllByRecursion IsUtf8 ks → IsDocument v → IsDocument d → IfChanged (put ks v d) IsDocument
put_document [] v d u w h = w
put_document (k ∷ []) v d u w h = put_child_document k v d u.0 w h
put_document (k ∷ l ∷ ks) v d u w h = change_child_document k (put (l ∷ ks) v) d (child k d) u.0 h (λ c x. put_document (l ∷ ks) v c u.1 w x) (child_is_document k d h)

pub append_document : (ks : List (List ℕ)) (v d : Data) → AllByRecursion IsUtf8 ks → IsDocument v → IsDocument d → IfChanged (append ks v d) IsDocument
append_document [] v d u w h = append_item_document v d w h
append_document (k ∷ ks) v d u w h = change_child_document k (append ks v) d (child k d) u.0 h (λ c x. append_document ks v c u.1 w x) (child_is_document k d h)

pub remove_document : (ks : List (List ℕ)) (d : Data) → AllByRecursion IsUtf8 ks → IsDocument d → IfChanged (remove ks d) IsDocument
remove_document [] d u h = tt
remove_document (k ∷ []) d u h = remove_child_document k d h
remove_document (k ∷ l ∷ ks) d u h = change_child_document k (remove (l ∷ ks)) d (child k d) u.0 h (λ c x. remove_document (l ∷ ks) c u.1 x) (child_is_document k d h)

-- ---- after the call

pub puts_document : {E : Type 0} (r : Result Put E) (change : Change) (old new : Data) → IsDocument old → IfChanged change IsDocument → IfOk r (λ a. Puts a change old new) → OnErr r (new ≡ old) → IsDocument new
puts_document (Ok puts.Done) change old new h k p e = subst (λ c. IfChanged c IsDocument) p k
puts_document (Ok puts.Absent) change old new h k p e = subst IsDocument (sym p.1) h
puts_document (Err x) change old new h k p e = subst IsDocument (sym e) h

pub appends_document : {E : Type 0} (r : Result Append E) (change : Change) (old new : Data) → IsDocument old → IfChanged change IsDocument → IfOk r (λ a. Appends a change old new) → OnErr r (new ≡ old) → IsDocument new
appends_document (Ok appends.Done) change old new h k p e = subst (λ c. IfChanged c IsDocument) p k
appends_document (Ok appends.Absent) change old new h k p e = subst IsDocument (sym p.1) h
appends_document (Ok appends.NoArray) change old new h k p e = subst IsDocument (sym p.1) h
appends_document (Err x) change old new h k p e = subst IsDocument (sym e) h

pub removes_document : (a : Remove) (change : Change) (old new : Data) → IsDocument old → IfChanged change IsDocument → Removes a change old new → IsDocument new
removes_document removes.Done change old new h k p = subst (λ c. IfChanged c IsDocument) p k
removes_document removes.Absent change old new h k p = subst IsDocument (sym p.1) h
