-- A change of what one key names: it is found there, and what other keys name stays.
use Rattle.std.proofs.Common.{◌≡◌, ℕ, zero, suc, ◌<◌, ◌≤◌, List, Option, Some, None, Ordering, Less, Equal, Greater, is_eq, IfSome, option_map, option_and_then, refl, sym, ap, ◌∙◌, subst, arith}
use Rattle.std.proofs.lemmas.Cmp.{nat_list_cmp_total, tied_itself}
use Rattle.std.proofs.lemmas.Map.Text.{is_eq-slice_cmp}
use Rattle.std.proofs.lemmas.Slice.Eq.{bytes_eq-Decides}
use Rattle.std.specs.Cmp.Lexicographic.{slice_cmp}
use Rattle.std.specs.Ordering.{nat_cmp, match_ordering}
use Rattle.serde_json.specs.Data.{Data, null, boolean, number, string, array, object, Items, no_items, item, Members, no_members, member, put as put_member}
use Rattle.serde_json.specs.Find.{get_item, get_member}
use Rattle.conf_tree.specs.Document.{AreMembers, ComeAfter, IsDocument}
use Rattle.conf_tree.specs.Laws.{AreItemsWithout, AreMembersWithout, IsWithout, an_item, a_member}
use Rattle.conf_tree.specs.Paths.{Change, changed, absent, no_array, array_or_absent, child, index_of, kept_in, object_or_absent, put_child, remove_child, remove_item, remove_member, set_item, change_child}
use Rattle.conf_tree.proofs.Documents.{IfChanged}
use Rattle.conf_tree.proofs.IndexLemmas.{one_key}

pub mapped : {A B : Type 0} (P : A → Type 0) (Q : B → Type 0) (f : A → B) (o : Option A) → ((x : A) → P x → Q (f x)) → IfSome o P → IfSome (option_map f o) Q
mapped P Q f None g h = tt
mapped P Q f (Some x) g h = g x h

by_order : (P : Members → Type 0) (o : Ordering) (a b c : Members) → (o ≡ Less → P a) → (o ≡ Equal → P b) → (o ≡ Greater → P c) → P (match_ordering o a b c)
by_order P Less a b c f g h = f refl
by_order P Equal a b c f g h = g refl
by_order P Greater a b c f g h = h refl

unless_equal : {A : Type 0} (o : Ordering) (a b : A) → (o ≡ Equal → ⊥) → match_ordering o a b a ≡ a
unless_equal Less a b h = refl
unless_equal Equal a b h = absurd (h refl)
unless_equal Greater a b h = refl

same_key : (k l : List ℕ) → slice_cmp nat_cmp k l ≡ Equal → k ≡ l
same_key k l e = (bytes_eq-Decides k l).0 (sym (is_eq-slice_cmp k l) ∙ ap is_eq e)

-- ---- members

member_put : (k : List ℕ) (v : Data) (ms : Members) → get_member k (put_member k v ms) ≡ Some v
member_put k v no_members = rw (tied_itself nat_list_cmp_total k) refl
member_put k v (member l e ms) =
    by_order (λ ns. get_member k ns ≡ Some v) (slice_cmp nat_cmp k l) (member k v (member l e ms)) (member l v ms) (member l e (put_member k v ms))
    (λ less. rw (tied_itself nat_list_cmp_total k) refl)
    (λ equal. rw equal refl)
    (λ greater. rw greater (member_put k v ms))

member_other : (k l : List ℕ) (v : Data) (ms : Members) → (k ≡ l → ⊥) → get_member l (put_member k v ms) ≡ get_member l ms
member_other k l v no_members differ = unless_equal (slice_cmp nat_cmp l k) None (Some v) (λ e. differ (sym (same_key l k e)))
member_other k l v (member m e ms) differ =
    by_order (λ ns. get_member l ns ≡ get_member l (member m e ms)) (slice_cmp nat_cmp k m) (member k v (member m e ms)) (member m v ms) (member m e (put_member k v ms))
    (λ less. unless_equal (slice_cmp nat_cmp l k) (get_member l (member m e ms)) (Some v) (λ equal. differ (sym (same_key l k equal))))
    (λ equal. let apart : slice_cmp nat_cmp l m ≡ Equal → ⊥ = λ tied. differ (same_key k m equal ∙ sym (same_key l m tied)) in
    unless_equal (slice_cmp nat_cmp l m) (get_member l ms) (Some v) apart ∙ sym (unless_equal (slice_cmp nat_cmp l m) (get_member l ms) (Some e) apart))
    (λ greater. ap (λ x. match_ordering (slice_cmp nat_cmp l m) x (Some e) x) (member_other k l v ms differ))

-- ---- items

item_set : (i : ℕ) (v : Data) (ds : Items) → IfSome (set_item i v ds) (λ es. get_item i es ≡ Some v)
item_set i v no_items = tt
item_set zero v (item d ds) = refl
item_set (suc i) v (item d ds) = mapped (λ es. get_item i es ≡ Some v) (λ es. get_item (suc i) es ≡ Some v) (item d) (set_item i v ds) (λ es h. h) (item_set i v ds)

item_other : (i j : ℕ) (v : Data) (ds : Items) → (i ≡ j → ⊥) → IfSome (set_item i v ds) (λ es. get_item j es ≡ get_item j ds)
item_other i j v no_items differ = tt
item_other zero zero v (item d ds) differ = absurd (differ refl)
item_other zero (suc j) v (item d ds) differ = refl
item_other (suc i) zero v (item d ds) differ = mapped (λ es. Unit {0}) (λ es. get_item 0 es ≡ Some d) (item d) (set_item i v ds) (λ es h. refl) (always (set_item i v ds))
  where
    always : (o : Option Items) → IfSome o (λ es. Unit {0})
    always None = tt
    always (Some es) = tt
item_other (suc i) (suc j) v (item d ds) differ =
    mapped (λ es. get_item j es ≡ get_item j ds) (λ es. get_item (suc j) es ≡ get_item j ds) (item d) (set_item i v ds) (λ es h. h) (item_other i j v ds (λ e. differ (ap suc e)))

-- ---- what a key names

array_changed : (P : Data → Type 0) (o : Option Items) → IfSome o (λ es. P (array es)) → IfChanged (array_or_absent o) P
array_changed P None h = tt
array_changed P (Some es) h = h

child_at : (k : List ℕ) (i : ℕ) (es : Items) → index_of k ≡ Some i → child k (array es) ≡ get_item i es
child_at k i es e = ap (option_and_then (λ j. get_item j es)) e

weaker : {A : Type 0} (P Q : A → Type 0) (o : Option A) → ((x : A) → P x → Q x) → IfSome o P → IfSome o Q
weaker P Q None f h = tt
weaker P Q (Some x) f h = f x h

put_item : (k : List ℕ) (v : Data) (ds : Items) (o : Option ℕ) → index_of k ≡ o → IfChanged (array_or_absent (option_and_then (λ i. set_item i v ds) o)) (λ e. child k e ≡ Some v)
put_item k v ds None e = tt
put_item k v ds (Some i) e =
    array_changed (λ d. child k d ≡ Some v) (set_item i v ds)
    (weaker (λ es. get_item i es ≡ Some v) (λ es. child k (array es) ≡ Some v) (set_item i v ds) (λ es h. child_at k i es e ∙ h) (item_set i v ds))

-- what was put is named by the key
pub child_put : (k : List ℕ) (v d : Data) → IfChanged (put_child k v d) (λ e. child k e ≡ Some v)
child_put k v null = tt
child_put k v (boolean b) = tt
child_put k v (number n) = tt
child_put k v (string s) = tt
child_put k v (array ds) = put_item k v ds (index_of k) refl
child_put k v (object ms) = member_put k v ms

by_index : (l : List ℕ) (ds es : Items) (o : Option ℕ) → index_of l ≡ o → ((j : ℕ) → o ≡ Some j → get_item j es ≡ get_item j ds) → child l (array es) ≡ child l (array ds)
by_index l ds es None e h = ap (option_and_then (λ j. get_item j es)) e ∙ sym (ap (option_and_then (λ j. get_item j ds)) e)
by_index l ds es (Some j) e h = child_at l j es e ∙ h j refl ∙ sym (child_at l j ds e)

other_item : (k l : List ℕ) (v : Data) (ds : Items) (o p : Option ℕ) → index_of k ≡ o → index_of l ≡ p → (k ≡ l → ⊥) → IfChanged (array_or_absent (option_and_then (λ i. set_item i v ds) o)) (λ e. child l e ≡ child l (array ds))
other_item k l v ds None p e f differ = tt
other_item k l v ds (Some i) None e f differ =
    array_changed (λ d. child l d ≡ child l (array ds)) (set_item i v ds) (all (set_item i v ds))
  where
    all : (o : Option Items) → IfSome o (λ es. child l (array es) ≡ child l (array ds))
    all None = tt
    all (Some es) = by_index l ds es None f (λ j e. absurd (cc e))
other_item k l v ds (Some i) (Some j) e f differ =
    array_changed (λ d. child l d ≡ child l (array ds)) (set_item i v ds)
    (weaker (λ es. get_item j es ≡ get_item j ds) (λ es. child l (array es) ≡ child l (array ds)) (set_item i v ds)
    (λ es h. child_at l j es f ∙ h ∙ sym (child_at l j ds f))
    (item_other i j v ds (λ same. differ (one_key k l i e (f ∙ ap (λ n. Some n) (sym same))))))

-- what another key names stays
pub child_other : (k l : List ℕ) (v d : Data) → (k ≡ l → ⊥) → IfChanged (put_child k v d) (λ e. child l e ≡ child l d)
child_other k l v null differ = tt
child_other k l v (boolean b) differ = tt
child_other k l v (number n) differ = tt
child_other k l v (string s) differ = tt
child_other k l v (array ds) differ = other_item k l v ds (index_of k) (index_of l) refl refl differ
child_other k l v (object ms) differ = member_other k l v ms differ

-- ---- what is removed

items_without : (i : ℕ) (ds : Items) → IfSome (remove_item i ds) (AreItemsWithout i ds)
items_without i no_items = tt
items_without zero (item d ds) = record { earlier = λ j lt. absurd (omega (arith, lt)); later = λ j le. refl }
items_without (suc i) (item d ds) =
    mapped (AreItemsWithout i ds) (AreItemsWithout (suc i) (item d ds)) (item d) (remove_item i ds)
    (λ es h. record { earlier = early es h; later = late es h })
    (items_without i ds)
  where
    early : (es : Items) → AreItemsWithout i ds es → (j : ℕ) → j < suc i → get_item j (item d es) ≡ get_item j (item d ds)
    early es h zero lt = refl
    early es h (suc j) lt = h.earlier j (omega (arith, lt))

    late : (es : Items) → AreItemsWithout i ds es → (j : ℕ) → suc i ≤ j → get_item j (item d es) ≡ get_item (suc j) (item d ds)
    late es h zero le = absurd (omega (arith, le))
    late es h (suc j) le = h.later j (omega (arith, le))

come_after_none : (k : List ℕ) (ms : Members) → ComeAfter k ms → get_member k ms ≡ None
come_after_none k no_members h = refl
come_after_none k (member l d ms) h =
    let apart : slice_cmp nat_cmp k l ≡ Equal → ⊥ = λ e. let less = h.0 in cc (e, less) in
    unless_equal (slice_cmp nat_cmp k l) (get_member k ms) (Some d) apart ∙ come_after_none k ms h.1

either_way : (P : Members → Type 0) (o : Ordering) (a b : Option Members) → (o ≡ Equal → IfSome b P) → ((o ≡ Equal → ⊥) → IfSome a P) → IfSome (match_ordering o a b a) P
either_way P Less a b f g = g (λ e. cc e)
either_way P Equal a b f g = f refl
either_way P Greater a b f g = g (λ e. cc e)

members_without : (k : List ℕ) (ms : Members) → AreMembers ms → IfSome (remove_member k ms) (AreMembersWithout k ms)
members_without k no_members h = tt
members_without k (member l d ms) h =
    either_way (AreMembersWithout k (member l d ms)) (slice_cmp nat_cmp k l) (option_map (member l d) (remove_member k ms)) (Some ms)
    (λ equal. let same : k ≡ l = same_key k l equal in
    record {
      gone = come_after_none k ms (subst (λ (n : List ℕ). ComeAfter n ms) (sym same) h.2);
      others = λ m differ. sym (unless_equal (slice_cmp nat_cmp m l) (get_member m ms) (Some d) (λ tied. differ (same ∙ sym (same_key m l tied))));
    })
    (λ apart. mapped (AreMembersWithout k ms) (AreMembersWithout k (member l d ms)) (member l d) (remove_member k ms)
    (λ ns left. record {
      gone = unless_equal (slice_cmp nat_cmp k l) (get_member k ns) (Some d) apart ∙ left.gone;
      others = λ m differ. ap (λ x. match_ordering (slice_cmp nat_cmp m l) x (Some d) x) (left.others m differ);
    })
    (members_without k ms h.3))

item_gone : (k : List ℕ) (ds : Items) (o : Option ℕ) → index_of k ≡ o → IfChanged (array_or_absent (option_and_then (λ i. remove_item i ds) o)) (IsWithout k (array ds))
item_gone k ds None e = tt
item_gone k ds (Some i) e =
    array_changed (IsWithout k (array ds)) (remove_item i ds)
    (weaker (AreItemsWithout i ds) (λ es. IsWithout k (array ds) (array es)) (remove_item i ds) (λ es h. an_item i ds es e refl refl h) (items_without i ds))

member_gone : (k : List ℕ) (ms : Members) (o : Option Members) → IfSome o (AreMembersWithout k ms) → IfChanged (object_or_absent o) (IsWithout k (object ms))
member_gone k ms None h = tt
member_gone k ms (Some ns) h = a_member ms ns refl refl h

pub child_gone : (k : List ℕ) (d : Data) → IsDocument d → IfChanged (remove_child k d) (IsWithout k d)
child_gone k null h = tt
child_gone k (boolean b) h = tt
child_gone k (number n) h = tt
child_gone k (string s) h = tt
child_gone k (array ds) h = item_gone k ds (index_of k) refl
child_gone k (object ms) h = member_gone k ms (remove_member k ms) (members_without k ms h)

-- ---- one level of a change

-- the key names c in d and c' in e, and what another key names is the same in both
pub record IsLevel (k : List ℕ) (c c' d e : Data) : Type 0 where
  pub had : child k d ≡ Some c
  pub has : child k e ≡ Some c'
  pub others : (l : List ℕ) → (k ≡ l → ⊥) → child l e ≡ child l d

-- what f makes of what the key names
pub record IsStep (k : List ℕ) (f : Data → Change) (d e : Data) : Type 0 where
  pub old : Data
  pub new : Data
  pub made : f old ≡ changed new
  pub level : IsLevel k old new d e

together : (P Q R : Data → Type 0) (change : Change) → ((e : Data) → P e → Q e → R e) → IfChanged change P → IfChanged change Q → IfChanged change R
together P Q R (changed e) f h k = f e h k
together P Q R absent f h k = tt
together P Q R no_array f h k = tt

pub weaker_changed : (P Q : Data → Type 0) (change : Change) → ((e : Data) → P e → Q e) → IfChanged change P → IfChanged change Q
weaker_changed P Q (changed e) f h = f e h
weaker_changed P Q absent f h = tt
weaker_changed P Q no_array f h = tt

pub at_changed : (P : Data → Type 0) (change : Change) (e : Data) → IfChanged change P → change ≡ changed e → P e
at_changed P change e h is = subst (λ (c : Change). IfChanged c P) is h

-- what another key names stays, for each other key
others_stay : (k : List ℕ) (v d e : Data) → put_child k v d ≡ changed e → (l : List ℕ) → (k ≡ l → ⊥) → child l e ≡ child l d
others_stay k v d e is l differ = at_changed (λ x. child l x ≡ child l d) (put_child k v d) e (child_other k l v d differ) is

kept_level : (k : List ℕ) (f : Data → Change) (d c : Data) (change : Change) → child k d ≡ Some c → f c ≡ change → IfChanged (kept_in k d change) (IsStep k f d)
kept_level k f d c (changed c') had made = all (put_child k c' d) refl
  where
    all : (change : Change) → put_child k c' d ≡ change → IfChanged change (IsStep k f d)
    all (changed e) is = record {
      old = c;
      new = c';
      made = made;
      level = record {
        had = had;
        has = at_changed (λ x. child k x ≡ Some c') (put_child k c' d) e (child_put k c' d) is;
        others = others_stay k c' d e is;
      };
    }
    all absent is = tt
    all no_array is = tt
kept_level k f d c absent had made = tt
kept_level k f d c no_array had made = tt

pub step_of : (k : List ℕ) (f : Data → Change) (d : Data) (o : Option Data) → child k d ≡ o → IfChanged (change_child k f d o) (IsStep k f d)
step_of k f d None e = tt
step_of k f d (Some c) e = kept_level k f d c (f c) e refl
