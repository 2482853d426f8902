-- The members of an object, one by one.
use Rattle.std.proofs.Common.{◌≡◌, ◌∙◌, ℕ, zero, suc, ◌+◌, ◌<◌, ◌≤◌, List, [], ◌∷◌, ◌++◌, length, map, drop, get_or, Some, Equal, is_eq, refl, sym, ap, append_assoc, subst, arith}
use Rattle.std.proofs.lemmas.List.{append-nil, drop_all, drop_more, map-append}
use Rattle.std.proofs.lemmas.Map.Text.{is_eq-slice_cmp}
use Rattle.std.proofs.lemmas.Slice.Eq.{bytes_eq-Decides}
use Rattle.std.specs.Cmp.Lexicographic.{slice_cmp}
use Rattle.std.specs.List.{flat_map}
use Rattle.std.specs.Ordering.{nat_cmp}
use Rattle.serde_json.specs.Data.{Members, no_members, member}
use Rattle.serde_json.specs.Events.{members_len}
use Rattle.conf_tree.specs.Document.{AreMembers, IsDocument}
use Rattle.conf_tree.specs.View.{data_of, members_of, name_at, named, value_at}
use Rattle.conf_tree.specs.declared.tree.Member.{Member}

pub same_key : (k l : List ℕ) → slice_cmp nat_cmp k l ≡ Equal → k ≡ l
same_key k l e = (bytes_eq-Decides k l).0 (sym (is_eq-slice_cmp k l) ∙ ap is_eq e)

-- the members from a place on
abbrev pub left : ℕ → List Member → Members
left i ms = members_of (map named (drop i ms))

pub left_more : (ms : List Member) (i : ℕ) (m : Member) → i < length ms → m ≡ get_or ms i m → left i ms ≡ member m.key (data_of m.value) (left (i + 1) ms)
left_more ms i m lt is =
    ap (λ (xs : List Member). members_of (map named xs)) (drop_more ms i m lt ∙ ap (λ (x : Member). x ∷ drop (i + 1) ms) (sym is))

pub left_none : (ms : List Member) (i : ℕ) → length ms ≤ i → left i ms ≡ no_members
left_none ms i past = ap (λ (xs : List Member). members_of (map named xs)) (drop_all i ms past)

-- ---- the member at a place

document_at : (ms : List Member) (i : ℕ) (d : Member) → AreMembers (members_of (map named ms)) → i < length ms → IsDocument (data_of (get_or ms i d).value)
document_at [] i d h lt = absurd (omega arith)
document_at (m ∷ ms) zero d h lt = h.1
document_at (m ∷ ms) (suc i) d h lt = document_at ms i d h.3 (omega arith)

pub member_document : (ms : List Member) (i : ℕ) (m : Member) → AreMembers (members_of (map named ms)) → i < length ms → m ≡ get_or ms i m → IsDocument (data_of m.value)
member_document ms i m h lt is = subst (λ (x : Member). IsDocument (data_of x.value)) (sym is) (document_at ms i m h lt)

name_at_place : (ms : List Member) (i : ℕ) (d : Member) → i < length ms → name_at i (members_of (map named ms)) ≡ Some (get_or ms i d).key
name_at_place [] i d h = absurd (omega arith)
name_at_place (m ∷ ms) zero d h = refl
name_at_place (m ∷ ms) (suc i) d h = name_at_place ms i d (omega arith)

value_at_place : (ms : List Member) (i : ℕ) (d : Member) → i < length ms → value_at i (members_of (map named ms)) ≡ Some (data_of (get_or ms i d).value)
value_at_place [] i d h = absurd (omega arith)
value_at_place (m ∷ ms) zero d h = refl
value_at_place (m ∷ ms) (suc i) d h = value_at_place ms i d (omega arith)

pub name_here : (all : Members) (ms : List Member) (i : ℕ) (m : Member) → all ≡ members_of (map named ms) → i < length ms → m ≡ get_or ms i m → name_at i all ≡ Some m.key
name_here all ms i m e lt is = ap (name_at i) e ∙ name_at_place ms i m lt ∙ ap (λ (x : Member). Some x.key) (sym is)

pub value_here : (all : Members) (ms : List Member) (i : ℕ) (m : Member) → all ≡ members_of (map named ms) → i < length ms → m ≡ get_or ms i m → value_at i all ≡ Some (data_of m.value)
value_here all ms i m e lt is = ap (value_at i) e ∙ value_at_place ms i m lt ∙ ap (λ (x : Member). Some (data_of x.value)) (sym is)

count : (ms : List Member) → members_len (members_of (map named ms)) ≡ length ms
count [] = refl
count (m ∷ ms) = ap suc (count ms)

pub counted : (all : Members) (ms : List Member) → all ≡ members_of (map named ms) → members_len all ≡ length ms
counted all ms e = ap members_len e ∙ count ms

-- ---- lists that are made item by item

pub one_more : {A : Type 0} (done rest whole all pushed : List A) (x : A) → pushed ≡ done ++ x ∷ [] → whole ≡ x ∷ rest → done ++ whole ≡ all → pushed ++ rest ≡ all
one_more done rest whole all pushed x p w h =
    ap (λ xs. xs ++ rest) p ∙ append_assoc done (x ∷ []) rest ∙ ap (λ xs. done ++ xs) (sym w) ∙ h

pub some_more : {A : Type 0} (done rest whole all pushed front : List A) → pushed ≡ done ++ front → whole ≡ front ++ rest → done ++ whole ≡ all → pushed ++ rest ≡ all
some_more done rest whole all pushed front p w h =
    ap (λ xs. xs ++ rest) p ∙ append_assoc done front rest ∙ ap (λ xs. done ++ xs) (sym w) ∙ h

pub ended : {A : Type 0} (done rest all : List A) → rest ≡ [] → done ++ rest ≡ all → done ≡ all
ended done rest all e h = sym (append-nil done) ∙ ap (λ xs. done ++ xs) (sym e) ∙ h

pub map-flat : {A B C : Type 0} (g : B → C) (f : A → List B) (x : A) (xs : List A) → map g (flat_map f (x ∷ xs)) ≡ map g (f x) ++ map g (flat_map f xs)
map-flat g f x xs = map-append g (f x) (flat_map f xs)
