-- A change of what a key names, seen from the value that the key is looked up in.
use Rattle.std.proofs.Common.{◌≡◌, ℕ, ◌<◌, List, [], ◌∷◌, length, get_or, set, map, Some, None, option_and_then, refl, sym, ap, ap₂, ◌∙◌, subst, arith}
use Rattle.std.proofs.lemmas.List.{map-set}
use Rattle.std.proofs.Math.ListN.{get_or-map}
use Rattle.std.proofs.Math.Seq.{map-set_same}
use Rattle.serde_json.specs.Data.{Data, array, object, no_members}
use Rattle.serde_json.specs.View.{items_of}
use Rattle.conf_tree.specs.Answers.{Puts, Appends, Removes}
use Rattle.conf_tree.specs.Paths.{changed, absent, index_of, child, set_item, array_or_absent, put_child, remove_child, change_child, put, append, remove}
use Rattle.conf_tree.specs.Places.{HasNameAt}
use Rattle.conf_tree.specs.View.{Named, data_of, list_data, members_of, named}
use Rattle.conf_tree.specs.declared.outcomes.Put.{Put}
use Rattle.conf_tree.specs.declared.outcomes.Put.TheVariants as puts
use Rattle.conf_tree.specs.declared.outcomes.Append.{Append}
use Rattle.conf_tree.specs.declared.outcomes.Append.TheVariants as appends
use Rattle.conf_tree.specs.declared.outcomes.Remove.{Remove}
use Rattle.conf_tree.specs.declared.outcomes.Remove.TheVariants as removes
use Rattle.conf_tree.specs.declared.tree.Tree.{Tree}
use Rattle.conf_tree.specs.declared.tree.Member.{Member}
use Rattle.conf_tree.proofs.Children.{child_item, child_member}
use Rattle.conf_tree.proofs.Items.{set_item_within}
use Rattle.conf_tree.proofs.Members.{put_named}

-- the key names c in d, and with c' in its place d is d'
pub record Through (k : List ℕ) (d c c' d' : Data) : Type 0 where
  pub found : child k d ≡ Some c
  pub kept : put_child k c' d ≡ changed d'
  pub same : c' ≡ c → d' ≡ d

pub same_item : (ts : List Tree) (i : ℕ) (t t' : Tree) → t ≡ get_or ts i t → data_of t' ≡ data_of t → list_data (set ts i t') ≡ list_data ts
same_item ts i t t' is s = ap items_of (map-set_same data_of ts i t' t (s ∙ ap data_of is))

pub same_member : (ms : List Member) (i : ℕ) (m m' : Member) → m ≡ get_or ms i m → m'.key ≡ m.key → data_of m'.value ≡ data_of m.value → members_of (map named (set ms i m')) ≡ members_of (map named ms)
same_member ms i m m' is key s = ap members_of (map-set_same named ms i m' m (ap₂ (λ l d. (l, d)) key s ∙ ap named is))

pub through_item : (k : List ℕ) (ts : List Tree) (i : ℕ) (t t' : Tree) → index_of k ≡ Some i → i < length ts → t ≡ get_or ts i t
    → Through k (array (list_data ts)) (data_of t) (data_of t') (array (list_data (set ts i t')))
through_item k ts i t t' e h is = record {
  found = child_item k ts i t e h ∙ ap (λ x. Some (data_of x)) (sym is);
  kept = ap (λ o. array_or_absent (option_and_then (λ j. set_item j (data_of t') (list_data ts)) o)) e ∙ ap array_or_absent (set_item_within ts i t' h);
  same = λ s. ap array (same_item ts i t t' is s);
}

pub through_member : (k : List ℕ) (ms : List Member) (i : ℕ) (m m' : Member) → HasNameAt k (map named ms) i → m ≡ get_or ms i m → m'.key ≡ m.key
    → Through k (object (members_of (map named ms))) (data_of m.value) (data_of m'.value) (object (members_of (map named (set ms i m'))))
through_member k ms i m m' h is key =
    let es = map named ms in
    let here : get_or es i (named m) ≡ named m = get_or-map named ms i m ∙ ap named (sym is) in
    let new : named m' ≡ ((get_or es i (named m)).0, data_of m'.value) = ap (λ l. (l, data_of m'.value)) (key ∙ sym (ap (λ (e : Named). e.0) here)) in
    record {
      found = child_member k ms i m h ∙ ap (λ (x : Member). Some (data_of x.value)) (sym is);
      kept = ap (λ l. changed (object l)) (put_named k (data_of m'.value) es i (named m) h ∙ ap (λ e. members_of (set es i e)) (sym new) ∙ ap members_of (sym (map-set named ms i m')));
      same = λ s. ap object (same_member ms i m m' is key s);
    }

pub put_through : (k : List ℕ) (ks : List (List ℕ)) (v d c c' d' : Data) (a : Put) → Through k d c c' d' → Puts a (put ks v c) c c' → Puts a (put (k ∷ ks) v d) d d'
put_through k [] v d c c' d' puts.Done t p = let same : v ≡ c' = cc in subst (λ w. put_child k w d ≡ changed d') (sym same) t.kept
put_through k [] v d c c' d' puts.Absent t p = absurd (cc (p.0))
put_through k (l ∷ ks) v d c c' d' puts.Done t p = ap (change_child k (put (l ∷ ks) v) d) t.found ∙ rw p t.kept
put_through k (l ∷ ks) v d c c' d' puts.Absent t p = (ap (change_child k (put (l ∷ ks) v) d) t.found ∙ rw (p.0) refl, t.same p.1)

pub append_through : (k : List ℕ) (ks : List (List ℕ)) (v d c c' d' : Data) (a : Append) → Through k d c c' d' → Appends a (append ks v c) c c' → Appends a (append (k ∷ ks) v d) d d'
append_through k ks v d c c' d' appends.Done t p = ap (change_child k (append ks v) d) t.found ∙ rw p t.kept
append_through k ks v d c c' d' appends.Absent t p = (ap (change_child k (append ks v) d) t.found ∙ rw (p.0) refl, t.same p.1)
append_through k ks v d c c' d' appends.NoArray t p = (ap (change_child k (append ks v) d) t.found ∙ rw (p.0) refl, t.same p.1)

pub remove_through : (k : List ℕ) (ks : List (List ℕ)) (d c c' d' : Data) (a : Remove) → 0 < length ks → Through k d c c' d' → Removes a (remove ks c) c c' → Removes a (remove (k ∷ ks) d) d d'
remove_through k [] d c c' d' a some t p = absurd (omega arith)
remove_through k (l ∷ ks) d c c' d' removes.Done some t p = ap (change_child k (remove (l ∷ ks)) d) t.found ∙ rw p t.kept
remove_through k (l ∷ ks) d c c' d' removes.Absent some t p = (ap (change_child k (remove (l ∷ ks)) d) t.found ∙ rw (p.0) refl, t.same p.1)

-- ---- nothing is there

pub put_nowhere : (k : List ℕ) (ks : List (List ℕ)) (v d : Data) → child k d ≡ None → put_child k v d ≡ absent → put (k ∷ ks) v d ≡ absent
put_nowhere k [] v d e h = h
put_nowhere k (l ∷ ks) v d e h = ap (change_child k (put (l ∷ ks) v) d) e

pub put_unfound : (k : List ℕ) (ks : List (List ℕ)) (v d : Data) → 0 < length ks → child k d ≡ None → put (k ∷ ks) v d ≡ absent
put_unfound k [] v d some e = absurd (omega arith)
put_unfound k (l ∷ ks) v d some e = ap (change_child k (put (l ∷ ks) v) d) e

pub remove_nowhere : (k : List ℕ) (ks : List (List ℕ)) (d : Data) → child k d ≡ None → remove_child k d ≡ absent → remove (k ∷ ks) d ≡ absent
remove_nowhere k [] d e h = h
remove_nowhere k (l ∷ ks) d e h = ap (change_child k (remove (l ∷ ks)) d) e

pub append_nowhere : (k : List ℕ) (ks : List (List ℕ)) (v d : Data) → child k d ≡ None → append (k ∷ ks) v d ≡ absent
append_nowhere k ks v d e = ap (change_child k (append ks v) d) e

-- ---- the last key

pub remove_last : (k : List ℕ) (ks : List (List ℕ)) (d : Data) → length ks ≡ 0 → remove (k ∷ ks) d ≡ remove_child k d
remove_last k [] d e = refl
remove_last k (l ∷ ks) d e = absurd (omega arith)

pub remove_whole : (ks : List (List ℕ)) (d : Data) → length ks ≡ 0 → remove ks d ≡ changed (object no_members)
remove_whole [] d e = refl
remove_whole (k ∷ ks) d e = absurd (omega arith)
