use Rattle.std.proofs.Common.{rules, ◌≡◌, ℕ, List, [], ◌∷◌, ◌++◌, map, string_bytes, sym, ap, ap₂, ◌∙◌, subst, append-nil}
use Rattle.std.proofs.lemmas.Str.{IsUtf8-string_bytes}
use Rattle.std.specs.Vec.Iter.{into_iter_items}
use Rattle.serde_json.specs.Data.{Data, string, object}
use Rattle.serde_json.specs.View.{items_of, items_view, view, members_view}
use Rattle.serde_json.specs.Written.{items_have_float, members_have_float}
use Rattle.serde_json.specs.declared.value.Value.{Value, the_lemmas}
use Rattle.serde_json.proofs.Views.{view-Object}
use Rattle.conf_tree.specs.Document.{IsDocument}
use Rattle.conf_tree.specs.Text.{HasWords, MembersHaveWords}
use Rattle.conf_tree.specs.View.{data_of, members_of, named}
use Rattle.conf_tree.specs.declared.tree.Tree.TheViews.{roll-Member}
use Rattle.conf_tree.specs.declared.tree.Member.{Member}
use Rattle.conf_tree.proofs.Reading.{Entry, HasDocuments, named_value, members_view-named, list_more, documents_more, words_more, members_more, member_documents_more, member_words_more, items_float_at, members_float_at, are_members}
use Rattle.conf_tree.proofs.Views.{data_of-Text, data_of-Object, map_data-made}
use Rattle.conf_tree.proofs.read.+tree_of_value.Goals as goal

pub tree_of_value-returns-in-String : goal.tree_of_value-returns-in-String
tree_of_value-returns-in-String t c =
    let seen : view c.args.value ≡ string (string_bytes c.in-String.text) = rw c.in-String.is (search (rules, the_lemmas)) in (
      data_of-Text c.of.result ∙ ap string (c.of.ensures ∙ ap (λ v. v.items) c.into_bytes.ensures.value) ∙ sym seen,
      subst IsDocument (sym seen) (IsUtf8-string_bytes c.in-String.text),
      subst HasWords (sym seen) tt,
    )

pub tree_of_value-returns-in-Some-3 : goal.tree_of_value-returns-in-Some-3
tree_of_value-returns-in-Some-3 t c =
    let seen : view c.args.value ≡ object (members_view c.in-Object.members.entries) = ap view c.in-Object.is ∙ view-Object c.in-Object.members in
    let m = rw c.in-Some-3.is at c.in_ok-map-in-Object.ensures in
    (data_of-Object c.in-Some-3.map ∙ ap object m.0 ∙ sym seen, subst IsDocument (sym seen) m.1, subst HasWords (sym seen) m.2)

-- ---- the items

pub list_of_values-loop-item-preserved : goal.list_of_values-loop-item-preserved
list_of_values-loop-item-preserved t c =
    let l = c.loop-item in
    let v = c.in-Some.item in
    let tree = c.in-Some-2.tree in
    let pushed = c.in_ok-push-in-Some-2.ensures.items in
    let is = rw c.in-Some-2.is at c.in_ok-tree.ensures in
    record {
      whole = list_more l.list.items c.push.new.self.items tree (into_iter_items l.item-iterator) (into_iter_items c.next.new.self) v (items_view c.args.items.items) pushed c.in-Some.ensures.steps.0 is.0 l.invariant.whole;
      documents = documents_more l.list.items c.push.new.self.items tree pushed l.invariant.documents (subst IsDocument (sym is.0) is.1);
      numbers = words_more l.list.items c.push.new.self.items tree pushed l.invariant.numbers (subst HasWords (sym is.0) is.2);
    }

pub list_of_values-returns-in-None-2 : goal.list_of_values-returns-in-None-2
list_of_values-returns-in-None-2 t c =
    let l = c.loop-item in
    let done = map data_of l.list.items in
    let rest = map view (into_iter_items c.next.new.self) in
    let whole : items_of (done ++ view c.in-Some.item ∷ rest) ≡ items_view c.args.items.items = ap (λ (vs : List Value). items_of (done ++ map view vs)) (sym c.in-Some.ensures.steps.0) ∙ l.invariant.whole in
    ap items_have_float (sym whole) ∙ items_float_at done (view c.in-Some.item) rest (rw c.in-None-2.is at c.in_ok-tree.ensures)

-- ---- the members

pub map_of_values-loop-name-init : goal.map_of_values-loop-name-init
map_of_values-loop-name-init t c =
    let none = c.in_ok-members.ensures.items in
    let all = c.into_iter-name-iterator.ensures.into_iter_gives.0 in
    record {
      whole = ap₂ (λ (ms : List Member) (es : List Entry). members_of (map named ms ++ map named_value es)) none all ∙ members_view-named c.args.values.entries;
      documents = subst (λ (ms : List Member). HasDocuments (members_of (map named ms))) (sym none) tt;
      numbers = subst (λ (ms : List Member). MembersHaveWords (members_of (map named ms))) (sym none) tt;
    }

pub map_of_values-loop-name-preserved : goal.map_of_values-loop-name-preserved
map_of_values-loop-name-preserved t c =
    let l = c.loop-name in
    let e : Entry = (c.in-Some.name, c.in-Some.value) in
    let new : Member = roll-Member (record { key = c.of-key.result; value = c.in-Some-2.value }) in
    let pushed : c.push.new.self.items ≡ l.members.items ++ new ∷ [] = c.in_ok-push-in-Some-2.ensures.items in
    let is = rw c.in-Some-2.is at c.in_ok-value.ensures in
    let same : named new ≡ named_value e = ap₂ (λ (k : List ℕ) (d : Data). (k, d)) (c.of-key.ensures ∙ ap (λ v. v.items) c.into_bytes.ensures.value) is.0 in
    record {
      whole = members_more l.members.items c.push.new.self.items new l.name-iterator c.next.new.self e (members_view c.args.values.entries) pushed c.in-Some.ensures.steps same l.invariant.whole;
      documents = member_documents_more l.members.items c.push.new.self.items new pushed l.invariant.documents (subst IsDocument (sym is.0) is.1);
      numbers = member_words_more l.members.items c.push.new.self.items new pushed l.invariant.numbers (subst HasWords (sym is.0) is.2);
    }

pub map_of_values-returns-in-None-2 : goal.map_of_values-returns-in-None-2
map_of_values-returns-in-None-2 t c =
    let l = c.loop-name in
    let e : Entry = (c.in-Some.name, c.in-Some.value) in
    let done = map named l.members.items in
    let rest = map named_value c.next.new.self in
    let whole : members_of (done ++ named_value e ∷ rest) ≡ members_view c.args.values.entries = ap (λ (es : List Entry). members_of (done ++ map named_value es)) (sym c.in-Some.ensures.steps) ∙ l.invariant.whole in
    ap members_have_float (sym whole) ∙ members_float_at done (named_value e) rest (rw c.in-None-2.is at c.in_ok-value.ensures)

pub map_of_values-returns : goal.map_of_values-returns
map_of_values-returns t c =
    let l = c.loop-name in
    let done = map named l.members.items in
    let whole : members_of done ≡ members_view c.args.values.entries =
    ap members_of (sym (append-nil done)) ∙ ap (λ (es : List Entry). members_of (done ++ map named_value es)) (sym c.in-None.ensures.steps.0) ∙ l.invariant.whole in (
      map_data-made l.members ∙ whole,
      are_members c.args.values.entries c.len.ensures.ordered (subst HasDocuments whole l.invariant.documents),
      subst MembersHaveWords whole l.invariant.numbers,
    )
