use Rattle.std.proofs.Common.{rules, ◌≡◌, ◌≤◌, ℕ, List, length, map, set, Some, refl, sym, ap, ◌∙◌, subst, arith, option_and_then}
use Rattle.serde_json.specs.Data.{Members, array, object}
use Rattle.conf_tree.specs.Answers.{Removes}
use Rattle.conf_tree.specs.Paths.{index_of, remove, remove_item, array_or_absent, object_or_absent, changed}
use Rattle.conf_tree.specs.View.{data_of, list_data, map_data, members_of, named}
use Rattle.conf_tree.specs.declared.tree.Tree.{Tree}
use Rattle.conf_tree.specs.declared.tree.Tree.TheViews.{roll-Member}
use Rattle.conf_tree.specs.declared.tree.Member.{Member}
use Rattle.conf_tree.specs.declared.tree.TreeMap.{out-TreeMap}
use Rattle.conf_tree.proofs.Views.{data_of-Object, map_data-made}
use Rattle.conf_tree.proofs.Children.{child_no_item, no_item_at, bounded}
use Rattle.conf_tree.proofs.Items.{remove_item_within, remove_item_past}
use Rattle.conf_tree.proofs.Listed.{map-remove}
use Rattle.conf_tree.proofs.Members.{get_unnamed, remove_named, remove_unnamed}
use Rattle.conf_tree.proofs.Parts.{item_is_document, member_is_document}
use Rattle.conf_tree.proofs.Through.{through_item, through_member, remove_through, remove_nowhere, remove_last}
use Rattle.conf_tree.proofs.remove_value.+remove_along.Goals as goal

pub remove_along-returns-in-Object : goal.remove_along-returns-in-Object
remove_along-returns-in-Object t c = search (rules, data_of-Object)

pub remove_in_list-returns-in_default : goal.remove_in_list-returns-in_default
remove_in_list-returns-in_default t c =
    let ts = c.args.items.now.items in
    let k = c.args.key.now in
    let count : c.len.result ≡ length ts = search rules in
    let past : (i : ℕ) → index_of k ≡ Some i → length ts ≤ i = λ i e. omega (arith, c.in_default.ensures i (ap index_of c.as_slice.ensures ∙ e)) in (
      remove_nowhere k c.args.rest.now (array (list_data ts)) (child_no_item k ts past)
          (ap array_or_absent (no_item_at (λ i. remove_item i (list_data ts)) (length ts) k past (λ i h. remove_item_past ts i h))),
      refl,
    )

pub remove_in_list-remove_along-requires : goal.remove_in_list-remove_along-requires
remove_in_list-remove_along-requires t c =
    let ts = c.args.items.now.items in
    let count : c.len.result ≡ length ts = search rules in
    (omega (arith, c.in-Some-split_first.ensures.cases.1), item_is_document ts c.in-Some.index c.index_mut.result.now c.requires (omega (arith, c.in-Some.ensures.1)) c.index_mut.ensures.value)

pub remove_in_list-returns-in-Some-split_first : goal.remove_in_list-returns-in-Some-split_first
remove_in_list-returns-in-Some-split_first t c =
    let ts = c.args.items.now.items in
    let old = c.index_mut.result.now in
    let new = c.remove_along.new.tree in
    let k = c.args.key.now in
    let rest = c.args.rest.now in
    let cases = c.in-Some-split_first.ensures.cases in
    let count : c.len.result ≡ length ts = search rules in
    let through = through_item k ts c.in-Some.index old new (rw c.as_slice.ensures at c.in-Some.ensures.0) (omega (arith, c.in-Some.ensures.1)) c.index_mut.ensures.value in
    let inner : Removes c.remove_along.result (remove rest (data_of old)) (data_of old) (data_of new) =
    subst (λ (ks : List (List ℕ)). Removes c.remove_along.result (remove ks (data_of old)) (data_of old) (data_of new)) (sym cases.0) c.remove_along.ensures in
    remove_through k rest (array (list_data ts)) (data_of old) (data_of new) (array (list_data (set ts c.in-Some.index new))) c.remove_along.result (omega (arith, cases.1)) through inner

pub remove_in_list-returns-in-None : goal.remove_in_list-returns-in-None
remove_in_list-returns-in-None t c =
    let ts = c.args.items.now.items in
    let k = c.args.key.now in
    let i = c.in-Some.index in
    let count : c.len.result ≡ length ts = search rules in
    let e : index_of k ≡ Some i = rw c.as_slice.ensures at c.in-Some.ensures.0 in
    remove_last k c.args.rest.now (array (list_data ts)) c.in-None.ensures.cases
    ∙ ap (λ o. array_or_absent (option_and_then (λ j. remove_item j (list_data ts)) o)) e
    ∙ ap array_or_absent (remove_item_within ts i (omega (arith, c.in-Some.ensures.1)))
    ∙ ap (λ (xs : List Tree). changed (array (list_data xs))) (sym c.remove.ensures.items)

pub remove_in_map-returns-in_default : goal.remove_in_map-returns-in_default
remove_in_map-returns-in_default t c =
    let k = c.args.key.now in
    let gap = rw c.as_slice.ensures at c.in_default.ensures in
    (remove_nowhere k c.args.rest.now (object (map_data c.args.members.now)) (get_unnamed k _ _ gap) (ap object_or_absent (remove_unnamed k _ _ gap)), refl)

pub remove_in_map-remove_along-requires : goal.remove_in_map-remove_along-requires
remove_in_map-remove_along-requires t c =
    let ms = (out-TreeMap c.args.members.now).members.items in
    (omega (arith, c.in-Some.ensures.cases.1), member_is_document ms c.in-Ok.index c.index_mut.result.now c.requires (bounded ms c.in-Ok.index c.in-Ok.ensures.within) c.index_mut.ensures.value)

pub remove_in_map-returns-in-Some : goal.remove_in_map-returns-in-Some
remove_in_map-returns-in-Some t c =
    let ms = (out-TreeMap c.args.members.now).members.items in
    let old = c.index_mut.result.now in
    let new : Member = roll-Member (record { key = old.key; value = c.remove_along.new.tree }) in
    let k = c.args.key.now in
    let rest = c.args.rest.now in
    let cases = c.in-Some.ensures.cases in
    let all = object (members_of (map named ms)) in
    let after = object (members_of (map named (set ms c.in-Ok.index new))) in
    let through = through_member k ms c.in-Ok.index old new (rw c.as_slice.ensures at c.in-Ok.ensures) c.index_mut.ensures.value refl in
    let inner : Removes c.remove_along.result (remove rest (data_of old.value)) (data_of old.value) (data_of new.value) =
    subst (λ (ks : List (List ℕ)). Removes c.remove_along.result (remove ks (data_of old.value)) (data_of old.value) (data_of new.value)) (sym cases.0) c.remove_along.ensures in
    let step = remove_through k rest all (data_of old.value) (data_of new.value) after c.remove_along.result (omega (arith, cases.1)) through inner in
    search (rules, map_data-made, step)

pub remove_in_map-returns-in-None : goal.remove_in_map-returns-in-None
remove_in_map-returns-in-None t c =
    let ms = (out-TreeMap c.args.members.now).members.items in
    let k = c.args.key.now in
    let i = c.in-Ok.index in
    let here = rw c.as_slice.ensures at c.in-Ok.ensures in
    remove_last k c.args.rest.now (object (map_data c.args.members.now)) c.in-None.ensures.cases
    ∙ ap object_or_absent (remove_named k (map named ms) i here)
    ∙ ap (λ (ds : Members). changed (object ds)) (ap members_of (sym (map-remove named ms i) ∙ ap (map named) (sym c.remove.ensures.items)) ∙ sym (map_data-made c.remove.new.self))
