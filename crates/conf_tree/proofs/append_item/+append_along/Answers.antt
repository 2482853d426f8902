use Rattle.std.proofs.Common.{rules, ◌≡◌, ◌≤◌, ◌∷◌, ℕ, length, map, set, Some, IfOk, refl, ap, ◌∙◌, arith}
use Rattle.std.proofs.lemmas.Result.{IfOk-weaker, on_err_weaker}
use Rattle.serde_json.specs.Data.{array, object}
use Rattle.conf_tree.specs.Answers.{Appends}
use Rattle.conf_tree.specs.Paths.{index_of, append}
use Rattle.conf_tree.specs.View.{data_of, list_data, map_data, members_of, named}
use Rattle.conf_tree.specs.declared.outcomes.Append.{Append}
use Rattle.conf_tree.specs.declared.tree.Tree.TheViews.{roll-Member}
use Rattle.conf_tree.specs.declared.tree.Member.{Member}
use Rattle.conf_tree.specs.declared.tree.TreeMap.{out-TreeMap}
use Rattle.conf_tree.proofs.Views.{data_of-Object, map_data-made}
use Rattle.conf_tree.proofs.Children.{child_no_item, bounded}
use Rattle.conf_tree.proofs.Members.{get_unnamed}
use Rattle.conf_tree.proofs.Parts.{item_is_document, member_is_document}
use Rattle.conf_tree.proofs.Through.{same_item, same_member, through_item, through_member, append_through, append_nowhere}
use Rattle.conf_tree.proofs.append_item.+append_along.Goals as goal

pub append_along-returns-in-Object-clause-err : goal.append_along-returns-in-Object-clause-err
append_along-returns-in-Object-clause-err t c = search (rules, data_of-Object)

pub append_in_list-append_along-requires : goal.append_in_list-append_along-requires
append_in_list-append_along-requires t c =
    let count : c.len.result ≡ length c.args.items.now.items = search rules in
    (omega arith, item_is_document c.args.items.now.items c.in-Some.index c.index_mut.result.now c.requires (omega (arith, c.in-Some.ensures.1)) c.index_mut.ensures.value)

pub append_in_list-returns-in-Some-clause-ok : goal.append_in_list-returns-in-Some-clause-ok
append_in_list-returns-in-Some-clause-ok t c =
    let ts = c.args.items.now.items in
    let old = c.index_mut.result.now in
    let new = c.append_along.new.tree in
    let k = c.args.key.now in
    let v = data_of c.args.value in
    let count : c.len.result ≡ length ts = search rules in
    let through = through_item k ts c.in-Some.index old new (rw c.as_slice.ensures at c.in-Some.ensures.0) (omega (arith, c.in-Some.ensures.1)) c.index_mut.ensures.value in
    let step : IfOk c.append_along.result (λ (a : Append). Appends a (append (k ∷ c.args.rest.now) v (array (list_data ts))) (array (list_data ts)) (array (list_data (set ts c.in-Some.index new)))) =
    IfOk-weaker c.append_along.result _ _ (λ (a : Append) p. append_through k c.args.rest.now v (array (list_data ts)) (data_of old) (data_of new) (array (list_data (set ts c.in-Some.index new))) a through p) c.append_along.ensures.ok in
    search (rules, step)

pub append_in_list-returns-in-Some-clause-err : goal.append_in_list-returns-in-Some-clause-err
append_in_list-returns-in-Some-clause-err t c = on_err_weaker c.append_along.result (λ s. same_item c.args.items.now.items c.in-Some.index c.index_mut.result.now c.append_along.new.tree c.index_mut.ensures.value s) c.append_along.ensures.err

pub append_in_list-returns-in-None-clause-ok : goal.append_in_list-returns-in-None-clause-ok
append_in_list-returns-in-None-clause-ok t c =
    let ts = c.args.items.now.items in
    let k = c.args.key.now in
    let count : c.len.result ≡ length ts = search rules in
    let past : (i : ℕ) → index_of k ≡ Some i → length ts ≤ i = λ i e. omega (arith, c.in-None.ensures i (ap index_of c.as_slice.ensures ∙ e)) in
    (append_nowhere k c.args.rest.now (data_of c.args.value) (array (list_data ts)) (child_no_item k ts past), refl)

pub append_in_map-append_along-requires : goal.append_in_map-append_along-requires
append_in_map-append_along-requires t c =
    let ms = (out-TreeMap c.args.members.now).members.items in
    (omega arith, member_is_document ms c.in-Ok.index c.index_mut.result.now c.requires (bounded ms c.in-Ok.index c.in-Ok.ensures.within) c.index_mut.ensures.value)

pub append_in_map-returns-in-Err-clause-ok : goal.append_in_map-returns-in-Err-clause-ok
append_in_map-returns-in-Err-clause-ok t c =
    let none = get_unnamed c.args.key.now _ _ (rw c.as_slice.ensures at c.in-Err.ensures) in
    (append_nowhere c.args.key.now c.args.rest.now (data_of c.args.value) (object (map_data c.args.members.now)) none, refl)

pub append_in_map-returns-in-Ok-clause-ok : goal.append_in_map-returns-in-Ok-clause-ok
append_in_map-returns-in-Ok-clause-ok t c =
    let ms = (out-TreeMap c.args.members.now).members.items in
    let old = c.index_mut.result.now in
    let new : Member = roll-Member (record { key = old.key; value = c.append_along.new.tree }) in
    let k = c.args.key.now in
    let v = data_of c.args.value in
    let all = object (members_of (map named ms)) in
    let after = object (members_of (map named (set ms c.in-Ok.index new))) in
    let through = through_member k ms c.in-Ok.index old new (rw c.as_slice.ensures at c.in-Ok.ensures) c.index_mut.ensures.value refl in
    let step : IfOk c.append_along.result (λ (a : Append). Appends a (append (k ∷ c.args.rest.now) v all) all after) =
    IfOk-weaker c.append_along.result _ _ (λ (a : Append) p. append_through k c.args.rest.now v all (data_of old.value) (data_of new.value) after a through p) c.append_along.ensures.ok in
    search (rules, map_data-made, step)

pub append_in_map-returns-in-Ok-clause-err : goal.append_in_map-returns-in-Ok-clause-err
append_in_map-returns-in-Ok-clause-err t c =
    let ms = (out-TreeMap c.args.members.now).members.items in
    let old = c.index_mut.result.now in
    let new : Member = roll-Member (record { key = old.key; value = c.append_along.new.tree }) in
    on_err_weaker c.append_along.result (λ s. map_data-made _ ∙ same_member ms c.in-Ok.index old new c.index_mut.ensures.value refl s) c.append_along.ensures.err
