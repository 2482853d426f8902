use Rattle.std.proofs.Common.{rules, ◌≡◌, ◌≤◌, ◌∷◌, ℕ, length, map, set, Some, IfOk, refl, ap, ◌∙◌, arith}
use Rattle.std.proofs.lemmas.Result.{IfOk-weaker, on_err_weaker}
use Rattle.serde_json.specs.Data.{array, object}
use Rattle.conf_tree.specs.Answers.{Puts}
use Rattle.conf_tree.specs.Paths.{index_of, put, set_item, array_or_absent}
use Rattle.conf_tree.specs.View.{data_of, list_data, map_data, members_of, named}
use Rattle.conf_tree.specs.declared.outcomes.Put.{Put}
use Rattle.conf_tree.specs.declared.tree.Tree.TheViews.{roll-Member}
use Rattle.conf_tree.specs.declared.tree.Member.{Member}
use Rattle.conf_tree.specs.declared.tree.TreeMap.{out-TreeMap}
use Rattle.conf_tree.proofs.Views.{data_of-Object, map_data-made}
use Rattle.conf_tree.proofs.Children.{child_no_item, no_item_at, bounded}
use Rattle.conf_tree.proofs.Items.{set_item_past}
use Rattle.conf_tree.proofs.Members.{get_unnamed}
use Rattle.conf_tree.proofs.Parts.{item_is_document, member_is_document}
use Rattle.conf_tree.proofs.Through.{same_item, same_member, through_item, through_member, put_through, put_nowhere, put_unfound}
use Rattle.conf_tree.proofs.put_value.+put_along.Goals as goal

pub put_along-returns-in-Object-clause-err : goal.put_along-returns-in-Object-clause-err
put_along-returns-in-Object-clause-err t c = search (rules, data_of-Object)

pub put_in_list-put_along-requires : goal.put_in_list-put_along-requires
put_in_list-put_along-requires t c =
    let count : c.len.result ≡ length c.args.items.now.items = search rules in
    (omega arith, item_is_document c.args.items.now.items c.in-Some.index c.index_mut.result.now c.requires (omega (arith, c.in-Some.ensures.1)) c.index_mut.ensures.value)

pub put_in_list-returns-in-Some-clause-ok : goal.put_in_list-returns-in-Some-clause-ok
put_in_list-returns-in-Some-clause-ok t c =
    let ts = c.args.items.now.items in
    let old = c.index_mut.result.now in
    let new = c.put_along.new.tree in
    let k = c.args.key.now in
    let v = data_of c.args.value in
    let count : c.len.result ≡ length ts = search rules in
    let through = through_item k ts c.in-Some.index old new (rw c.as_slice.ensures at c.in-Some.ensures.0) (omega (arith, c.in-Some.ensures.1)) c.index_mut.ensures.value in
    let step : IfOk c.put_along.result (λ (a : Put). Puts a (put (k ∷ c.args.rest.now) v (array (list_data ts))) (array (list_data ts)) (array (list_data (set ts c.in-Some.index new)))) =
    IfOk-weaker c.put_along.result _ _ (λ (a : Put) p. put_through k c.args.rest.now v (array (list_data ts)) (data_of old) (data_of new) (array (list_data (set ts c.in-Some.index new))) a through p) c.put_along.ensures.ok in
    search (rules, step)

pub put_in_list-returns-in-Some-clause-err : goal.put_in_list-returns-in-Some-clause-err
put_in_list-returns-in-Some-clause-err t c = on_err_weaker c.put_along.result (λ s. same_item c.args.items.now.items c.in-Some.index c.index_mut.result.now c.put_along.new.tree c.index_mut.ensures.value s) c.put_along.ensures.err

pub put_in_list-returns-in-None-clause-ok : goal.put_in_list-returns-in-None-clause-ok
put_in_list-returns-in-None-clause-ok t c =
    let ts = c.args.items.now.items in
    let k = c.args.key.now in
    let v = data_of c.args.value in
    let count : c.len.result ≡ length ts = search rules in
    let past : (i : ℕ) → index_of k ≡ Some i → length ts ≤ i = λ i e. omega (arith, c.in-None.ensures i (ap index_of c.as_slice.ensures ∙ e)) in (
      put_nowhere k c.args.rest.now v (array (list_data ts)) (child_no_item k ts past)
          (ap array_or_absent (no_item_at (λ i. set_item i v (list_data ts)) (length ts) k past (λ i h. set_item_past ts i v h))),
      refl,
    )

pub put_in_map-put_along-requires : goal.put_in_map-put_along-requires
put_in_map-put_along-requires t c =
    let ms = (out-TreeMap c.args.members.now).members.items in
    (omega arith, member_is_document ms c.in-Ok.index c.index_mut.result.now c.requires (bounded ms c.in-Ok.index c.in-Ok.ensures.within) c.index_mut.ensures.value)

pub put_in_map-returns-then-not-is_empty-clause-ok : goal.put_in_map-returns-then-not-is_empty-clause-ok
put_in_map-returns-then-not-is_empty-clause-ok t c =
    let none = get_unnamed c.args.key.now _ _ (rw c.as_slice.ensures at c.in-Err.ensures) in
    (put_unfound c.args.key.now c.args.rest.now (data_of c.args.value) (object (map_data c.args.members.now)) (search rules) none, refl)

pub put_in_map-returns-in-Ok-clause-ok : goal.put_in_map-returns-in-Ok-clause-ok
put_in_map-returns-in-Ok-clause-ok t c =
    let ms = (out-TreeMap c.args.members.now).members.items in
    let old = c.index_mut.result.now in
    let new : Member = roll-Member (record { key = old.key; value = c.put_along.new.tree }) in
    let k = c.args.key.now in
    let v = data_of c.args.value in
    let all = object (members_of (map named ms)) in
    let after = object (members_of (map named (set ms c.in-Ok.index new))) in
    let through = through_member k ms c.in-Ok.index old new (rw c.as_slice.ensures at c.in-Ok.ensures) c.index_mut.ensures.value refl in
    let step : IfOk c.put_along.result (λ (a : Put). Puts a (put (k ∷ c.args.rest.now) v all) all after) =
    IfOk-weaker c.put_along.result _ _ (λ (a : Put) p. put_through k c.args.rest.now v all (data_of old.value) (data_of new.value) after a through p) c.put_along.ensures.ok in
    search (rules, map_data-made, step)

pub put_in_map-returns-in-Ok-clause-err : goal.put_in_map-returns-in-Ok-clause-err
put_in_map-returns-in-Ok-clause-err t c =
    let ms = (out-TreeMap c.args.members.now).members.items in
    let old = c.index_mut.result.now in
    let new : Member = roll-Member (record { key = old.key; value = c.put_along.new.tree }) in
    on_err_weaker c.put_along.result (λ s. map_data-made _ ∙ same_member ms c.in-Ok.index old new c.index_mut.ensures.value refl s) c.put_along.ensures.err
