use Rattle.std.proofs.Common.{◌≡◌, ◌∙◌, ◌+◌, ◌<◌, Option, Some, length, suc, sym, ap, subst, arith, ℕ, List, refl, get_or}
use Rattle.std.proofs.lemmas.Result.{IfOk-weaker}
use Rattle.serde_json.specs.Data.{object}
use Rattle.conf_tree.proofs.Views.{data_of-Object}
use Rattle.conf_tree.specs.Document.{IsDocument}
use Rattle.conf_tree.specs.View.{data_of, map_data, name_at}
use Rattle.conf_tree.specs.declared.tree.Tree.{Tree}
use Rattle.conf_validate.specs.Again.{KnowsOf}
use Rattle.conf_validate.specs.Scopes.{context_of}
use Rattle.conf_validate.specs.Table.{entries_of, row_of, whole_table}
use Rattle.conf_validate.specs.Valid.{below, members_fault, or_then, value_fault}
use Rattle.conf_validate.specs.declared.fault.Invalid.{Invalid}
use Rattle.conf_validate.proofs.MemberLemmas.{counted, name_here, value_here}
use Rattle.conf_validate.proofs.Sizes.{size, item_smaller, value_smaller}
use Rattle.conf_validate.proofs.WalkLemmas.{behind, behind-past, behind-zero, item_document, knows_nothing, members_step, names_before, names_before-zero, names_before-more, object_walk, value_document}
use Rattle.conf_validate.proofs.walk.+value_fault.Goals as goal

pub items_fault-value_fault-requires : goal.items_fault-value_fault-requires
items_fault-value_fault-requires t c =
    let ts = c.args.items.now.items in
    let i = c.loop-index.index in
    let x = c.item-item.result in
    let within : i < length ts = omega (arith, c.loop-index-test.true, c.deref-item-items.ensures.value) in
    let here : x ≡ get_or ts i x = c.item-item.is ∙ ap (λ xs. get_or xs i x) c.deref-item-items.ensures.value in
    (omega (arith, ap (λ (y : Tree). size (data_of y)) here, item_smaller ts i x within), (c.requires.scope, subst (λ (y : Tree). IsDocument (data_of y)) (sym here) (item_document ts i x c.requires.items within)))

pub members_fault-loop-member-init : goal.members_fault-loop-member-init
members_fault-loop-member-init t c =
    let ms = map_data c.args.map.now in
    record {
      known = rw (names_before-zero ms) (knows_nothing c.args.names c.new-earlier.result c.new-earlier.ensures);
      same = rw (names_before-zero ms, behind-zero ms) refl;
    }

pub members_fault-member_fault-requires : goal.members_fault-member_fault-requires
members_fault-member_fault-requires t c =
    let ms = map_data c.args.map.now in
    let i = c.loop-member.member-index in
    let m = c.member-item.result in
    let within : i < length c.members-list.result.now = omega arith in
    let at = value_here ms c.members-list.result.now i m c.members-list.ensures within c.member-item.is in
    (omega (arith, value_smaller ms i (data_of m.value) at), (c.requires.scope, value_document ms i (data_of m.value) c.requires.members at))

pub members_fault-returns-in-Some : goal.members_fault-returns-in-Some
members_fault-returns-in-Some t c =
    let ms = map_data c.args.map.now in
    let i = c.loop-member.member-index in
    let m = c.member-item.result in
    let d = data_of m.value in
    let within : i < length c.members-list.result.now = omega arith in
    let k = c.as_slice-name.result.now in
    let name : name_at i ms ≡ Some k = name_here ms c.members-list.result.now i m c.members-list.ensures within c.member-item.is ∙ ap (λ (l : List ℕ). Some l) (sym c.as_slice-name.ensures) in
    let at = value_here ms c.members-list.result.now i m c.members-list.ensures within c.member-item.is in
    let context = context_of c.args.scope.now in
    let es = entries_of c.args.place in
    let again = c.in_ok-again.ensures.again (names_before i ms) c.loop-member.invariant.known in
    let step = members_step whole_table context es c.args.names ms i k d c.in_ok-again.again c.place_of.result c.in_ok-fault.field-0 name at again c.place_of.ensures c.in_ok-fault.ensures in
    let rest = members_fault whole_table context es c.args.names (names_before (suc i) ms) (behind (suc i) ms) in
    sym
    (c.loop-member.invariant.same ∙ step ∙ ap (λ o. or_then (below k o) rest) c.in-Some.is
    ∙ ap (λ o. or_then o rest) (sym c.in_ok-below-in-Some.ensures))

pub members_fault-loop-member-preserved : goal.members_fault-loop-member-preserved
members_fault-loop-member-preserved t c =
    let ms = map_data c.args.map.now in
    let i = c.loop-member.member-index in
    let m = c.member-item.result in
    let d = data_of m.value in
    let within : i < length c.members-list.result.now = omega arith in
    let k = c.as_slice-name.result.now in
    let name : name_at i ms ≡ Some k = name_here ms c.members-list.result.now i m c.members-list.ensures within c.member-item.is ∙ ap (λ (l : List ℕ). Some l) (sym c.as_slice-name.ensures) in
    let at = value_here ms c.members-list.result.now i m c.members-list.ensures within c.member-item.is in
    let context = context_of c.args.scope.now in
    let es = entries_of c.args.place in
    let again = c.in_ok-again.ensures.again (names_before i ms) c.loop-member.invariant.known in
    let step = members_step whole_table context es c.args.names ms i k d c.in_ok-again.again c.place_of.result c.in_ok-fault.field-0 name at again c.place_of.ensures c.in_ok-fault.ensures in
    let rest = members_fault whole_table context es c.args.names (names_before (suc i) ms) (behind (suc i) ms) in
    let next : suc i ≡ i + 1 = omega arith in
    record {
      known = subst (λ (n : ℕ). KnowsOf c.args.names c.meet_of.new.self (names_before n ms)) next (subst (λ (names : List (List ℕ)). KnowsOf c.args.names c.meet_of.new.self names) (sym (names_before-more ms i k name)) (c.in_ok-again.ensures.known (names_before i ms) c.loop-member.invariant.known));
      same = c.loop-member.invariant.same ∙ step ∙ ap (λ o. or_then (below k o) rest) c.in-None.is ∙ ap (λ (n : ℕ). members_fault whole_table context es c.args.names (names_before n ms) (behind n ms)) next;
    }

pub members_fault-returns : goal.members_fault-returns
members_fault-returns t c =
    let ms = map_data c.args.map.now in
    let i = c.loop-member.member-index in
    let past = behind-past ms i (omega (arith, c.loop-member-test.false, counted ms c.members-list.result.now c.members-list.ensures)) in
    sym (c.loop-member.invariant.same ∙ ap (members_fault whole_table (context_of c.args.scope.now) (entries_of c.args.place) c.args.names (names_before i ms)) past)

pub value_fault-returns-in-Some-members : goal.value_fault-returns-in-Some-members
value_fault-returns-in-Some-members t c =
    let p = c.args.place in
    let ms = map_data c.in-Object.map in
    let context = context_of c.args.scope.now in
    let row : (row_of p).members ≡ Some c.in-Some-members.names = ap (λ r. r.members) (sym c.row-row.ensures) ∙ c.in-Some-members.is in
    let seen : data_of c.args.tree.now ≡ object ms = ap data_of c.in-Object.is ∙ data_of-Object c.in-Object.map in
    let walk = sym (ap (value_fault whole_table context p) seen ∙ object_walk context p c.in-Some-members.names ms row) in
    IfOk-weaker c.object_fault.result _ _ (λ (fault : Option Invalid) e. e ∙ walk) c.object_fault.ensures
