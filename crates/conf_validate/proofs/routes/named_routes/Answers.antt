use Rattle.std.proofs.Common.{◌≡◌, ◌∙◌, ◌+◌, ◌++◌, ◌<◌, ◌∷◌, [], ℕ, List, codes, length, map, sym, ap, subst, arith}
use Rattle.std.proofs.lemmas.List.{length-append, length-map}
use Rattle.std.specs.List.{flat_map}
use Rattle.serde_json.specs.Data.{Data}
use Rattle.conf_tree.specs.Document.{AreMembers}
use Rattle.conf_tree.specs.View.{data_of}
use Rattle.conf_validate.specs.Configuration.{items_of, members_list, route_destinations, step_of, values_list}
use Rattle.conf_validate.specs.declared.conf.Destination.{Destination}
use Rattle.conf_validate.specs.declared.conf.Goal.TheVariants.{Route}
use Rattle.conf_validate.specs.declared.conf.Step.{Step}
use Rattle.conf_validate.proofs.MemberLemmas.{ended, left, left_more, left_none, map-flat, member_document, one_more, some_more}
use Rattle.conf_validate.proofs.routes.named_routes.Goals as goal

abbrev steps_in : List Data → List Step
steps_in ds = map step_of (flat_map items_of ds)

abbrev made : List ℕ → ℕ → ℕ → Destination
made k first count = record { name = codes "routes/" ++ k; goal = Route first count }

pub loop-member-init : goal.loop-member-init
loop-member-init c =
    let ms = c.members-list.result.now in
    record {
      steps = ap (λ (xs : List Step). xs ++ steps_in (values_list (left 0 ms))) c.new-steps.ensures.items ∙ ap (λ m. steps_in (values_list m)) (sym c.members-list.ensures);
      destinations = ap (λ (xs : List Step). c.args.destinations.now.items ++ route_destinations (length xs) (members_list (left 0 ms))) c.new-steps.ensures.items
          ∙ ap (λ m. c.args.destinations.now.items ++ route_destinations 0 (members_list m)) (sym c.members-list.ensures);
    }

pub push_named-requires : goal.push_named-requires
push_named-requires c =
    member_document c.members-list.result.now c.loop-member.member-index c.member-item.result (subst AreMembers c.members-list.ensures c.requires) (omega arith) c.member-item.is

-- the steps before the next route
counted : (old new : List Step) (ds : List Data) → new ≡ old ++ map step_of ds → length old + length ds ≡ length new
counted old new ds e = omega (arith, ap (λ (xs : List Step). length xs) e, length-append old (map step_of ds), length-map ds step_of)

pub loop-member-preserved : goal.loop-member-preserved
loop-member-preserved c =
    let ms = c.members-list.result.now in
    let i = c.loop-member.member-index in
    let m = c.member-item.result in
    let k = m.key in
    let d = data_of m.value in
    let within : i < length ms = omega arith in
    let more = left_more ms i m within c.member-item.is in
    let old = c.loop-member.steps.items in
    let new = c.push_named.new.steps.items in
    let first = length old in
    let rest = λ (n : ℕ). steps_in (values_list (left n ms)) in
    let behind = λ (from n : ℕ). route_destinations from (members_list (left n ms)) in
    let added : new ≡ old ++ map step_of (items_of d) = c.in_ok-push_named.ensures.steps in
    record {
      steps = some_more old (rest (i + 1)) (rest i) _ new (map step_of (items_of d)) added
          (ap (λ x. steps_in (values_list x)) more ∙ map-flat step_of items_of d (values_list (left (i + 1) ms))) c.loop-member.invariant.steps;
      destinations = one_more c.loop-member.destinations.items (behind (length new) (i + 1)) (behind first i) _ c.push_named.new.destinations.items (made k first (length (items_of d))) c.in_ok-push_named.ensures.destinations
          (ap (λ x. route_destinations first (members_list x)) more ∙ ap (λ (from : ℕ). made k first (length (items_of d)) ∷ behind from (i + 1)) (counted old new (items_of d) added)) c.loop-member.invariant.destinations;
    }

pub returns-clause-steps : goal.returns-clause-steps
returns-clause-steps c =
    ended _ _ _ (ap (λ x. steps_in (values_list x)) (left_none c.members-list.result.now c.loop-member.member-index (omega (arith, c.loop-member-test.false)))) c.loop-member.invariant.steps

pub returns-clause-destinations : goal.returns-clause-destinations
returns-clause-destinations c =
    ended _ _ _ (ap (λ x. route_destinations (length c.loop-member.steps.items) (members_list x)) (left_none c.members-list.result.now c.loop-member.member-index (omega (arith, c.loop-member-test.false)))) c.loop-member.invariant.destinations
