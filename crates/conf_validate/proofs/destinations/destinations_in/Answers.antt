use Rattle.std.proofs.Common.{◌≡◌, ◌∙◌, ◌+◌, ◌++◌, ◌<◌, ◌∷◌, [], ℕ, List, codes, length, suc, sym, ap, arith}
use Rattle.conf_validate.specs.Configuration.{application_destinations, members_list}
use Rattle.conf_validate.specs.declared.conf.Destination.{Destination}
use Rattle.conf_validate.specs.declared.conf.Goal.TheVariants.{Application}
use Rattle.conf_validate.proofs.MemberLemmas.{ended, left, left_more, left_none, one_more}
use Rattle.conf_validate.proofs.destinations.destinations_in.Goals as goal

abbrev made : ℕ → List ℕ → Destination
made app k = record { name = codes "applications/" ++ k; goal = Application app }

pub loop-index-init : goal.loop-index-init
loop-index-init c =
    ap (λ (xs : List Destination). xs ++ application_destinations 0 (members_list (left 0 c.members-list.result.now))) c.in_ok-destinations.ensures.items
    ∙ ap (λ m. application_destinations 0 (members_list m)) (sym c.members-list.ensures)

pub loop-index-preserved : goal.loop-index-preserved
loop-index-preserved c =
    let ms = c.members-list.result.now in
    let i = c.loop-index.index in
    let m = c.index-list-index.result in
    let within : i < length ms = omega arith in
    let next : suc i ≡ i + 1 = omega arith in
    let rest = λ (n : ℕ). application_destinations n (members_list (left n ms)) in
    let text : c.in_ok-joined.field-0 ≡ codes "applications/" ++ m.key = c.in_ok-joined.ensures ∙ ap (λ (n : List ℕ). codes "applications/" ++ n) c.as_slice.ensures in
    let pushed : c.push.new.self.items ≡ c.loop-index.destinations.items ++ made i m.key ∷ [] = c.in_ok-push.ensures.items ∙ ap (λ (n : List ℕ). c.loop-index.destinations.items ++ record { name = n; goal = Application i } ∷ []) text in
    one_more c.loop-index.destinations.items (rest (i + 1)) (rest i) _ c.push.new.self.items (made i m.key) pushed
    (ap (λ x. application_destinations i (members_list x)) (left_more ms i m within c.index-list-index.is)
    ∙ ap (λ (n : ℕ). made i m.key ∷ application_destinations n (members_list (left (i + 1) ms))) next) c.loop-index.invariant

pub returns : goal.returns
returns c =
    ended _ _ _ (ap (λ x. application_destinations c.loop-index.index (members_list x)) (left_none c.members-list.result.now c.loop-index.index (omega (arith, c.loop-index-test.false)))) c.loop-index.invariant
