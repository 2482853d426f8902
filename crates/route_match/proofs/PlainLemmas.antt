-- Passes without `$`.
use Rattle.std.proofs.Common.{◌≡◌, ◌≢◌, ℕ, Bool, true, false, ◌||◌, cond, eqb, List, [], ◌∷◌, Some, None, refl, ap, ◌∙◌, arith}
use Rattle.std.specs.List.{list_any}
use Rattle.std.proofs.lemmas.Bool.Decides.{nat_tests}
use Rattle.std.proofs.lemmas.List.Elements.{All-nil, All-cons}
use Rattle.path_normal.proofs.LawLemmas.{plain_text}
use Rattle.unit_types.specs.declared.message.Request.{Request}
use Rattle.conf_validate.specs.declared.conf.Goal.{Goal}
use Rattle.conf_validate.specs.Configuration.{Configuration, goal_named, plain_goal}
use Rattle.conf_validate.specs.Plain.{HasNoDollar}
use Rattle.route_match.specs.Target.{goal_of}

neither : (a b : Bool) → (a || b) ≡ false → (a ≡ false) × (b ≡ false)
neither true b h = absurd (cc h)
neither false b h = (refl, h)

no_dollar : (text : List ℕ) → list_any (λ b. eqb b 36) text ≡ false → HasNoDollar text
no_dollar [] h = All-nil (λ b. b ≢ 36)
no_dollar (b ∷ bs) h =
    let parts = neither (eqb b 36) (list_any (λ c. eqb c 36) bs) h in
    let here : b ≢ 36 = grind (arith, nat_tests, parts.0) in
    All-cons (λ c. c ≢ 36) b bs here (no_dollar bs parts.1)

-- what is known of a pass without `$` is what it names in every request
pub known_goal : (conf : Configuration) (request : Request) (pass : List ℕ) (goal : Goal) → plain_goal conf pass ≡ Some goal → goal_of conf request pass ≡ Some goal
known_goal conf request pass goal known = by_dollar (list_any (λ b. eqb b 36) pass) refl known
  where
    by_dollar : (dollar : Bool) → list_any (λ b. eqb b 36) pass ≡ dollar → cond dollar None (goal_named pass conf.destinations) ≡ Some goal → goal_of conf request pass ≡ Some goal
    by_dollar true h is = absurd (cc is)
    by_dollar false h is = ap (λ text. goal_named text conf.destinations) (plain_text pass request (no_dollar pass h)) ∙ is
