use Rattle.std.proofs.Common.{◌∙◌, sym, ap, refl}
use Rattle.std.proofs.lemmas.Iterator.Consumers.{YieldsList-from_first}
use Rattle.path_normal.specs.ExpansionLeft.{expansion_left}
use Rattle.conf_validate.specs.Configuration.{goal_named}
use Rattle.route_match.proofs.PlainLemmas.{known_goal}
use Rattle.route_match.proofs.walk.goal_of.Goals as goal

pub returns-in-Some : goal.returns-in-Some
returns-in-Some c =
    sym (known_goal c.args.conf.now c.args.request.now c.args.pass.now c.in-Some.goal (sym c.requires ∙ c.in-Some.is))

pub returns-in-None : goal.returns-in-None
returns-in-None c =
    let text = expansion_left c.expansion_in.result in
    c.goal.ensures text ((YieldsList-from_first (λ b. b) expansion_left {s = c.expansion_in.result} text refl).runs)
    ∙ ap (λ name. goal_named name c.args.conf.now.destinations) c.expansion_in.ensures
