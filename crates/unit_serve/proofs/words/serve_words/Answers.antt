use Rattle.std.proofs.Common.{◌≡◌, [], map, string_bytes, refl, ap, ◌∙◌, subst}
use Rattle.clap.specs.Faults.{fault_of, is_simple_and_free}
use Rattle.clap.specs.Words.{App, HasMatchesOf}
use Rattle.unit_serve.proofs.Values.{free}
use Rattle.unit_serve.proofs.words.serve_words.Goals as goal

pub returns-in-Ok-clause-some : goal.returns-in-Ok-clause-some
returns-in-Ok-clause-some c =
    let none = c.in-Ok.ensures.kinds (ap is_simple_and_free c.in_ok-command.ensures ∙ free) in
    (λ _. subst (λ (a : App). fault_of a (map string_bytes c.args.words.now) ≡ []) c.in_ok-command.ensures none, λ _. refl)

pub returns-in-Ok-clause-values : goal.returns-in-Ok-clause-values
returns-in-Ok-clause-values c =
    let none = c.in-Ok.ensures.kinds (ap is_simple_and_free c.in_ok-command.ensures ∙ free) in
    c.in_ok-read-in-Ok.ensures (map string_bytes c.args.words.now)
    (subst (λ (a : App). fault_of a (map string_bytes c.args.words.now) ≡ []) c.in_ok-command.ensures none)
    (subst (λ (a : App). HasMatchesOf a (map string_bytes c.args.words.now) c.in-Ok.matches) c.in_ok-command.ensures c.in-Ok.ensures.matches)
