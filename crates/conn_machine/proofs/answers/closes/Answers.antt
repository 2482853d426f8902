use Rattle.std.proofs.Common.{◌∙◌, ◌-◌, ◌==◌, ◌||◌, ap, sym, Bor, Option, option_map}
use Rattle.unit_types.specs.declared.message.Request.{Request}
use Rattle.conn_machine.specs.Answers.{closes}
use Rattle.conn_machine.proofs.answers.closes.Goals as goal

pub returns-then-is_last_request : goal.returns-then-is_last_request
returns-then-is_last_request c =
    c.if-is_last_request.true ∙ sym (ap (λ (o : Option (Bor Request)). closes (option_map (λ r. r.now) o) c.args.left) c.in-Some.is
    ∙ ap (λ last. last || (c.args.left - 1) == 0) (sym c.is_last_request.ensures ∙ c.if-is_last_request.true))

pub returns-else-is_last_request : goal.returns-else-is_last_request
returns-else-is_last_request c =
    sym (ap (λ (o : Option (Bor Request)). closes (option_map (λ r. r.now) o) c.args.left) c.in-Some.is
    ∙ ap (λ last. last || (c.args.left - 1) == 0) (sym c.is_last_request.ensures ∙ c.if-is_last_request.false)
    ∙ ap (λ left. left == 0) (sym c.saturating_sub.ensures))

pub returns-in-None : goal.returns-in-None
returns-in-None c = sym (ap (λ (o : Option (Bor Request)). closes (option_map (λ r. r.now) o) c.args.left) c.in-None.is)
