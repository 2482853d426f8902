use Rattle.std.proofs.Common.{◌∙◌, ap}
use Rattle.std.specs.List.{list_any}
use Rattle.std.specs.Option.{is_some}
use Rattle.std.specs.Str.{bytes_eq, str_to_ascii_lowercase}
use Rattle.conf_validate.proofs.LowerLemmas.{known_more}
use Rattle.conf_validate.proofs.lower.LowerNames.meet.Goals as goal

pub returns-clause-again : goal.returns-clause-again
returns-clause-again c = λ earlier known.
    c.is_some.ensures ∙ ap is_some c.in-Ok.ensures.old ∙ known c.in_ok-lower.lower
    ∙ ap (λ q. list_any (λ e. bytes_eq (str_to_ascii_lowercase e) q) earlier) c.in_ok-lower.ensures

pub returns-clause-known : goal.returns-clause-known
returns-clause-known c = λ earlier known q.
    ap is_some (c.in-Ok.ensures.updates.0 q) ∙ known_more earlier c.args.name.now c.in_ok-lower.lower.items q.items _ _ c.in_ok-lower.ensures (known q)
