use Rattle.std.proofs.Common.{sym, subst}
use Rattle.route_match.specs.There.{IsOutcome}
use Rattle.route_match.proofs.target.outcome.Goals as goal

pub returns-clause-facts : goal.returns-clause-facts
returns-clause-facts c =
    subst (IsOutcome c.args.conf.now c.args.request.now) (sym c.outcome_of.ensures)
    (c.outcomes_are_there.ensures c.args.conf.now c.args.listener.now c.args.request.now c.is_kept.ensures)
