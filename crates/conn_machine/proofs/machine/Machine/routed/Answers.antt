use Rattle.std.proofs.Common.{◌∙◌, ap}
use Rattle.conn_machine.specs.Shows.{Held}
use Rattle.conn_machine.proofs.AnsweredLemmas.{outcome_as}
use Rattle.conn_machine.proofs.machine.Machine.routed.Goals as goal

pub returns-clause-outcome : goal.returns-clause-outcome
returns-clause-outcome g c bound way =
    outcome_as c.bound.result c.in-Some.met c.args.self.now bound c.conf-conf.result.now c.as_slice.result.now c.outcome-came.result c.args.request.now
    c.bound.ensures c.in-Some.is c.conf-conf.ensures (c.as_slice.ensures ∙ ap (λ (m : Held). m.listener) c.self.view_is) c.outcome-came.ensures.outcome way
