use Rattle.std.proofs.Common.{◌∙◌, ap}
use Rattle.port_message.specs.Words.{numbers_of}
use Rattle.request_context.specs.Parcels.{joined}
use Rattle.fabric_rule.specs.Opening.{ledger_of}
use Rattle.fabric_rule.specs.Steps.{with_request}
use Rattle.fabric_rule.proofs.tests.taking.takes.Goals as goal

pub returns-clause-won : goal.returns-clause-won
returns-clause-won c one =
    let told = c.take.ensures.told in
    (joined told.parcels, told.won one ∙ ap (λ m. with_request 0 1 0 (numbers_of 77) (joined told.parcels) (ledger_of m.0) m.0) c.requires.held)
