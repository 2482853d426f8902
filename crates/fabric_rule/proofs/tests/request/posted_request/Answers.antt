use Rattle.fabric_rule.proofs.TestSeats.{then_some}
use Rattle.fabric_rule.proofs.tests.request.posted_request.Goals as goal

pub returns-clause-me : goal.returns-clause-me
returns-clause-me c = then_some c.pushes.result (λ x made. (_, made _ c.posts.ensures.me)) c.pushes.ensures.me
