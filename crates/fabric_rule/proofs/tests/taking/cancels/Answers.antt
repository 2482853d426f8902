use Rattle.std.proofs.Common.{sym, ap, subst}
use Rattle.fabric_rule.specs.Settling.{HasPost}
use Rattle.fabric_rule.specs.declared.view.FabricView.{FabricView}
use Rattle.fabric_rule.proofs.TestSeats.{its_post}
use Rattle.fabric_rule.proofs.tests.taking.cancels.Goals as goal

pub cancel-requires-clause-post : goal.cancel-requires-clause-post
cancel-requires-clause-post c =
    let posted = c.requires.posted in
    subst (λ (v : FabricView). HasPost v 0 1 77) (sym (ap (λ m. m.0) posted.1)) (its_post posted.0)
