use Rattle.conf_shared.proofs.PrefixLemmas.{one_more_begins}
use Rattle.conf_shared.proofs.tests.change.Goals as goal

pub returns : goal.returns
returns c = one_more_begins (λ d. d.1) _ _ _ c.in_ok-publish.ensures.configurations
