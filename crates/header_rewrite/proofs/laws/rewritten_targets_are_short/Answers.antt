use Rattle.header_rewrite.proofs.LengthLemmas.{path_short, target_short}
use Rattle.header_rewrite.proofs.laws.rewritten_targets_are_short.Goals as goal

pub returns-clause-path : goal.returns-clause-path
returns-clause-path c text request is short = path_short text request is short

pub returns-clause-target : goal.returns-clause-target
returns-clause-target c text request is short = target_short text request is short
