use Rattle.conf_validate.proofs.PlainPassLemmas.{passes_find}
use Rattle.conf_validate.proofs.laws.plain_passes_find_their_targets.Goals as goal

pub returns : goal.returns
returns c = passes_find
