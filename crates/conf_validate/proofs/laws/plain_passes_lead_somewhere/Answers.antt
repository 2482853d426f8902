use Rattle.conf_validate.proofs.PlainPassLemmas.{passes_lead}
use Rattle.conf_validate.proofs.laws.plain_passes_lead_somewhere.Goals as goal

pub returns : goal.returns
returns c = passes_lead
