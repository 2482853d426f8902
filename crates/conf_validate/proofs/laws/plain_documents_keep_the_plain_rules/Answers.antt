use Rattle.conf_validate.proofs.PlainLemmas.{faults_same}
use Rattle.conf_validate.proofs.laws.plain_documents_keep_the_plain_rules.Goals as goal

pub returns : goal.returns
returns c = faults_same
