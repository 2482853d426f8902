use Rattle.conf_validate.proofs.FaultLemmas.{fault_text}
use Rattle.conf_validate.proofs.fault_laws.paths_of_faults_are_texts.Goals as goal

pub returns : goal.returns
returns c = fault_text
