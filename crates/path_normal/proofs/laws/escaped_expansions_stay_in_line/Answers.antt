use Rattle.path_normal.proofs.ExpansionLemmas.{stays_in_line}
use Rattle.path_normal.proofs.laws.escaped_expansions_stay_in_line.Goals as goal

pub returns : goal.returns
returns c = stays_in_line
