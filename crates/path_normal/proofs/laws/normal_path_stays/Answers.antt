use Rattle.path_normal.proofs.LawLemmas.{stays}
use Rattle.path_normal.proofs.laws.normal_path_stays.Goals as goal

pub returns : goal.returns
returns c = stays
