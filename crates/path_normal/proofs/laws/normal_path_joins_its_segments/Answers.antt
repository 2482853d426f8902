use Rattle.path_normal.proofs.LawLemmas.{joins}
use Rattle.path_normal.proofs.laws.normal_path_joins_its_segments.Goals as goal

pub returns : goal.returns
returns c = joins
