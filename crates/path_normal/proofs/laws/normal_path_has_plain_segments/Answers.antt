use Rattle.path_normal.proofs.LawLemmas.{has_plain_segments}
use Rattle.path_normal.proofs.laws.normal_path_has_plain_segments.Goals as goal

pub returns : goal.returns
returns c = has_plain_segments
