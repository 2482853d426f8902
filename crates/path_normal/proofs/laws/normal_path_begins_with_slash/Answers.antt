use Rattle.path_normal.proofs.LawLemmas.{begins_with_slash}
use Rattle.path_normal.proofs.laws.normal_path_begins_with_slash.Goals as goal

pub returns : goal.returns
returns c = begins_with_slash
