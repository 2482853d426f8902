use Rattle.pattern_text.proofs.CutLemmas.{matches_where_cut}
use Rattle.pattern_text.proofs.matches_where_cut.Goals as goal

pub returns : goal.returns
returns c = matches_where_cut
