use Rattle.path_normal.proofs.LawLemmas.{plain_text}
use Rattle.path_normal.proofs.laws.plain_text_stays.Goals as goal

pub returns : goal.returns
returns c = plain_text
