use Rattle.std.proofs.Common.{◌∙◌}
use Rattle.pattern_text.proofs.PlainLemmas.{same_exactly}
use Rattle.pattern_text.proofs.case.is_same.Goals as goal

pub returns-in-Exact : goal.returns-in-Exact
returns-in-Exact c = c.eq.ensures ∙ same_exactly c.args.case c.in-Exact.is c.args.text.now c.args.other.now
