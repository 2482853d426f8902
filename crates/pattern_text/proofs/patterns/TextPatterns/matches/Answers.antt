use Rattle.std.proofs.Common.{◌∙◌, refl}
use Rattle.pattern_text.proofs.ListLemmas.{list_holds_exactly}
use Rattle.pattern_text.proofs.patterns.TextPatterns.matches.Goals as goal

pub returns : goal.returns
returns c = c.holds.ensures c.args.text.now refl ∙ list_holds_exactly c.args.self.now c.args.text.now
