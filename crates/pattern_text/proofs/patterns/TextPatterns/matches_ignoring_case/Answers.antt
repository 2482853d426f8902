use Rattle.std.proofs.Common.{◌∙◌, refl}
use Rattle.pattern_text.proofs.ListLemmas.{list_holds_ignoring_case}
use Rattle.pattern_text.proofs.patterns.TextPatterns.matches_ignoring_case.Goals as goal

pub returns : goal.returns
returns c = c.holds.ensures c.args.text.now refl ∙ list_holds_ignoring_case c.args.self.now c.args.text.now
