use Rattle.std.proofs.Common.{◌∙◌}
use Rattle.pattern_text.proofs.ListLemmas.{list_holds_ignoring_case}
use Rattle.pattern_text.proofs.patterns.TextPatterns.matches_bytes_ignoring_case.Goals as goal

pub returns : goal.returns
returns g c bytes yields = c.holds.ensures bytes yields ∙ list_holds_ignoring_case c.args.self.now bytes
