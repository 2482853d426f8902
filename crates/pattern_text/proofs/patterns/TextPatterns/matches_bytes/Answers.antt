use Rattle.std.proofs.Common.{◌∙◌}
use Rattle.pattern_text.proofs.ListLemmas.{list_holds_exactly}
use Rattle.pattern_text.proofs.patterns.TextPatterns.matches_bytes.Goals as goal

pub returns : goal.returns
returns g c bytes yields = c.holds.ensures bytes yields ∙ list_holds_exactly c.args.self.now bytes
