use Rattle.std.proofs.Common.{sym, ◌∙◌}
use Rattle.pattern_text.proofs.GlobLemmas.{matches_behind_part}
use Rattle.pattern_text.proofs.glob.matches.Goals as goal

pub returns-in-Star : goal.returns-in-Star
returns-in-Star g c bytes yields =
    let passed = c.in-Star.ensures.front bytes yields in
    c.matches_some_end.ensures passed.0 passed.1 ∙ sym (matches_behind_part _ _ _ _ passed.2)
