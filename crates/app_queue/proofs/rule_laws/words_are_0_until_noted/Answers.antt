use Rattle.std.proofs.Common.{◌<◌, arith}
use Rattle.app_queue.proofs.rule_laws.words_are_0_until_noted.Goals as goal

pub returns-clause-run : goal.returns-clause-run
returns-clause-run c key s holds item lt some_run =
    let one : 0 < 1 = omega arith in
    holds.noted_runs 0 one item lt some_run

pub returns-clause-part : goal.returns-clause-part
returns-clause-part c key s holds item lt some_part =
    let one : 0 < 1 = omega arith in
    holds.noted_parts 0 one item lt some_part
