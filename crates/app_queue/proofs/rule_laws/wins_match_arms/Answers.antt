use Rattle.std.proofs.Common.{◌<◌, arith}
use Rattle.tracking_word.proofs.Parts.{counted_pair}
use Rattle.app_queue.specs.Layout.{queue_words}
use Rattle.app_queue.specs.Views.{arms_of, wins_of}
use Rattle.app_queue.proofs.rule_laws.wins_match_arms.Goals as goal

pub returns : goal.returns
returns c key s holds item stream lt some =
    let one : 0 < 1 = omega arith in
    counted_pair (arms_of 0) (wins_of 0) key.0 ((queue_words key.0 s.words).tag 0) s.views (holds.counted 0 one) item stream lt (omega (arith, some))
