use Rattle.std.proofs.Common.{slice_index, arith}
use Rattle.tracking_word.specs.Views.{arms_of, wins_of}
use Rattle.tracking_word.proofs.Parts.{counted_pair}
use Rattle.tracking_word.proofs.laws.wins_match_arms.Goals as goal

pub returns : goal.returns
returns c n s holds item stream lt some = counted_pair arms_of wins_of n (slice_index s.words) s.views holds.counted item stream lt (omega (arith, some))
