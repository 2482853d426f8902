use Rattle.std.proofs.Common.{slice_index}
use Rattle.chunk_map.specs.Views.{openings_of}
use Rattle.chunk_map.proofs.OpenSegments.{opened_once, not_opened}
use Rattle.chunk_map.proofs.laws.each_segment_is_opened_once.Goals as goal

pub returns-clause-opened : goal.returns-clause-opened
returns-clause-opened c n s holds count from to = opened_once openings_of (slice_index s.words 0) s.views count from to holds.counted

pub returns-clause-closed : goal.returns-clause-closed
returns-clause-closed c n s holds count above = not_opened openings_of (slice_index s.words 0) s.views count above holds.counted

pub returns-clause-some : goal.returns-clause-some
returns-clause-some c n s holds = (holds.opened.least, holds.opened.most)
