use Rattle.std.proofs.Common.{◌*◌, arith}
use Rattle.unit_model.specs.Weights.{is_number}
use Rattle.unit_model.proofs.Weights.{below_is}
use Rattle.chunk_map.specs.Rule.{map_words}
use Rattle.chunk_map.proofs.FreeChunks.{free_one}
use Rattle.segment_table.proofs.laws.each_chunk_is_in_one_place.Goals as goal

pub returns : goal.returns
returns g c n s holds chunk lt = omega (arith, holds.owned (is_number chunk), free_one (640 * n) (map_words s.words) chunk lt, below_is (640 * n) chunk lt)
