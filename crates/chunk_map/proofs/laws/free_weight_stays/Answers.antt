use Rattle.chunk_map.proofs.FreeChunks.{free_stays}
use Rattle.chunk_map.proofs.laws.free_weight_stays.Goals as goal

pub returns : goal.returns
returns c = free_stays
