use Rattle.chunk_map.proofs.FreeChunks.{free_freed}
use Rattle.chunk_map.proofs.laws.free_weight_rises.Goals as goal

pub returns : goal.returns
returns c = free_freed
