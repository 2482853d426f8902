use Rattle.chunk_map.proofs.FreeChunks.{free_taken}
use Rattle.chunk_map.proofs.laws.free_weight_falls.Goals as goal

pub returns : goal.returns
returns c = free_taken
