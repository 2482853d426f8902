use Rattle.chunk_map.proofs.WordChanges.{all_zero}
use Rattle.chunk_map.proofs.search.unseen.Goals as goal

pub returns : goal.returns
returns c number = all_zero 80 number
