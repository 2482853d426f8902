use Rattle.std.proofs.Common.{ℕ, ◌∙◌, List, set, ap}
use Rattle.chunk_map.proofs.Stepping.{opens}
use Rattle.chunk_map.proofs.map.ChunkMap.open.Goals as goal

pub of_words-requires : goal.of_words-requires
of_words-requires c = opens c.args.segments c.as_slice.result.now c.requires.0 (c.as_slice.ensures.value ∙ ap (λ (ws : List ℕ). set ws 0 1) (c.in_ok-words.ensures.items_if_clones_equal (λ y same. same)))
