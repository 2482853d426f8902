use Rattle.std.proofs.Common.{ℕ, ◌*◌, List, subst, slice_index}
use Rattle.unit_model.specs.Sharing.{Owned}
use Rattle.chunk_map.specs.Parts.{OpenPart, OpeningsCounted}
use Rattle.chunk_map.specs.Rule.{MapHolds, map_words}
use Rattle.chunk_map.specs.Views.{held_by, open_noted, openings_of}
use Rattle.chunk_map.specs.Words.{free_weight}
use Rattle.chunk_map.proofs.map.ChunkMap.close.Goals as goal

pub returns-clause-last : goal.returns-clause-last
returns-clause-last c =
    let end = c.close_with.ensures.values.2 in
    let state = end.0 in
    let n : ℕ = c.args.self.segments in
    let meets : MapHolds n state = subst (λ (m : ℕ). MapHolds m state) c.args.self.sized.0 end.1.0 in
    record {
      views = state.views;
      view = end.1.1;
      owned = subst (λ (words : List ℕ). Owned held_by (free_weight (map_words words) (640 * n)) (640 * n) state.views) end.2 meets.owned;
      opened = subst (λ (words : List ℕ). OpenPart n open_noted (slice_index words 0) (map_words words) state.views) end.2 meets.opened;
      counted = subst (λ (words : List ℕ). OpeningsCounted openings_of (slice_index words 0) state.views) end.2 meets.counted;
    }
