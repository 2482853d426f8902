use Rattle.std.proofs.Common.{ℕ, ◌≡◌, ◌+◌, ◌≤◌, ◌<◌}
use Rattle.unit_model.specs.Weights.{is_number}
use Rattle.chunk_map.specs.Gains.{given_back}
use Rattle.chunk_map.proofs.search.give_back.Given as goal

abbrev pub invariant-loop-left : goal.invariant-loop-left
invariant-loop-left g l =
    g.T.MapSteps.belongs l.seat l.map
    × (l.left ≤ l.count)
    × ((i : ℕ) → i < l.left → 0 < g.T.MapSteps.weighs l.map (is_number (l.first + i)) (g.T.MapSteps.knows l.seat))
    × (given_back (g.T.MapSteps.after l.map) l.first l.left (g.T.MapSteps.knows l.seat) ≡ given_back (g.T.MapSteps.after l.map) l.first l.count (g.T.MapSteps.knows l.fn.seat))

abbrev pub decreases-loop-left : goal.decreases-loop-left
decreases-loop-left g l = l.left
