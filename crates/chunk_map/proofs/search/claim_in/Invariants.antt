use Rattle.std.proofs.Common.{ℕ, ◌≡◌, ◌-◌, ◌≤◌}
use Rattle.chunk_map.specs.Gains.{Steps}
use Rattle.chunk_map.proofs.ClaimLaws.{Trying}
use Rattle.chunk_map.proofs.search.claim_in.Given as goal

abbrev pub invariant-loop-first : goal.invariant-loop-first
invariant-loop-first g l =
    g.T.MapSteps.belongs l.seat l.map
    × (l.from ≤ 640)
    × Trying (g.T.MapSteps.events l.map (g.T.MapSteps.knows l.fn.seat)) (g.T.MapSteps.events l.map (g.T.MapSteps.knows l.seat)) l.words l.starts l.segment l.count l.from
    × ((f : ℕ → ℕ) → g.T.MapSteps.weighs l.map f (g.T.MapSteps.knows l.seat) ≡ g.T.MapSteps.weighs l.map f (g.T.MapSteps.knows l.fn.seat))
    × Steps (g.T.MapSteps.after l.map) (g.T.MapSteps.knows l.fn.seat) (g.T.MapSteps.knows l.seat)

abbrev pub decreases-loop-first : goal.decreases-loop-first
decreases-loop-first g l = 640 - l.from
