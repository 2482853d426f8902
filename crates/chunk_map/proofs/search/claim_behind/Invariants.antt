use Rattle.std.proofs.Common.{ℕ, ◌≡◌, ◌*◌, ◌<◌, ◌≤◌, slice_index, false, true}
use Rattle.unit_model.specs.Runs.{chunks_for}
use Rattle.chunk_map.specs.Gains.{SameSearch, Steps}
use Rattle.chunk_map.specs.Looks.{seen_free, was_gained, was_looked}
use Rattle.chunk_map.specs.Runs.{NoneBelow}
use Rattle.chunk_map.specs.Showing.{Shows}
use Rattle.chunk_map.proofs.search.claim_behind.Given as goal

abbrev pub invariant-loop-segment : goal.invariant-loop-segment
invariant-loop-segment g l =
    let s = g.T.MapSteps in
    g.T.MapSteps.belongs l.seat l.map
    × Shows l.seen.words (s.events l.map (s.knows l.seat))
    × SameSearch (s.events l.map (s.knows l.fn.seat)) (s.events l.map (s.knows l.seat))
    × ((f : ℕ → ℕ) → s.weighs l.map f (s.knows l.seat) ≡ s.weighs l.map f (s.knows l.fn.seat))
    × ((chunk : ℕ) → 640 * l.segment ≤ chunk → was_gained (s.events l.map (s.knows l.seat)) chunk ≡ false)
    × ((earlier : ℕ) → earlier < l.segment → NoneBelow (seen_free (s.events l.map (s.knows l.seat))) (chunks_for l.size) earlier 640)
    × ((number : ℕ) → 10 * l.segment ≤ number → slice_index l.seen.words number ≡ 0)
    × ((chunk : ℕ) → chunk < 640 * l.segment → was_looked (s.events l.map (s.knows l.seat)) chunk ≡ true)
    × Steps (s.after l.map) (s.knows l.fn.seat) (s.knows l.seat)
