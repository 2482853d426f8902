use Rattle.std.proofs.Common.{ℕ, ◌≡◌, ◌≢◌, ◌+◌, ◌-◌, ◌*◌, ◌/◌, ◌<◌, ◌≤◌, true, length, slice_index}
use Rattle.chunk_map.specs.Gains.{SameSearch, Steps}
use Rattle.chunk_map.specs.Looks.{seen_free, was_gained, was_looked}
use Rattle.chunk_map.specs.Words.{is_free}
use Rattle.chunk_map.proofs.search.look.Given as goal

abbrev pub invariant-loop-number : goal.invariant-loop-number
invariant-loop-number g l =
    let s = g.T.MapSteps in
    g.T.MapSteps.belongs l.seat l.map
    × (length l.words ≡ 10)
    × ((chunk : ℕ) → chunk / 640 ≡ l.segment → chunk / 64 < 10 * l.segment + l.number → is_free (slice_index l.words) (chunk - 640 * l.segment) ≡ seen_free (s.events l.map (s.knows l.seat)) chunk)
    × ((chunk : ℕ) → chunk / 640 ≢ l.segment → seen_free (s.events l.map (s.knows l.seat)) chunk ≡ seen_free (s.events l.map (s.knows l.fn.seat)) chunk)
    × SameSearch (s.events l.map (s.knows l.fn.seat)) (s.events l.map (s.knows l.seat))
    × ((f : ℕ → ℕ) → s.weighs l.map f (s.knows l.seat) ≡ s.weighs l.map f (s.knows l.fn.seat))
    × ((chunk : ℕ) → was_gained (s.events l.map (s.knows l.seat)) chunk ≡ was_gained (s.events l.map (s.knows l.fn.seat)) chunk)
    × ((chunk : ℕ) → 10 * l.segment ≤ chunk / 64 → chunk / 64 < 10 * l.segment + l.number → was_looked (s.events l.map (s.knows l.seat)) chunk ≡ true)
    × Steps (s.after l.map) (s.knows l.fn.seat) (s.knows l.seat)
