use Rattle.std.proofs.Common.{ℕ, ◌≡◌, ◌+◌, ◌*◌, ◌<◌, ◌≤◌, min, length}
use Rattle.chunk_map.specs.Search.{bit_of}
use Rattle.chunk_map.proofs.run_bits.both.Given as goal

abbrev pub invariant-loop-number : goal.invariant-loop-number
invariant-loop-number l =
    (length l.out ≡ 10)
    × ((place : ℕ) → place < 64 * l.number → bit_of l.out place ≡ min (bit_of l.starts place) (bit_of l.starts (place + l.by)))
    × ((place : ℕ) → 64 * l.number ≤ place → bit_of l.out place ≡ bit_of l.starts place)
