use Rattle.std.proofs.Common.{ℕ, ◌≡◌, ◌↔◌, ◌-◌, ◌≤◌}
use Rattle.chunk_map.specs.Search.{bit_of, AllSet}
use Rattle.chunk_map.proofs.run_bits.run_starts.Given as goal

abbrev pub invariant-loop-length : goal.invariant-loop-length
invariant-loop-length l = (1 ≤ l.length) × (l.length ≤ l.count) × ((place : ℕ) → (bit_of l.starts place ≡ 1) ↔ AllSet l.words place l.length)

abbrev pub decreases-loop-length : goal.decreases-loop-length
decreases-loop-length l = l.count - l.length
