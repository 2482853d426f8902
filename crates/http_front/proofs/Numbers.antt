-- The number that digits write.
use Rattle.std.proofs.Common.{ℕ, ◌+◌, ◌-◌, ◌*◌, ◌≤◌, List, [], ◌∷◌, arith}
use Rattle.http_front.specs.Framing.{number_from}

-- more digits make no number smaller
pub number_grows : (n : ℕ) (text : List ℕ) → n ≤ number_from n text
number_grows n [] = omega arith
number_grows n (b ∷ text) = let low = number_grows (10 * n + (b - 48)) text in omega (arith, low)
