-- Slots of a range of numbers, which are counted from 0 there.
use Rattle.std.specs.Prelude.{ℕ, ◌+◌, ◌-◌, nat_lt, if◌then◌else◌}

-- what a slot weighs by its place among the n from the first number on; others weigh nothing
abbrev pub weight_within : ℕ → ℕ → (ℕ → ℕ) → ℕ → ℕ
weight_within first n f number =
    if nat_lt number first then 0 else if nat_lt (number - first) n then f (number - first) else 0
