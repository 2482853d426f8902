-- Each number in exactly one place. What a view says is told by functions on it, so that rules of any tables can be made of
-- the same parts.
use Rattle.std.specs.Prelude.{ℕ, ◌≡◌, ◌+◌, ◌<◌, List}
use Rattle.unit_model.specs.Weights.{weigh, below, is_number}

-- By any weight of numbers, what the views hold, and what is elsewhere, weighs what all numbers below n weigh.
abbrev pub Owned : {V : Type 0} → (held : (ℕ → ℕ) → V → ℕ) → (elsewhere : (ℕ → ℕ) → ℕ) → ℕ → List V
    → Type 0
Owned held elsewhere n views = (f : ℕ → ℕ) → elsewhere f + weigh (held f) views ≡ below f n

-- a view holds the number
abbrev pub Holds : {V : Type 0} → ((ℕ → ℕ) → V → ℕ) → ℕ → V → Type 0
Holds held number v = 0 < held (is_number number) v
