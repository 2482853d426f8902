-- Carried slots that have a value or are empty. Empty ones come and go, and those with values stay.
use Rattle.std.specs.Prelude.{ℕ, zero, suc, ◌==◌, if◌then◌else◌, List, [], ◌∷◌, Option, Some, None}
use Rattle.unit_model.specs.Weights.{weigh}

abbrev pub empty_gone : {T : Type 0} → Option T → ℕ → ℕ × Option T → List (ℕ × Option T) → List (ℕ × Option T) → List (ℕ × Option T)
empty_gone None k x xs rest = if x.0 == k then xs else x ∷ rest
empty_gone (Some y) k x xs rest = x ∷ rest

-- without the slot of this number, if it is empty
abbrev pub without_empty : {T : Type 0} → ℕ → List (ℕ × Option T) → List (ℕ × Option T)
without_empty k [] = []
without_empty k (x ∷ xs) = empty_gone x.1 k x xs (without_empty k xs)

abbrev pub weight_if_empty : {T : Type 0} → Option T → ℕ → ℕ
weight_if_empty None weight = weight
weight_if_empty (Some y) weight = 0

-- what the numbers of the empty slots weigh
abbrev pub empty_weight : {T : Type 0} → (ℕ → ℕ) → List (ℕ × Option T) → ℕ
empty_weight f c = weigh (λ x. weight_if_empty x.1 (f x.0)) c

abbrev pub full_or : {T : Type 0} → Option T → ℕ × Option T → List (ℕ × Option T) → List (ℕ × Option T)
full_or None x rest = rest
full_or (Some y) x rest = x ∷ rest

-- the slots with values
abbrev pub full_slots : {T : Type 0} → List (ℕ × Option T) → List (ℕ × Option T)
full_slots [] = []
full_slots (x ∷ xs) = full_or x.1 x (full_slots xs)

-- an empty slot, where this is not 0
abbrev pub empty_if_some : {T : Type 0} → ℕ → Option (Option T)
empty_if_some zero = None
empty_if_some (suc n) = Some None

-- the slot that was found, or else an empty one, where this is not 0
abbrev pub found_or_empty : {T : Type 0} → Option (Option T) → ℕ → Option (Option T)
found_or_empty None n = empty_if_some n
found_or_empty (Some y) n = Some y
