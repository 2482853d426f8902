-- The slots that a seat carries, as a list of numbers with values. A slot is looked up by its number, so the order of the list
-- is of no concern.
use Rattle.std.specs.Prelude.{ℕ, ◌≡◌, ◌≤◌, ◌==◌, List, [], ◌∷◌, if◌then◌else◌, Option, Some, None}
use Rattle.unit_model.specs.Weights.{times}

-- the value of the slot with this number
abbrev pub content : {S : Type 0} → List (ℕ × S) → ℕ → Option S
content [] k = None
content (x ∷ xs) k = if x.0 == k then Some x.1 else content xs k

abbrev pub numbers : {S : Type 0} → List (ℕ × S) → List ℕ
numbers [] = []
numbers (x ∷ xs) = x.0 ∷ numbers xs

-- without the slot of this number
abbrev pub but : {S : Type 0} → ℕ → List (ℕ × S) → List (ℕ × S)
but k [] = []
but k (x ∷ xs) = if x.0 == k then xs else x ∷ but k xs

abbrev pub front_or : {S : Type 0} → Option S → ℕ → List (ℕ × S) → List (ℕ × S)
front_or None k c = c
front_or (Some y) k c = (k, y) ∷ but k c

-- with the slot of this number in front, where there is one
abbrev pub front : {S : Type 0} → ℕ → List (ℕ × S) → List (ℕ × S)
front k c = front_or (content c k) k c

-- no number stands twice
abbrev pub IsDistinct : {S : Type 0} → List (ℕ × S) → Type 0
IsDistinct c = (k : ℕ) → times k (numbers c) ≤ 1

-- each slot of the second list is in the first, with its value
abbrev pub Among : {S : Type 0} → List (ℕ × S) → List (ℕ × S) → Type 0
Among c [] = Unit {0}
Among c (x ∷ xs) = (content c x.0 ≡ Some x.1) × Among c xs
