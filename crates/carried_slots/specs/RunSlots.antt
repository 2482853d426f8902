-- Slots of neighbouring numbers. A slot has a value, or is empty.
use Rattle.std.specs.Prelude.{ℕ, zero, suc, ◌+◌, ◌≡◌, ◌<◌, ◌≤◌, ◌⊎◌, List, [], ◌∷◌, Option, Some, None, length, slice_get}
use Rattle.carried_slots.specs.Carried.{content, but}

-- the n slots from this number on are carried, and empty
abbrev pub HasEmpty : {T : Type 0} → ℕ → ℕ → List (ℕ × Option T) → Type 0
HasEmpty first n c = (i : ℕ) → i < n → content c (first + i) ≡ Some None

-- the slots from this number on are carried, and have these values
abbrev pub HasValues : {T : Type 0} → ℕ → List T → List (ℕ × Option T) → Type 0
HasValues first values c = (i : ℕ) → i < length values → content c (first + i) ≡ Some (slice_get values i)

-- the n slots from this number on are carried, and have values
abbrev pub HasFull : {T : Type 0} → ℕ → ℕ → List (ℕ × Option T) → Type 0
HasFull {T} first n c = (i : ℕ) → i < n → (value : T) × (content c (first + i) ≡ Some (Some value))

-- all other slots than the n from this number on are what they were
abbrev pub SameElsewhere : {T : Type 0} → ℕ → ℕ → List (ℕ × Option T) → List (ℕ × Option T) → Type 0
SameElsewhere first n c c' = (k : ℕ) → (k < first) ⊎ (first + n ≤ k) → content c' k ≡ content c k

-- none of the n slots from this number on is carried
abbrev pub HasNone : {S : Type 0} → ℕ → ℕ → List (ℕ × S) → Type 0
HasNone first n c = (i : ℕ) → i < n → content c (first + i) ≡ None

-- without the n slots from this number on
abbrev pub run_gone : {S : Type 0} → ℕ → ℕ → List (ℕ × S) → List (ℕ × S)
run_gone first zero c = c
run_gone first (suc n) c = run_gone first n (but (first + n) c)

-- slots from this number on with these values, in order
abbrev pub run_of : {S : Type 0} → ℕ → List S → List (ℕ × S)
run_of first [] = []
run_of first (x ∷ xs) = (first, x) ∷ run_of (first + 1) xs
