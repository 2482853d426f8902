-- The parts of a rule of tags, over views of any type. What a view says is told by functions on it, so that a larger rule
-- can be made of the same parts.
use Rattle.std.specs.Prelude.{ℕ, ◌≡◌, ◌+◌, ◌<◌, ◌⊎◌, List}
use mathlib.Core.Option.{some}
use lib.ListN.{get_elem?}
use Rattle.unit_model.specs.Sharing.{Holds}
use Rattle.unit_model.specs.Weights.{weigh}
use Rattle.tracking_word.specs.Words.{standing}

-- Every arm was won once, or still stands: by any weight of items with streams, what the arms of all seats weigh is what
-- their wins weigh, and what the tags weigh.
abbrev pub Counted : {V : Type 0} → (arms wins : (ℕ → ℕ → ℕ) → V → ℕ) → ℕ → (ℕ → ℕ) → List V → Type 0
Counted arms wins n tag views = (f : ℕ → ℕ → ℕ) → weigh (arms f) views ≡ weigh (wins f) views + standing f tag n

-- The tag of an item that a seat holds is what its view says, or 0. Only the holder arms an item, and whoever else changes
-- its tag takes it to 0.
abbrev pub Known : {V : Type 0} → (held : (ℕ → ℕ) → V → ℕ) → (says : V → ℕ → ℕ → Type 0) → ℕ → (ℕ → ℕ) → List V → Type 0
Known {V} held says n tag views = (k : ℕ) (v : V) → get_elem? views k ≡ some v → (i : ℕ) → i < n → Holds held i v → (x : ℕ) → says v i x → (tag i ≡ x) ⊎ (tag i ≡ 0)

-- The word of an item that a seat holds is exactly what its view says: only the holder sets it.
abbrev pub KnownExactly : {V : Type 0} → (held : (ℕ → ℕ) → V → ℕ) → (says : V → ℕ → ℕ → Type 0) → ℕ → (ℕ → ℕ) → List V → Type 0
KnownExactly {V} held says n word views = (k : ℕ) (v : V) → get_elem? views k ≡ some v → (i : ℕ) → i < n → Holds held i v → (x : ℕ) → says v i x → word i ≡ x
