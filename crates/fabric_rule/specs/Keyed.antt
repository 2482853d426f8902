-- What one view alone says of a key, against data of that key. Several views may have one seat number, so a sentence of the rule
-- that speaks of the view of a number, or of a stream, means the one that has this key.
use Rattle.std.specs.Prelude.{ℕ, ◌+◌, ◌≡◌, ◌≤◌, List, ◌++◌, [], ◌∷◌, set}
use mathlib.Core.Option.{some}
use lib.ListN.{get_elem?}
use Rattle.unit_model.specs.Weights.{weigh}

-- Each key is with at most one view, and where a view has it, the fact holds.
pub record Keyed {V : Type 0} (has : ℕ → V → ℕ) (fact : ℕ → V → Type 0) (views : List V) : Type 0 where
  pub once : (key : ℕ) → weigh (has key) views ≤ 1
  pub each : (key at : ℕ) (v : V) → get_elem? views at ≡ some v → 1 ≤ has key v → fact key v

-- ---- what steps do

-- a step of one view, which may change data of its own keys and of those that no view has
abbrev pub KeyedStep : {V : Type 0} → (ℕ → V → ℕ) → (fact fact' : ℕ → V → Type 0) → Type 0
KeyedStep {V} has fact fact' = (views : List V) (id : ℕ) (v u : V) → get_elem? views id ≡ some v
    → ((key : ℕ) → weigh (has key) views + has key u ≤ 1 + has key v)
    → ((key : ℕ) → 1 ≤ has key u → fact' key u)
    → ((key : ℕ) → has key v ≡ 0 → (y : V) → 1 ≤ has key y → fact key y → fact' key y)
    → Keyed has fact views
    → Keyed has fact' (set views id u)

-- a view is cut in two
abbrev pub KeyedSplit : {V : Type 0} → (ℕ → V → ℕ) → (ℕ → V → Type 0) → Type 0
KeyedSplit {V} has fact = (views : List V) (id : ℕ) (v left right : V) → get_elem? views id ≡ some v
    → ((key : ℕ) → has key left + has key right ≡ has key v)
    → ((key : ℕ) → 1 ≤ has key left → fact key v → fact key left)
    → ((key : ℕ) → 1 ≤ has key right → fact key v → fact key right)
    → Keyed has fact views
    → Keyed has fact (set views id left ++ right ∷ [])

-- a view takes another one in, which is spent
abbrev pub KeyedJoin : {V : Type 0} → (ℕ → V → ℕ) → (ℕ → V → Type 0) → Type 0
KeyedJoin {V} has fact = (views : List V) (id other : ℕ) (v w both spent : V)
    → get_elem? views id ≡ some v
    → get_elem? views other ≡ some w
    → get_elem? (set views id both) other ≡ some w
    → ((key : ℕ) → has key both ≡ has key v + has key w)
    → ((key : ℕ) → has key spent ≡ 0)
    → ((key : ℕ) → 1 ≤ has key v → fact key v → fact key both)
    → ((key : ℕ) → 1 ≤ has key w → fact key w → fact key both)
    → Keyed has fact views
    → Keyed has fact (set (set views id both) other spent)
