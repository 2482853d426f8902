-- What steps, splits and joins do to 'each number in exactly one place'. What of the stepping seat's view has changed is a
-- premise.
use Rattle.std.proofs.Common.{ℕ, ◌≡◌, ◌≢◌, ◌+◌, ◌<◌, inl, inr, List, [], ◌∷◌, ◌++◌, set, arith}
use Rattle.std.proofs.lemmas.Bool.{cases_lt}
use mathlib.Core.Option.{some}
use lib.ListN.{get_elem?}
use Rattle.unit_model.specs.Sharing.{Owned, Holds}
use Rattle.unit_model.specs.Weights.{is_number}
use Rattle.unit_model.proofs.Views.{sum_set, sum_at, sum_two, sum_split, sum_join}
use Rattle.unit_model.proofs.Weights.{below_is, below_is_not}

pub owned_stays : {V : Type 0} (held : (ℕ → ℕ) → V → ℕ) (elsewhere : (ℕ → ℕ) → ℕ) (n : ℕ) (views : List V) (k : ℕ) (v u : V) → get_elem? views k ≡ some v
    → ((f : ℕ → ℕ) → held f u ≡ held f v) → Owned held elsewhere n views → Owned held elsewhere n (set views k u)
owned_stays held elsewhere n views k v u at same old f = omega (arith, old f, same f, sum_set (held f) views k v u at)

-- what the stepping seat gains, the rest loses, and the other way round
pub owned_moves : {V : Type 0} (held : (ℕ → ℕ) → V → ℕ) (elsewhere elsewhere' : (ℕ → ℕ) → ℕ) (n : ℕ) (views : List V) (k : ℕ) (v u : V) → get_elem? views k ≡ some v
    → ((f : ℕ → ℕ) → elsewhere' f + held f u ≡ elsewhere f + held f v) → Owned held elsewhere n views → Owned held elsewhere' n (set views k u)
owned_moves held elsewhere elsewhere' n views k v u at moved old f = omega (arith, old f, moved f, sum_set (held f) views k v u at)

-- a number that a view holds is one of them, and isn't elsewhere too
pub owned_below : {V : Type 0} (held : (ℕ → ℕ) → V → ℕ) (elsewhere : (ℕ → ℕ) → ℕ) (n : ℕ) (views : List V) (k : ℕ) (v : V) → get_elem? views k ≡ some v
    → (number : ℕ) → Holds held number v → Owned held elsewhere n views → number < n
owned_below held elsewhere n views k v at number mine old =
    elim (cases_lt number n) [
      | inl lt ↦ lt
      | inr le ↦ absurd (omega (arith, mine, old (is_number number), sum_at (held (is_number number)) views k v at, below_is_not n number le))
    ]

pub owned_here : {V : Type 0} (held : (ℕ → ℕ) → V → ℕ) (elsewhere : (ℕ → ℕ) → ℕ) (n : ℕ) (views : List V) (k : ℕ) (v : V) → get_elem? views k ≡ some v
    → (number : ℕ) → number < n → Holds held number v → Owned held elsewhere n views → elsewhere (is_number number) ≡ 0
owned_here held elsewhere n views k v at number lt mine old = omega (arith, mine, old (is_number number), sum_at (held (is_number number)) views k v at, below_is n number lt)

pub owned_split : {V : Type 0} (held : (ℕ → ℕ) → V → ℕ) (elsewhere : (ℕ → ℕ) → ℕ) (n : ℕ) (views : List V) (k : ℕ) (v left right : V) → get_elem? views k ≡ some v
    → ((f : ℕ → ℕ) → held f left + held f right ≡ held f v) → Owned held elsewhere n views → Owned held elsewhere n (set views k left ++ right ∷ [])
owned_split held elsewhere n views k v left right at parts old f = omega (arith, old f, sum_split (held f) views k v left right at (parts f))

pub owned_join : {V : Type 0} (held : (ℕ → ℕ) → V → ℕ) (elsewhere : (ℕ → ℕ) → ℕ) (n : ℕ) (views : List V) (k other : ℕ) (v w both spent : V) → get_elem? views k ≡ some v → get_elem? (set views k both) other ≡ some w
    → ((f : ℕ → ℕ) → held f both + held f spent ≡ held f v + held f w) → Owned held elsewhere n views → Owned held elsewhere n (set (set views k both) other spent)
owned_join held elsewhere n views k other v w both spent at there parts old f = omega (arith, old f, sum_join (held f) views k other v w both spent at there (parts f))

-- no two views hold one number
pub owned_once : {V : Type 0} (held : (ℕ → ℕ) → V → ℕ) (elsewhere : (ℕ → ℕ) → ℕ) (n : ℕ) (views : List V) (j k : ℕ) (v w : V) → j ≢ k → get_elem? views j ≡ some v → get_elem? views k ≡ some w
    → (number : ℕ) → number < n → Holds held number v → Owned held elsewhere n views → ¬ (Holds held number w)
owned_once held elsewhere n views j k v w apart one two number lt mine old theirs =
    absurd (omega (arith, mine, theirs, old (is_number number), sum_two (held (is_number number)) views j k v w apart one two, below_is n number lt))
