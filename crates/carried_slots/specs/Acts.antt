-- What steps of a table do with the slots that a seat carries: acts made of taking one slot, and of giving the one in front.
use Rattle.std.specs.Prelude.{ℕ, ◌≡◌, List, [], ◌∷◌}
use mathlib.Core.Option.{some}
use lib.ListN.{get_elem?}
use Rattle.atomic_table.specs.Table.{Act, keeps, takes, gives, chain}

-- all these are given
abbrev pub gives_all : {S : Type 0} → List (ℕ × S) → Act S
gives_all [] = keeps
gives_all (x ∷ xs) = chain gives (gives_all xs)

-- all these are taken, the last one first
abbrev pub takes_all : {S : Type 0} → List (ℕ × S) → Act S
takes_all [] = keeps
takes_all (x ∷ xs) = chain (takes_all xs) (takes x.0 x.1)

-- what is carried is given, and these are taken: so any of the slots go, and the others come into another order
abbrev pub becomes : {S : Type 0} → List (ℕ × S) → List (ℕ × S) → Act S
becomes carried target = chain (gives_all carried) (takes_all target)

-- each of these slots is at home with its value
abbrev pub AtHome : {S : Type 0} → List (mathlib.Core.Option.Option S) → List (ℕ × S) → Type 0
AtHome homes [] = Unit {0}
AtHome homes (x ∷ xs) = (get_elem? homes x.0 ≡ some (some x.1)) × AtHome homes xs
