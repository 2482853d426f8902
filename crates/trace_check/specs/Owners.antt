-- The owners of chunks, kept in a map that has no entry for most free chunks.
use Rattle.std.specs.Prelude.{ℕ, zero, suc, List, [], ◌∷◌, ◌++◌, Option, Some, None}
use Rattle.std.specs.BTreeMap.{BTreeMap, get}
use Rattle.std.specs.Ordering.{nat_cmp}
use Rattle.unit_model.specs.declared.machine.Owner.{Owner}
use Rattle.unit_model.specs.declared.machine.Owner.TheVariants.{Free}

-- who has a chunk: no one where the map has no entry
abbrev pub or_free : Option Owner → Owner
or_free None = Free
or_free (Some owner) = owner

abbrev pub owner_in : BTreeMap ℕ Owner → ℕ → Owner
owner_in owners number = or_free (get nat_cmp owners number)

-- what a function gives for the numbers below n, in order
abbrev pub listed : {X : Type 0} → (ℕ → X) → ℕ → List X
listed f zero = []
listed f (suc n) = listed f n ++ f n ∷ []
