-- What the chunks of a fabric hold: a place for a parcel at each.
use Rattle.std.specs.Prelude.{ℕ, zero, suc, ◌+◌, ◌≡◌, ◌≤◌, ◌<◌, ◌⊎◌, List, [], ◌∷◌, ◌++◌, get_or, Option, Some, None}
use Rattle.unit_model.specs.Core.{chunk_number}
use Rattle.unit_model.specs.declared.machine.Step.{Step}
use Rattle.unit_model.specs.declared.machine.Step.TheVariants.{Draw, Claim, Release, Open, GetItem, SetRun, SetPart, Arm, Push, Pop, Settle, GiveItem, Abandon}

module _ {X : Type 0} where
  -- what a place holds, as a list
  abbrev pub held : Option X → List X
  held None = []
  held (Some x) = x ∷ []

  -- what so many places from one on hold, in order
  abbrev pub held_from : List (Option X) → ℕ → ℕ → List X
  held_from chunks first zero = []
  held_from chunks first (suc count) = held_from chunks first count ++ held (get_or chunks (first + count) None)

  -- no place holds anything
  abbrev pub HoldNothing : List (Option X) → Type 0
  HoldNothing chunks = (number : ℕ) → get_or chunks number None ≡ None

  -- none holds anything but so many from one on
  abbrev pub HoldNothingBeside : List (Option X) → ℕ → ℕ → Type 0
  HoldNothingBeside chunks first count =
      (number : ℕ) → (number < first) ⊎ (first + count ≤ number) → get_or chunks number None ≡ None

  -- where the step releases a chunk, its place holds nothing
  abbrev pub IsVacated : List (Option X) → Step → Type 0
  IsVacated chunks (Draw seat stream) = Unit {0}
  IsVacated chunks (Claim seat segment chunk) = Unit {0}
  IsVacated chunks (Release seat segment chunk) =
      get_or chunks (chunk_number segment chunk) None ≡ None
  IsVacated chunks (Open seat count) = Unit {0}
  IsVacated chunks (GetItem seat queue item place) = Unit {0}
  IsVacated chunks (SetRun seat queue item run) = Unit {0}
  IsVacated chunks (SetPart seat queue item part) = Unit {0}
  IsVacated chunks (Arm seat queue item stream) = Unit {0}
  IsVacated chunks (Push seat queue item place) = Unit {0}
  IsVacated chunks (Pop seat queue item place) = Unit {0}
  IsVacated chunks (Settle seat queue item stream) = Unit {0}
  IsVacated chunks (GiveItem seat queue item place) = Unit {0}
  IsVacated chunks (Abandon seat stream) = Unit {0}

  abbrev pub AllVacated : List (Option X) → List Step → Type 0
  AllVacated chunks [] = Unit {0}
  AllVacated chunks (step ∷ steps) = IsVacated chunks step × AllVacated chunks steps
