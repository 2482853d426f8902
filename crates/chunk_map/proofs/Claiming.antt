-- What holds of a claim's answer, from what holds of it.
use Rattle.std.proofs.Common.{ℕ, List, ◌∷◌, refl}
use Rattle.std.specs.Prelude.{Option, Some, None, IfNone}
use Rattle.unit_model.specs.declared.runs.Run.{Run as RunOfChunks}
use Rattle.unit_model.specs.declared.runs.Seen.{Seen}
use Rattle.chunk_map.specs.Claims.{IfRun, IfFull}
use Rattle.chunk_map.specs.Looks.{Begins}
use Rattle.chunk_map.specs.declared.view.MapEvent.{MapEvent}
use Rattle.chunk_map.specs.declared.view.MapEvent.TheVariants.{SawOpen}
use Rattle.chunk_map.specs.declared.search.Claim.{Claim}
use Rattle.chunk_map.specs.declared.search.Claim.TheVariants.{Run, Full}

pub run_so : (claim : Claim) (holds holds' : RunOfChunks → Type 0) → ((run : RunOfChunks) → holds run → holds' run) → IfRun claim holds → IfRun claim holds'
run_so (Run run) holds holds' so it = so run it
run_so (Full seen) holds holds' so it = tt

pub full_so : (claim : Claim) (holds holds' : Seen → Type 0) → ((seen : Seen) → holds seen → holds' seen) → IfFull claim holds → IfFull claim holds'
full_so (Run run) holds holds' so it = tt
full_so (Full seen) holds holds' so it = so seen it

pub none_then : {T : Type 0} (found : Option T) {Holds Holds' : Type 0} → IfNone found Holds → (Holds → Holds') → IfNone found Holds'
none_then (Some t) it so = tt
none_then None it so = so it

-- after a load of the open word a search has begun
pub begins : (opened : ℕ) (log : List MapEvent) → Begins opened (SawOpen opened ∷ log)
begins opened log = record { count = refl; gained = λ chunk. refl; seen = λ chunk. refl; looked = λ chunk. refl }
