-- What holds of a claim's answer.
use Rattle.chunk_map.specs.declared.search.Claim.{Claim}
use Rattle.chunk_map.specs.declared.search.Claim.TheVariants.{Run, Full}
use Rattle.unit_model.specs.declared.runs.Run.{Run as RunOfChunks}
use Rattle.unit_model.specs.declared.runs.Seen.{Seen}

-- where it is a run, this holds of the run
abbrev pub IfRun : Claim → (RunOfChunks → Type 0) → Type 0
IfRun (Run run) holds = holds run
IfRun (Full seen) holds = Unit {0}

-- where the map is full, this holds of the looks
abbrev pub IfFull : Claim → (Seen → Type 0) → Type 0
IfFull (Run run) holds = Unit {0}
IfFull (Full seen) holds = holds seen
