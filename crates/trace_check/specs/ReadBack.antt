-- Steps whose numbers fit their types.
use Rattle.std.specs.Prelude.{ℕ, ◌^◌, ◌<◌}
use Rattle.unit_model.specs.declared.machine.Step.{Step}
use Rattle.unit_model.specs.declared.machine.Step.TheVariants.{Draw, Claim, Release, Open, GetItem, SetRun, SetPart, Arm, Push, Pop, Settle, GiveItem, Abandon}

-- an item of a queue, named by a seat with a place, part or stream
abbrev pub FitsOnItem : ℕ → ℕ → ℕ → ℕ → Type 0
FitsOnItem seat queue item number =
    (seat < 2 ^ 32) × (queue < 2 ^ 32) × (item < 2 ^ 32) × (number < 2 ^ 64)

abbrev pub FitsStep : Step → Type 0
FitsStep (Draw seat stream) = (seat < 2 ^ 32) × (stream < 2 ^ 64)
FitsStep (Claim seat segment chunk) = (seat < 2 ^ 32) × (segment < 2 ^ 32) × (chunk < 2 ^ 32)
FitsStep (Release seat segment chunk) = (seat < 2 ^ 32) × (segment < 2 ^ 32) × (chunk < 2 ^ 32)
FitsStep (Open seat count) = (seat < 2 ^ 32) × (count < 2 ^ 32)
FitsStep (GetItem seat queue item place) = FitsOnItem seat queue item place
FitsStep (SetRun seat queue item run) =
    (seat < 2 ^ 32) × (queue < 2 ^ 32) × (item < 2 ^ 32) × (run.segment < 2 ^ 16)
    × (run.chunk < 2 ^ 16) × (run.size < 2 ^ 32)
FitsStep (SetPart seat queue item part) = FitsOnItem seat queue item part
FitsStep (Arm seat queue item stream) = FitsOnItem seat queue item stream
FitsStep (Push seat queue item place) = FitsOnItem seat queue item place
FitsStep (Pop seat queue item place) = FitsOnItem seat queue item place
FitsStep (Settle seat queue item stream) = FitsOnItem seat queue item stream
FitsStep (GiveItem seat queue item place) = FitsOnItem seat queue item place
FitsStep (Abandon seat stream) = (seat < 2 ^ 32) × (stream < 2 ^ 64)
