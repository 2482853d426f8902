-- The laws on counts of streams and parts.
use Rattle.std.specs.Prelude.{◌↔◌}
use Rattle.unit_model.specs.Effects.{after_step}
use Rattle.unit_model.specs.Holding.{IsHeldRight}
use Rattle.unit_model.specs.Opening.{opened_core}
use Rattle.unit_model.specs.PartCounts.{PartCounts}
use Rattle.unit_model.specs.Running.{Enabled}
use Rattle.unit_model.specs.SoundStreams.{HasSoundStreams}
use Rattle.unit_model.specs.StreamAccount.{AccountIsWhole, EachStreamIsOne, EntriesAreStreams}
use Rattle.unit_model.specs.StreamCounts.{StreamCounts}
use Rattle.unit_model.specs.declared.machine.Core.{Core}
use Rattle.unit_model.specs.declared.machine.Step.{Step}
use Rattle.unit_model.specs.declared.shape.Shape.{Shape}

-- the core as it begins has the counts
abbrev pub CountsAtFirst : Type 0
CountsAtFirst = (shape : Shape) → StreamCounts (opened_core shape) × PartCounts (opened_core shape)

-- an enabled step keeps what holds of the counts of streams
abbrev pub StepKeepsStreams : Type 0
StepKeepsStreams = (core : Core) (step : Step) → StreamCounts core → Enabled core step
    → StreamCounts (after_step core step)

-- and what holds of the counts of parts, where the core is held right
abbrev pub StepKeepsParts : Type 0
StepKeepsParts = (core : Core) (step : Step) → IsHeldRight core → StreamCounts core
    → PartCounts core → Enabled core step → PartCounts (after_step core step)

-- the counts say each point on streams and parts, and the points say the counts
abbrev pub CountsAreThePoints : Type 0
CountsAreThePoints = (core : Core) → IsHeldRight core
    → (StreamCounts core × PartCounts core) ↔ HasSoundStreams core

-- what became of the streams
pub record StreamsAddUp (core : Core) : Type 0 where
  pub each : EachStreamIsOne core
  pub whole : AccountIsWhole core
  pub entries : EntriesAreStreams core

abbrev pub CountsAddUp : Type 0
CountsAddUp = (core : Core) → StreamCounts core → PartCounts core → StreamsAddUp core
