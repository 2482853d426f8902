-- A sound core. It is one as it begins, and each enabled step keeps it so.
use Rattle.std.specs.Prelude.{◌≤◌, ◌↔◌, List}
use Rattle.unit_model.specs.Effects.{after_step}
use Rattle.unit_model.specs.Holding.{IsHeldRight}
use Rattle.unit_model.specs.Opening.{opened_core}
use Rattle.unit_model.specs.PartCounts.{PartCounts}
use Rattle.unit_model.specs.Running.{AllEnabled, Enabled, after_steps}
use Rattle.unit_model.specs.Shapes.{IsValid}
use Rattle.unit_model.specs.Sound.{HasSoundHoldings, NamesWhatIsThere}
use Rattle.unit_model.specs.SoundStreams.{HasSoundStreams, ReceivedOnce, TakenOrCancelled}
use Rattle.unit_model.specs.StreamCounts.{StreamCounts}
use Rattle.unit_model.specs.declared.machine.Core.{Core}
use Rattle.unit_model.specs.declared.machine.Step.{Step}
use Rattle.unit_model.specs.declared.shape.Shape.{Shape}

-- all is held right, and streams and parts are counted right
pub record IsSound (core : Core) : Type 0 where
  pub held : IsHeldRight core
  pub streams : StreamCounts core
  pub parts : PartCounts core

-- the same, point by point
pub record EachPointHolds (core : Core) : Type 0 where
  pub next : 1 ≤ core.next
  pub holdings : HasSoundHoldings core
  pub names : NamesWhatIsThere core
  pub streams : HasSoundStreams core

-- ---- the laws

abbrev pub SoundAtFirst : Type 0
SoundAtFirst = (shape : Shape) → IsValid shape → IsSound (opened_core shape)

abbrev pub StepStaysSound : Type 0
StepStaysSound = (core : Core) (step : Step) → IsSound core → Enabled core step
    → IsSound (after_step core step)

abbrev pub RunStaysSound : Type 0
RunStaysSound = (core : Core) (steps : List Step) → IsSound core → AllEnabled core steps
    → IsSound (after_steps core steps)

abbrev pub SoundIsEachPoint : Type 0
SoundIsEachPoint = (core : Core) → IsSound core ↔ EachPointHolds core

-- whatever steps are done from the core as it begins, each enabled in its turn, each point holds
abbrev pub EachPointAfterEveryRun : Type 0
EachPointAfterEveryRun =
    (shape : Shape) (steps : List Step) → IsValid shape → AllEnabled (opened_core shape) steps
    → EachPointHolds (after_steps (opened_core shape) steps)

-- so no request is both taken and cancelled, nor either of them twice; no part is received twice, and of each stream at most
-- one last part is received
abbrev pub NothingEndsTwice : Type 0
NothingEndsTwice =
    (shape : Shape) (steps : List Step)
    → IsValid shape
    → AllEnabled (opened_core shape) steps
    → TakenOrCancelled (after_steps (opened_core shape) steps)
    × ReceivedOnce (after_steps (opened_core shape) steps)
