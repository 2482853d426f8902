-- The schedules are legal runs of the machine, and lead from rest to rest.
use Rattle.std.specs.Prelude.{ℕ, ◌+◌, ◌*◌, ◌^◌, ◌≡◌, ◌≢◌, ◌≤◌, ◌<◌, false, List, [], ◌∷◌, length}
use Rattle.unit_model.specs.Limits.{chunk_bytes, segment_chunks}
use Rattle.unit_model.specs.Opening.{opened_core}
use Rattle.unit_model.specs.Running.{AllEnabled, after_steps}
use Rattle.unit_model.specs.Shapes.{IsValid}
use Rattle.unit_model.specs.StreamAccount.{is_left_open}
use Rattle.unit_model.specs.declared.machine.Core.{Core}
use Rattle.unit_model.specs.declared.machine.Step.{Step}
use Rattle.unit_model.specs.declared.shape.Shape.{Shape}
use Rattle.plain_fabric.specs.AtRest.{IsAtRest}
use Rattle.plain_fabric.specs.Schedule.{Passed, Answered, HungUp, answered_steps, hung_up_steps, parts_in, trace_of}

-- ---- what can be sent

-- a message of so many bytes fits one segment
abbrev pub FitsSegment : ℕ → Type 0
FitsSegment size = (1 ≤ size) × (size ≤ chunk_bytes * segment_chunks)

abbrev pub AllFit : List ℕ → Type 0
AllFit [] = Unit {0}
AllFit (size ∷ sizes) = FitsSegment size × AllFit sizes

-- so many parts can a reply have
abbrev pub most_parts : ℕ
most_parts = 4096

abbrev pub CanPass : Passed → Type 0
CanPass (Answered size sizes) =
    FitsSegment size × AllFit sizes × (sizes ≢ []) × (length sizes ≤ most_parts)
CanPass (HungUp size) = FitsSegment size

abbrev pub AllCanPass : List Passed → Type 0
AllCanPass [] = Unit {0}
AllCanPass (passed ∷ more) = CanPass passed × AllCanPass more

-- streams and places are far from their ends
pub record IsEarly (drawn sent : ℕ) : Type 0 where
  pub few_drawn : drawn < 2 ^ 48
  pub few_sent : sent ≤ most_parts * drawn

-- ---- the laws

-- one engine and one worker
pub record HasOnePair (shape : Shape) : Type 0 where
  pub valid : IsValid shape
  pub engines : shape.engines ≡ 1
  pub workers : shape.workers ≡ 1

-- each of the steps is enabled in its turn, and behind them the core is at rest
abbrev pub LeadsToRest : Core → List Step → ℕ → ℕ → Type 0
LeadsToRest core steps drawn sent =
    AllEnabled core steps × IsAtRest (after_steps core steps) drawn sent

abbrev pub AnsweredLaw : Type 0
AnsweredLaw = (core : Core) (drawn sent size : ℕ) (sizes : List ℕ)
    → IsAtRest core drawn sent
    → IsEarly drawn sent
    → CanPass (Answered size sizes)
    → LeadsToRest core (answered_steps core.shape drawn sent size sizes)
    (drawn + 1) (sent + length sizes)

abbrev pub HungUpLaw : Type 0
HungUpLaw = (core : Core) (drawn sent size : ℕ)
    → IsAtRest core drawn sent
    → IsEarly drawn sent
    → CanPass (HungUp size)
    → LeadsToRest core (hung_up_steps core.shape drawn size) (drawn + 1) sent

abbrev pub OpenedLaw : Type 0
OpenedLaw = (shape : Shape) → HasOnePair shape → IsAtRest (opened_core shape) 0 0

abbrev pub parts_of_all : List Passed → ℕ
parts_of_all [] = 0
parts_of_all (passed ∷ more) = parts_in passed + parts_of_all more

-- the trace of any requests is a legal run from the opened core, and leads to rest
abbrev pub TraceLaw : Type 0
TraceLaw = (shape : Shape) (requests : List Passed) → HasOnePair shape → AllCanPass requests
    → length requests ≤ 2 ^ 48
    → LeadsToRest (opened_core shape) (trace_of shape requests)
    (length requests) (parts_of_all requests)

-- and no stream is left open there
abbrev pub NoneLeftOpen : Type 0
NoneLeftOpen = (shape : Shape) (requests : List Passed) → HasOnePair shape → AllCanPass requests
    → length requests ≤ 2 ^ 48
    → (stream : ℕ)
    → is_left_open (after_steps (opened_core shape) (trace_of shape requests)) stream ≡ false
