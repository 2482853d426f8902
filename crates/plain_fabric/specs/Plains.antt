-- A fabric on one thread: its words, and what it was asked.
use Rattle.std.specs.Prelude.{ℕ, ◌+◌, ◌*◌, ◌≡◌, ◌≤◌, Bool, false, List, length, map, Option}
use Rattle.unit_types.specs.Record.{reply_record}
use Rattle.unit_types.specs.declared.message.Reply.{Reply}
use Rattle.unit_types.specs.declared.message.Request.{Request}
use Rattle.request_context.specs.Parts.{parts_of}
use Rattle.request_context.specs.Record.{asked_with, request_record}
use Rattle.unit_model.specs.Opening.{opened_core}
use Rattle.unit_model.specs.Running.{AllEnabled, after_steps}
use Rattle.unit_model.specs.declared.machine.Step.{Step}
use Rattle.unit_model.specs.declared.shape.Shape.{Shape}
use Rattle.plain_fabric.specs.AtRest.{IsAtRest}
use Rattle.plain_fabric.specs.Contents.{HoldNothing}
use Rattle.plain_fabric.specs.Laws.{most_parts}
use Rattle.plain_fabric.specs.Schedule.{answered_steps, hung_up_steps}
use Rattle.plain_fabric.specs.Stepping.{IsShown}

-- what contracts see of it: the shape, the words, the steps that it keeps, how many streams were drawn and parts sent, and
-- whether memory ran out in the middle of a request
pub record PlainValue : Type 0 where
  pub shape : Shape
  pub words : List ℕ
  pub trace : List Step
  pub drawn : ℕ
  pub sent : ℕ
  pub failed : Bool

-- what it keeps between requests: chunks hold nothing, and a request has few parts
pub record IsIdle {X : Type 0} (drawn sent : ℕ) (chunks : List (Option X)) : Type 0 where
  pub few : sent ≤ most_parts * drawn
  pub empty : HoldNothing chunks

abbrev pub IsKept : {X : Type 0} → ℕ → ℕ → Bool → List (Option X) → Type 0
IsKept drawn sent failed chunks = failed ≡ false → IsIdle drawn sent chunks

-- ---- one request

-- the record of a request under the next stream
abbrev pub next_record : PlainValue → List ℕ → Request → List ℕ
next_record plain name request = request_record (asked_with (plain.drawn + 1) name request)

-- the bytes of the parts of a reply
abbrev pub sizes_of : Reply → List ℕ
sizes_of reply = map (λ (part : List ℕ). length part) (parts_of (reply_record reply))

-- the steps of a request with this reply, and of one whose client has hung up
abbrev pub asking_steps : PlainValue → List ℕ → Request → Reply → List Step
asking_steps plain name request reply =
    answered_steps plain.shape plain.drawn plain.sent (length (next_record plain name request)) (sizes_of reply)

abbrev pub gone_steps : PlainValue → List ℕ → Request → List Step
gone_steps plain name request =
    hung_up_steps plain.shape plain.drawn (length (next_record plain name request))

-- ---- all steps

-- These are all steps that were made, forgotten ones too: they are a legal run of the machine from its opened core, and its
-- words show the core behind them, which is at rest.
pub record HasMade (plain : PlainValue) (made : List Step) : Type 0 where
  pub legal : AllEnabled (opened_core plain.shape) made
  pub shown : IsShown plain.shape plain.words (after_steps (opened_core plain.shape) made)
  pub rest : IsAtRest (after_steps (opened_core plain.shape) made) plain.drawn plain.sent
