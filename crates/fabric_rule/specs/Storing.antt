-- Stores of the run and part words of an item by the seat that got it, as statements: what the seat
-- has to have, what its view is afterwards, and which step of the machine it is.
use Rattle.std.specs.Prelude.{ℕ, ◌≡◌, ◌≤◌, ◌==◌, List, Option}
use mathlib.Core.Option.{some}
use lib.ListN.{get_elem?}
use Rattle.atomic_table.specs.Table.{Me, State, keeps, stepped}
use Rattle.app_queue.specs.declared.view.ItemEvent.TheVariants.{RunNoted, PartNoted}
use Rattle.port_message.specs.Words.{numbers_of}
use Rattle.request_context.specs.declared.piece.Parcel.{Parcel}
use Rattle.unit_model.specs.Holding.{FitsQueue, IsInRun}
use Rattle.unit_model.specs.Shapes.{role_in}
use Rattle.unit_model.specs.Sharing.{Holds}
use Rattle.unit_model.specs.Weights.{times}
use Rattle.unit_model.specs.declared.machine.Step.TheVariants.{SetPart, SetRun}
use Rattle.unit_model.specs.declared.runs.Run.{Run}
use Rattle.unit_model.specs.declared.shape.Shape.{Shape}
use Rattle.unit_types.specs.declared.message.Reply.{Reply}
use Rattle.unit_types.specs.declared.message.Request.{Request}
use Rattle.fabric_words.specs.Offsets.{offset_of}
use Rattle.fabric_words.specs.Places.{HasItem}
use Rattle.fabric_words.specs.declared.place.Place.TheVariants.{PartWord, RunWord}
use Rattle.fabric_rule.specs.Rule.{FabricHolds}
use Rattle.fabric_rule.specs.Steps.{IsMachineStep}
use Rattle.fabric_rule.specs.Told.{Moment}
use Rattle.fabric_rule.specs.Views.{held_at, logged, tag_said}
use Rattle.fabric_rule.specs.declared.event.FabricEvent.TheVariants.{AtItem}
use Rattle.fabric_rule.specs.declared.view.FabricView.{FabricView}

-- the seat has the item, of a queue that it fills, and knows its tag as 0
pub record MayWrite (shape : Shape) (v : FabricView) (queue item : ℕ) : Type 0 where
  pub fills : (role_in shape v.seat == 0) ≡ (queue == 0)
  pub there : HasItem shape queue item
  pub mine : Holds (held_at queue) item v
  pub untagged : tag_said queue v item 0

-- the run lies in one segment of those who fill the queue, and the view has all its chunks
pub record HasRun (shape : Shape) (v : FabricView) (queue : ℕ) (run : Run) : Type 0 where
  pub fits : FitsQueue shape queue run
  pub chunks : (chunk : ℕ) → IsInRun run chunk → 1 ≤ times chunk v.chunks

-- ---- the steps

abbrev pub with_run : ℕ → ℕ → ℕ → FabricView → FabricView
with_run queue item run_word v = logged (AtItem queue (RunNoted item run_word)) v

-- SetRun: the run word of the item is this one, of a run whose chunks the seat has.
abbrev pub StoreRunLaw : (H : Type 0) → Type 0
StoreRunLaw H = (reply_of : List ℕ → Request → Reply) (shape : Shape) (s : State (Option (Parcel H)) FabricView)
    (holds : FabricHolds reply_of shape s) (id : ℕ) (v : FabricView) (carried : List (ℕ × Option (Parcel H)))
    → get_elem? s.views id ≡ some v
    → (queue item run_word : ℕ) → MayWrite shape v queue item → HasRun shape v queue (numbers_of run_word)
    → IsMachineStep reply_of shape s holds (SetRun v.seat queue item (numbers_of run_word))
    (stepped s (offset_of shape (RunWord queue item)) run_word id carried (with_run queue item run_word v) keeps)

abbrev pub with_part : ℕ → ℕ → ℕ → FabricView → FabricView
with_part queue item part v = logged (AtItem queue (PartNoted item part)) v

-- SetPart: the part word of the item is this one.
abbrev pub StorePartLaw : (H : Type 0) → Type 0
StorePartLaw H = (reply_of : List ℕ → Request → Reply) (shape : Shape) (s : State (Option (Parcel H)) FabricView)
    (holds : FabricHolds reply_of shape s) (id : ℕ) (v : FabricView) (carried : List (ℕ × Option (Parcel H)))
    → get_elem? s.views id ≡ some v
    → (queue item part : ℕ) → MayWrite shape v queue item
    → IsMachineStep reply_of shape s holds (SetPart v.seat queue item part)
    (stepped s (offset_of shape (PartWord queue item)) part id carried (with_part queue item part v) keeps)

-- ---- what they tell

-- the run word of the item is this one, noted
pub record StoresRun (H : Type 0) (reply_of : List ℕ → Request → Reply) (shape : Shape) (id queue item run_word : ℕ) (me me' : Me (Option (Parcel H)) FabricView) : Type 0 where
  pub moment : Moment H reply_of shape id me.0 me'.0
  pub slots : me'.1 ≡ me.1
  pub noted : me'.0 ≡ with_run queue item run_word me.0
  pub step : IsMachineStep reply_of shape moment.before moment.holds (SetRun me.0.seat queue item (numbers_of run_word)) moment.after

-- and the part word
pub record StoresPart (H : Type 0) (reply_of : List ℕ → Request → Reply) (shape : Shape) (id queue item part : ℕ) (me me' : Me (Option (Parcel H)) FabricView) : Type 0 where
  pub moment : Moment H reply_of shape id me.0 me'.0
  pub slots : me'.1 ≡ me.1
  pub noted : me'.0 ≡ with_part queue item part me.0
  pub step : IsMachineStep reply_of shape moment.before moment.holds (SetPart me.0.seat queue item part) moment.after
