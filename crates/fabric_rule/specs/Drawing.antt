-- An engine draws a stream: what its seat has to be, what its view is afterwards, and which step of
-- the machine it is.
use Rattle.std.specs.Prelude.{ℕ, ◌+◌, ◌^◌, ◌≡◌, ◌≢◌, ◌<◌, List, [], ◌∷◌, Option}
use mathlib.Core.Option.{some}
use lib.ListN.{get_elem?}
use Rattle.atomic_table.specs.Table.{State, keeps, stepped}
use Rattle.request_context.specs.declared.piece.Parcel.{Parcel}
use Rattle.unit_model.specs.Shapes.{role_in}
use Rattle.unit_model.specs.declared.machine.Note.TheVariants.{Drawn}
use Rattle.unit_model.specs.declared.machine.Step.TheVariants.{Draw}
use Rattle.unit_model.specs.declared.shape.Shape.{Shape}
use Rattle.unit_types.specs.declared.message.Reply.{Reply}
use Rattle.unit_types.specs.declared.message.Request.{Request}
use Rattle.fabric_words.specs.Offsets.{offset_of, word_in}
use Rattle.fabric_words.specs.declared.place.Place.TheVariants.{NextStream}
use Rattle.fabric_rule.specs.Opening.{ledger_of}
use Rattle.fabric_rule.specs.Rule.{FabricHolds}
use Rattle.fabric_rule.specs.Steps.{IsMachineStep, IsMain, IsNoStep, with_note}
use Rattle.fabric_rule.specs.Told.{Moment}
use Rattle.fabric_rule.specs.Views.{logged}
use Rattle.fabric_rule.specs.declared.event.FabricEvent.TheVariants.{SawNext}
use Rattle.fabric_rule.specs.declared.view.Ledger.{Ledger}
use Rattle.fabric_rule.specs.declared.view.FabricView.{FabricView}
use Rattle.fabric_rule.specs.declared.view.Work.TheVariants.{Drawn as DrawnWork}

-- a stream that was drawn: a note more in the lists, and a work more
abbrev pub with_drawn : ℕ → Ledger → FabricView → FabricView
with_drawn stream c v = record v {
  ledgers = with_note (Drawn stream) 1 c ∷ [];
  works = DrawnWork stream ∷ v.works;
  log = SawNext (stream + 1) ∷ v.log;
}

-- Draw by an engine's main seat: the next stream was this one, below 2^62, and is the one after it.
abbrev pub DrawLaw : (H : Type 0) → Type 0
DrawLaw H = (reply_of : List ℕ → Request → Reply) (shape : Shape) (s : State (Option (Parcel H)) FabricView)
    (holds : FabricHolds reply_of shape s) (id : ℕ) (v : FabricView) (c : Ledger) (carried : List (ℕ × Option (Parcel H)))
    → get_elem? s.views id ≡ some v → IsMain v c → role_in shape v.seat ≡ 0
    → (stream : ℕ) → stream < 2 ^ 62 → word_in shape s.words NextStream ≡ stream
    → IsMachineStep reply_of shape s holds (Draw v.seat stream)
    (stepped s (offset_of shape NextStream) (stream + 1) id carried (with_drawn stream c v) keeps)

-- the next stream was this one, and is drawn; or it was another one
pub record Draws (H : Type 0) (reply_of : List ℕ → Request → Reply) (shape : Shape) (id stream : ℕ) (v : FabricView) (found : ℕ) (u : FabricView) : Type 0 where
  pub moment : Moment H reply_of shape id v u
  pub was : word_in shape moment.before.words NextStream ≡ found
  pub won : found ≡ stream → u ≡ with_drawn stream (ledger_of v) v
  pub some : found ≡ stream → stream ≢ 0
  pub step : found ≡ stream
      → IsMachineStep reply_of shape moment.before moment.holds (Draw v.seat stream) moment.after
  pub missed : found ≢ stream → u ≡ logged (SawNext found) v
  pub none : found ≢ stream → IsNoStep reply_of shape moment.before moment.holds moment.after
