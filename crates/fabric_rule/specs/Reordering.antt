-- The slot of a chunk comes to the front of what a seat carries, at a load whose result is of no
-- concern, as a statement: no step.
use Rattle.std.specs.Prelude.{ℕ, ◌*◌, ◌≡◌, List, Option, length, slice_index}
use mathlib.Core.Option.{some}
use lib.ListN.{get_elem?}
use Rattle.atomic_table.specs.Table.{Me, State, Valid, carried_after, stepped}
use Rattle.carried_slots.specs.Acts.{becomes}
use Rattle.carried_slots.specs.Carried.{front}
use Rattle.request_context.specs.declared.piece.Parcel.{Parcel}
use Rattle.unit_model.specs.Limits.{segment_chunks}
use Rattle.unit_model.specs.declared.shape.Shape.{Shape}
use Rattle.unit_types.specs.declared.message.Reply.{Reply}
use Rattle.unit_types.specs.declared.message.Request.{Request}
use Rattle.fabric_words.specs.Places.{segments_of}
use Rattle.fabric_rule.specs.Contents.{CarriesSlots}
use Rattle.fabric_rule.specs.Rule.{FabricHolds}
use Rattle.fabric_rule.specs.Steps.{IsNoStep}
use Rattle.fabric_rule.specs.Told.{Moment}
use Rattle.fabric_rule.specs.declared.view.FabricView.{FabricView}

-- all slots that the seat carries go home and come again, with this one in front, in one step
pub record SlotToFront {H : Type 0} (reply_of : List ℕ → Request → Reply) (shape : Shape) (s : State (Option (Parcel H)) FabricView) (holds : FabricHolds reply_of shape s) (id : ℕ) (v : FabricView) (carried : List (ℕ × Option (Parcel H))) (index chunk : ℕ) : Type 0 where
  pub valid : Valid s.homes carried (becomes carried (front chunk carried))
  pub turned : carried_after carried (becomes carried (front chunk carried)) ≡ front chunk carried
  pub carries : CarriesSlots (v, front chunk carried)
  pub none : IsNoStep reply_of shape s holds
      (stepped s index (slice_index s.words index) id carried v (becomes carried (front chunk carried)))

abbrev pub BringLaw : (H : Type 0) → Type 0
BringLaw H = (reply_of : List ℕ → Request → Reply) (shape : Shape) (s : State (Option (Parcel H)) FabricView)
    (holds : FabricHolds reply_of shape s) (id : ℕ) (v : FabricView) (carried : List (ℕ × Option (Parcel H)))
    → length s.homes ≡ segment_chunks * segments_of shape
    → get_elem? s.views id ≡ some v → CarriesSlots (v, carried)
    → (index chunk : ℕ) → SlotToFront reply_of shape s holds id v carried index chunk

-- ---- what is told

-- a step of the table that is no step of the machine, and leaves the seat's view
pub record IsQuiet (H : Type 0) (reply_of : List ℕ → Request → Reply) (shape : Shape) (id : ℕ) (v : FabricView) : Type 0 where
  pub moment : Moment H reply_of shape id v v
  pub none : IsNoStep reply_of shape moment.before moment.holds moment.after

-- the slot came to the front
pub record Brings (H : Type 0) (reply_of : List ℕ → Request → Reply) (shape : Shape) (id chunk : ℕ) (me me' : Me (Option (Parcel H)) FabricView) : Type 0 where
  pub view : me'.0 ≡ me.0
  pub slots : me'.1 ≡ front chunk me.1
  pub quiet : IsQuiet H reply_of shape id me.0
