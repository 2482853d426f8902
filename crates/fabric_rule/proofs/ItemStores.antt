-- The stores of an item's run and part words by the seat that got the item.
use Rattle.std.proofs.Common.{ℕ, ◌≡◌, List, refl}
use Rattle.std.specs.Prelude.{Option}
use mathlib.Core.Option.{some}
use lib.ListN.{get_elem?}
use Rattle.atomic_table.specs.Table.{State, Act, keeps, stepped, Valid, carried_after}
use Rattle.atomic_table.proofs.Lists.{set_else, set_here}
use Rattle.app_queue.proofs.ArmFrames.{is_there}
use Rattle.port_message.specs.Words.{numbers_of}
use Rattle.request_context.specs.declared.piece.Parcel.{Parcel}
use Rattle.unit_model.specs.declared.machine.Step.TheVariants.{SetPart, SetRun}
use Rattle.unit_model.specs.declared.shape.Shape.{Shape}
use Rattle.unit_types.specs.declared.message.Reply.{Reply}
use Rattle.unit_types.specs.declared.message.Request.{Request}
use Rattle.fabric_words.specs.Offsets.{offset_of}
use Rattle.fabric_words.specs.declared.place.Place.TheVariants.{PartWord, RunWord}
use Rattle.fabric_rule.specs.Rule.{FabricHolds}
use Rattle.fabric_rule.specs.Steps.{IsMachineStep}
use Rattle.fabric_rule.specs.Storing.{HasRun, MayWrite, StoresPart, StoresRun, with_part, with_run}
use Rattle.fabric_rule.specs.Told.{Moment}
use Rattle.fabric_rule.specs.declared.view.FabricView.{FabricView}
use Rattle.fabric_rule.proofs.StoreSteps.{store_part, store_run}

module _ {H : Type 0} (reply_of : List ℕ → Request → Reply) (shape : Shape) (id : ℕ) (v : FabricView) (carried : List (ℕ × Option (Parcel H))) (s : State (Option (Parcel H)) FabricView) (holds : FabricHolds reply_of shape s) (at : get_elem? s.views id ≡ some v)
    (queue item x : ℕ) (may : MayWrite shape v queue item) where
  -- right before the store and right after it
  abbrev moment : (index : ℕ) (u : FabricView) → Moment H reply_of shape id v u
  moment index u = record { before = s; holds = holds; was = at; after = stepped s index x id carried u keeps; is = set_here s.views id u (is_there s.views id v at); others = λ k ne. set_else s.views id k u ne }

  pub stores_run : HasRun shape v queue (numbers_of x) → (u : FabricView) × (a : Act (Option (Parcel H))) × Valid s.homes carried a × FabricHolds reply_of shape (stepped s (offset_of shape (RunWord queue item)) x id carried u a)
      × ((carried_after carried a ≡ carried) × (u.chunks ≡ v.chunks) × StoresRun H reply_of shape id queue item x (v, carried) (u, carried_after carried a))
  stores_run has =
      let u : FabricView = with_run queue item x v in
      let index : ℕ = offset_of shape (RunWord queue item) in
      let step : IsMachineStep reply_of shape s holds (SetRun v.seat queue item (numbers_of x)) (stepped s index x id carried u keeps) = store_run H reply_of shape s holds id v carried at queue item x may has in
      (u, keeps, tt, step.after, (refl, refl, record { moment = moment index u; slots = refl; noted = refl; step = step }))

  pub stores_part : (u : FabricView) × (a : Act (Option (Parcel H))) × Valid s.homes carried a × FabricHolds reply_of shape (stepped s (offset_of shape (PartWord queue item)) x id carried u a)
      × ((carried_after carried a ≡ carried) × (u.chunks ≡ v.chunks) × StoresPart H reply_of shape id queue item x (v, carried) (u, carried_after carried a))
  stores_part =
      let u : FabricView = with_part queue item x v in
      let index : ℕ = offset_of shape (PartWord queue item) in
      let step : IsMachineStep reply_of shape s holds (SetPart v.seat queue item x) (stepped s index x id carried u keeps) = store_part H reply_of shape s holds id v carried at queue item x may in
      (u, keeps, tt, step.after, (refl, refl, record { moment = moment index u; slots = refl; noted = refl; step = step }))
