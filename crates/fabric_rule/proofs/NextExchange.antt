-- The exchange of the next stream by an engine.
use Rattle.std.proofs.Common.{ℕ, ◌+◌, ◌^◌, ◌≡◌, ◌≢◌, ◌<◌, eqb, List, slice_index, set, refl, sym, subst}
use Rattle.std.specs.Prelude.{Option}
use Rattle.std.proofs.lemmas.List.{set-get_or}
use mathlib.Core.Option.{some}
use prog.Atomic.{either}
use lib.ListN.{get_elem?}
use Rattle.atomic_table.specs.Table.{State, Act, keeps, stepped, Valid, carried_after}
use Rattle.atomic_table.proofs.Lists.{exchanged, set_else, set_here}
use Rattle.app_queue.proofs.ArmFrames.{is_there}
use Rattle.request_context.specs.declared.piece.Parcel.{Parcel}
use Rattle.unit_model.specs.Shapes.{role_in}
use Rattle.unit_model.specs.declared.machine.Step.TheVariants.{Draw}
use Rattle.unit_model.specs.declared.shape.Shape.{Shape}
use Rattle.unit_types.specs.declared.message.Reply.{Reply}
use Rattle.unit_types.specs.declared.message.Request.{Request}
use Rattle.fabric_words.specs.Offsets.{offset_of}
use Rattle.fabric_words.specs.declared.place.Place.TheVariants.{NextStream}
use Rattle.fabric_rule.specs.Drawing.{Draws, with_drawn}
use Rattle.fabric_rule.specs.Opening.{ledger_of}
use Rattle.fabric_rule.specs.Rule.{FabricHolds}
use Rattle.fabric_rule.specs.Steps.{IsMachineStep, IsMain, IsNoStep}
use Rattle.fabric_rule.specs.Told.{Moment}
use Rattle.fabric_rule.specs.Views.{logged}
use Rattle.fabric_rule.specs.declared.event.FabricEvent.TheVariants.{SawNext}
use Rattle.fabric_rule.specs.declared.look.Look.TheVariants.{Next}
use Rattle.fabric_rule.specs.declared.view.FabricView.{FabricView}
use Rattle.fabric_rule.proofs.DrawSteps.{draw, some_stream}
use Rattle.fabric_rule.proofs.Loads.{load}

module _ {H : Type 0} (reply_of : List ℕ → Request → Reply) (shape : Shape) (id : ℕ) (v : FabricView) (carried : List (ℕ × Option (Parcel H))) (s : State (Option (Parcel H)) FabricView) (holds : FabricHolds reply_of shape s) (at : get_elem? s.views id ≡ some v)
    (main : IsMain v (ledger_of v)) (engine : role_in shape v.seat ≡ 0) (stream : ℕ) (low : stream < 2 ^ 62) where
  abbrev pub index : ℕ
  index = offset_of shape NextStream

  abbrev pub found : ℕ
  found = slice_index s.words index

  abbrev pub After : ℕ → Type 0
  After new = (u : FabricView) × (a : Act (Option (Parcel H))) × Valid s.homes carried a × FabricHolds reply_of shape (stepped s index new id carried u a)
      × ((carried_after carried a ≡ carried) × (u.chunks ≡ v.chunks) × Draws H reply_of shape id stream v found u)

  -- right before the exchange and right after it
  abbrev moment : (new : ℕ) (u : FabricView) → Moment H reply_of shape id v u
  moment new u = record { before = s; holds = holds; was = at; after = stepped s index new id carried u keeps; is = set_here s.views id u (is_there s.views id v at); others = λ k ne. set_else s.views id k u ne }

  hit : found ≡ stream → After (stream + 1)
  hit is =
      let u : FabricView = with_drawn stream (ledger_of v) v in
      let step : IsMachineStep reply_of shape s holds (Draw v.seat stream) (stepped s index (stream + 1) id carried u keeps) = draw H reply_of shape s holds id v (ledger_of v) carried at main engine stream low is in
      let some_drawn : stream ≢ 0 = some_stream reply_of shape s holds id v (ledger_of v) carried at main engine stream low is in (
        u,
        keeps,
        tt,
        step.after,
        (refl, refl, record { moment = moment (stream + 1) u; was = refl; won = λ same. refl; some = λ same. some_drawn; step = λ same. step; missed = λ ne. absurd (ne is); none = λ ne. absurd (ne is) }),
      )

  miss : found ≢ stream → After found
  miss ne =
      let u : FabricView = logged (SawNext found) v in
      let words : set s.words index found ≡ s.words = set-get_or s.words index 0 in
      let none : IsNoStep reply_of shape s holds (stepped s index found id carried u keeps) =
      subst (λ (ws : List ℕ). IsNoStep reply_of shape s holds (record { words = ws; homes = s.homes; views = set s.views id u })) (sym words)
      (load H reply_of shape s holds id v at Next tt) in (
        u,
        keeps,
        tt,
        none.after,
        (refl, refl, record { moment = moment found u; was = refl; won = λ same. absurd (ne same); some = λ same. absurd (ne same); step = λ same. absurd (ne same); missed = λ other. refl; none = λ other. none }),
      )

  pub exchanges : After (either (eqb found stream) (stream + 1) found)
  exchanges = exchanged found stream (stream + 1) After hit miss
