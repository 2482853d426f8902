-- The exchange of a line's head by a seat that empties it.
use Rattle.std.proofs.Common.{ℕ, ◌+◌, ◌%◌, ◌≡◌, ◌≢◌, ◌≤◌, ◌<◌, eqb, List, slice_index, set, refl, sym, subst, arith}
use Rattle.std.specs.Prelude.{Option}
use Rattle.std.proofs.lemmas.List.{set-get_or}
use mathlib.Core.Option.{some}
use prog.Atomic.{either}
use lib.ListN.{get_elem?}
use Rattle.atomic_table.specs.Table.{State, Act, keeps, stepped, Valid, carried_after}
use Rattle.atomic_table.proofs.Lists.{exchanged, set_else, set_here}
use Rattle.nncq_ring.specs.Words.{Words}
use Rattle.nncq_ring.specs.declared.view.RingEvent.TheVariants.{SawHead}
use Rattle.nncq_ring.proofs.RingParts.{note_at}
use Rattle.app_queue.specs.declared.side.Side.TheVariants.{Line}
use Rattle.app_queue.proofs.ArmFrames.{is_there}
use Rattle.request_context.specs.declared.piece.Parcel.{Parcel}
use Rattle.unit_model.specs.Holding.{items_of}
use Rattle.unit_model.specs.Shapes.{role_in}
use Rattle.unit_model.specs.declared.machine.Step.TheVariants.{Pop}
use Rattle.unit_model.specs.declared.shape.Shape.{Shape}
use Rattle.unit_types.specs.declared.message.Reply.{Reply}
use Rattle.unit_types.specs.declared.message.Request.{Request}
use Rattle.fabric_words.specs.Offsets.{offset_of, word_in}
use Rattle.fabric_words.specs.Places.{queues_of}
use Rattle.fabric_words.specs.declared.place.Place.TheVariants.{Head}
use Rattle.fabric_words.specs.declared.place.Side.TheVariants.{LineSide}
use Rattle.fabric_rule.specs.Opening.{ledger_of}
use Rattle.fabric_rule.specs.Rule.{FabricHolds}
use Rattle.fabric_rule.specs.Steps.{IsMachineStep, IsMain, IsNoStep, with_popped}
use Rattle.fabric_rule.specs.Told.{Moment, Pops, SawFirst}
use Rattle.fabric_rule.specs.Views.{emptied_by, log_at, logged, ring_in}
use Rattle.fabric_rule.specs.declared.event.FabricEvent.TheVariants.{AtRing}
use Rattle.fabric_rule.specs.declared.view.FabricView.{FabricView}
use Rattle.fabric_rule.proofs.LookSteps.{look}
use Rattle.fabric_rule.proofs.PopSteps.{pop}

module _ {H : Type 0} (reply_of : List ℕ → Request → Reply) (shape : Shape) (id : ℕ) (v : FabricView) (carried : List (ℕ × Option (Parcel H))) (s : State (Option (Parcel H)) FabricView) (holds : FabricHolds reply_of shape s) (at : get_elem? s.views id ≡ some v)
    (main : IsMain v (ledger_of v)) (some_role : role_in shape v.seat ≤ 1) (queue : ℕ) (is_queue : queue ≡ emptied_by shape v.seat) (there : queue < queues_of shape) (place entry : ℕ)
    (first : SawFirst (items_of shape queue) (log_at queue Line v) place entry) where
  abbrev pub index : ℕ
  index = offset_of shape (Head queue LineSide)

  abbrev pub found : ℕ
  found = slice_index s.words index

  abbrev pub item : ℕ
  item = entry % items_of shape queue

  abbrev pub After : ℕ → Type 0
  After new = (u : FabricView) × (a : Act (Option (Parcel H))) × Valid s.homes carried a × FabricHolds reply_of shape (stepped s index new id carried u a)
      × ((carried_after carried a ≡ carried) × (u.chunks ≡ v.chunks) × Pops H reply_of shape id queue place item v found u)

  -- right before the exchange and right after it
  abbrev moment : (new : ℕ) (u : FabricView) → Moment H reply_of shape id v u
  moment new u = record { before = s; holds = holds; was = at; after = stepped s index new id carried u keeps; is = set_here s.views id u (is_there s.views id v at); others = λ k ne. set_else s.views id k u ne }

  hit : found ≡ place → After (place + 1)
  hit is =
      let u : FabricView = with_popped queue item place (ledger_of v) v in
      let step : IsMachineStep reply_of shape s holds (Pop v.seat queue item place) (stepped s index (place + 1) id carried u keeps) = pop H reply_of shape s holds id v (ledger_of v) carried at main some_role queue is_queue place entry first.saw first.full is in (
        u,
        keeps,
        tt,
        step.after,
        (refl, refl, record { moment = moment (place + 1) u; was = refl; won = λ same. refl; step = λ same. step; missed = λ ne. absurd (ne is); later = λ ne. absurd (ne is); none = λ ne. absurd (ne is) }),
      )

  miss : found ≢ place → After found
  miss ne =
      let w : Words = ring_in (word_in shape s.words) queue Line in
      let noted : place ≤ w.head = note_at (items_of shape queue) w (log_at queue Line v) 1 (SawHead place) first.head ((holds.notes.rings.rings queue there Line).noted id v at) in
      let u : FabricView = logged (AtRing queue Line (SawHead found)) v in
      let words : set s.words index found ≡ s.words = set-get_or s.words index 0 in
      let least : found ≤ w.head = omega arith in
      let none : IsNoStep reply_of shape s holds (stepped s index found id carried u keeps) =
      subst (λ (ws : List ℕ). IsNoStep reply_of shape s holds (record { words = ws; homes = s.homes; views = set s.views id u })) (sym words)
      (look H reply_of shape s holds id v at queue Line (SawHead found) there tt least) in (
        u,
        keeps,
        tt,
        none.after,
        (refl, refl, record { moment = moment found u; was = refl; won = λ same. absurd (ne same); step = λ same. absurd (ne same); missed = λ other. refl; later = λ other. omega (arith, noted, ne); none = λ other. none }),
      )

  pub exchanges : After (either (eqb found place) (place + 1) found)
  exchanges = exchanged found place (place + 1) After hit miss
