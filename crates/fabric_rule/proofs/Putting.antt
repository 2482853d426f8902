-- The exchange of an entry at the end of a ring.
use Rattle.std.proofs.Common.{ℕ, ⊎_elim, ◌+◌, ◌/◌, ◌≡◌, ◌≢◌, ◌≤◌, ◌<◌, eqb, List, slice_index, set, refl, sym, subst}
use Rattle.std.specs.Prelude.{Option}
use Rattle.std.proofs.lemmas.List.{set-get_or}
use mathlib.Core.Option.{some}
use prog.Atomic.{either}
use lib.ListN.{get_elem?}
use Rattle.atomic_table.specs.Table.{State, Act, keeps, stepped, Valid, carried_after}
use Rattle.atomic_table.proofs.Lists.{exchanged, set_else, set_here}
use Rattle.nncq_ring.specs.Notes.{EntryNoted, RingPart}
use Rattle.nncq_ring.specs.Words.{Words, entry_of, logical_tail}
use Rattle.nncq_ring.specs.declared.view.RingEvent.TheVariants.{SawEntry}
use Rattle.nncq_ring.proofs.Exchanges.{not_lower}
use Rattle.nncq_ring.proofs.Noting.{look_noted}
use Rattle.nncq_ring.proofs.RingParts.{note_at}
use Rattle.app_queue.specs.declared.side.Side.{Side}
use Rattle.app_queue.proofs.ArmFrames.{is_there}
use Rattle.request_context.specs.declared.piece.Parcel.{Parcel}
use Rattle.unit_model.specs.Holding.{items_of}
use Rattle.unit_model.specs.declared.machine.Step.{Step}
use Rattle.unit_model.specs.declared.shape.Shape.{Shape}
use Rattle.unit_types.specs.declared.message.Reply.{Reply}
use Rattle.unit_types.specs.declared.message.Request.{Request}
use Rattle.fabric_words.specs.Offsets.{offset_of, word_in}
use Rattle.fabric_words.specs.Places.{queues_of}
use Rattle.fabric_rule.specs.Rule.{FabricHolds}
use Rattle.fabric_rule.specs.Sending.{PutsEntry, SawVacant}
use Rattle.fabric_rule.specs.Steps.{IsMachineStep, IsNoStep, MayPut, slot_of}
use Rattle.fabric_rule.specs.Told.{Moment}
use Rattle.fabric_rule.specs.Views.{log_at, logged, ring_in}
use Rattle.fabric_rule.specs.declared.event.FabricEvent.TheVariants.{AtRing}
use Rattle.fabric_rule.specs.declared.view.FabricView.{FabricView}
use Rattle.fabric_rule.proofs.LookSteps.{look}

-- where the exchange may be won, it is this step, and the seat has the view u then
module _ {H : Type 0} (reply_of : List ℕ → Request → Reply) (shape : Shape) (id : ℕ) (v : FabricView) (carried : List (ℕ × Option (Parcel H))) (s : State (Option (Parcel H)) FabricView) (holds : FabricHolds reply_of shape s) (at : get_elem? s.views id ≡ some v)
    (queue : ℕ) (side : Side) (there : queue < queues_of shape) (item place entry : ℕ) (saw : SawVacant (items_of shape queue) (log_at queue side v) place entry) (step : Step) (u : FabricView) (same_chunks : u.chunks ≡ v.chunks)
    (law : MayPut shape s.words v queue side place → IsMachineStep reply_of shape s holds step (stepped s (offset_of shape (slot_of shape queue side place)) (entry_of (items_of shape queue) place item) id carried u keeps)) where
  abbrev pub index : ℕ
  index = offset_of shape (slot_of shape queue side place)

  abbrev pub n : ℕ
  n = items_of shape queue

  abbrev pub found : ℕ
  found = slice_index s.words index

  abbrev pub now : ℕ
  now = entry_of n place item

  abbrev pub After : ℕ → Type 0
  After new = (u' : FabricView) × (a : Act (Option (Parcel H))) × Valid s.homes carried a × FabricHolds reply_of shape (stepped s index new id carried u' a)
      × ((carried_after carried a ≡ carried) × (u'.chunks ≡ v.chunks) × PutsEntry H reply_of shape id queue side item place entry step u v found u')

  -- right before the exchange and right after it
  abbrev moment : (new : ℕ) (u' : FabricView) → Moment H reply_of shape id v u'
  moment new u' = record { before = s; holds = holds; was = at; after = stepped s index new id carried u' keeps; is = set_here s.views id u' (is_there s.views id v at); others = λ k ne. set_else s.views id k u' ne }

  abbrev w : Words
  w = ring_in (word_in shape s.words) queue side

  part : RingPart n (log_at queue side) w s.views
  part = holds.notes.rings.rings queue there side

  hit : found ≡ entry → After now
  hit is =
      let made : IsMachineStep reply_of shape s holds step (stepped s index now id carried u keeps) =
      law (record { seen_at = 1; seen = saw.tail; vacant = subst (λ (x : ℕ). x / n + 1 ≡ place / n) (sym is) saw.before; low = saw.low }) in (
        u,
        keeps,
        tt,
        made.after,
        (refl, same_chunks, record { moment = moment now u; was = refl; won = λ same. refl; words = λ same. refl; made = λ same. made; missed = λ ne. absurd (ne is); later = λ ne. absurd (ne is); none = λ ne. absurd (ne is) }),
      )

  -- the entry that was seen isn't there, so the line has passed the place
  passed : found ≢ entry → place / n ≤ found / n
  passed ne =
      let noted : EntryNoted n w place entry = note_at n w (log_at queue side v) 0 (SawEntry place entry) saw.saw (part.noted id v at) in
      let above : place < logical_tail n w = ⊎_elim (λ is. absurd (ne is)) (λ filled. filled) (noted.vacant saw.before) in
      not_lower n w part.fine place above

  miss : found ≢ entry → After found
  miss ne =
      let u' : FabricView = logged (AtRing queue side (SawEntry place found)) v in
      let words : set s.words index found ≡ s.words = set-get_or s.words index 0 in
      let none : IsNoStep reply_of shape s holds (stepped s index found id carried u' keeps) =
      subst (λ (ws : List ℕ). IsNoStep reply_of shape s holds (record { words = ws; homes = s.homes; views = set s.views id u' })) (sym words)
      (look H reply_of shape s holds id v at queue side (SawEntry place found) there tt (look_noted n place w part.fine)) in (
        u',
        keeps,
        tt,
        none.after,
        (refl, refl, record { moment = moment found u'; was = refl; won = λ same. absurd (ne same); words = λ same. absurd (ne same); made = λ same. absurd (ne same); missed = λ other. refl; later = λ other. passed ne; none = λ other. none }),
      )

  pub exchanges : After (either (eqb found entry) now found)
  exchanges = exchanged found entry now After hit miss
