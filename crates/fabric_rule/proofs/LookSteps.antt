-- A look at a ring.
use Rattle.std.proofs.Common.{ℕ, ◌≡◌, ◌<◌, List, set, refl, ◌∷◌}
use Rattle.std.specs.Prelude.{Option}
use mathlib.Core.Option.{some}
use lib.ListN.{get_elem?}
use Rattle.atomic_table.specs.Table.{State}
use Rattle.nncq_ring.specs.Notes.{Noted, RingPart}
use Rattle.nncq_ring.specs.Turns.{IsLook}
use Rattle.nncq_ring.specs.Words.{Words}
use Rattle.nncq_ring.specs.declared.view.RingEvent.{RingEvent}
use Rattle.nncq_ring.proofs.RingParts.{part_steps}
use Rattle.nncq_ring.proofs.RingWords.{stays_later}
use Rattle.app_queue.specs.declared.side.Side.{Side}
use Rattle.app_queue.proofs.RingFrames.{rings_step}
use Rattle.request_context.specs.declared.piece.Parcel.{Parcel}
use Rattle.unit_model.specs.Holding.{items_of}
use Rattle.unit_model.specs.declared.machine.Core.{Core}
use Rattle.unit_model.specs.declared.shape.Shape.{Shape}
use Rattle.unit_types.specs.declared.message.Reply.{Reply}
use Rattle.unit_types.specs.declared.message.Request.{Request}
use Rattle.fabric_words.specs.Offsets.{word_in}
use Rattle.fabric_words.specs.Places.{queues_of}
use Rattle.fabric_words.specs.declared.place.Place.{Place}
use Rattle.fabric_rule.specs.Logs.{looked_log, own_log}
use Rattle.fabric_rule.specs.Rule.{FabricHolds, NotesAreTrue}
use Rattle.fabric_rule.specs.Steps.{IsNoStep, LookLaw}
use Rattle.fabric_rule.specs.Views.{item_log, log_at, logged, queues_in, ring_in}
use Rattle.fabric_rule.specs.declared.event.FabricEvent.TheVariants.{AtRing}
use Rattle.fabric_rule.specs.declared.view.FabricView.{FabricView}
use Rattle.fabric_rule.proofs.Logged.{logs}
use Rattle.fabric_rule.proofs.Logs.{other_log}
use Rattle.fabric_rule.proofs.ItemNotes.{all_still, heads_still, items_noted}

module _ {H : Type 0} (reply_of : List ℕ → Request → Reply) (shape : Shape) (s : State (Option (Parcel H)) FabricView) (holds : FabricHolds reply_of shape s) (id : ℕ) (v : FabricView) (at : get_elem? s.views id ≡ some v)
    (queue : ℕ) (side : Side) (e : RingEvent) (there : queue < queues_of shape) (look : IsLook e) (noted : Noted (items_of shape queue) (ring_in (word_in shape s.words) queue side) e) where
  abbrev pub u : FabricView
  u = logged (AtRing queue side e) v

  abbrev pub word : Place → ℕ
  word = word_in shape s.words

  abbrev pub core : Core
  core = holds.core

  same_events : (r : ℕ) → item_log r u.log ≡ item_log r v.log
  same_events r = looked_log queue side e v.log r look

  notes' : NotesAreTrue shape word (set s.views id u)
  notes' =
      let old = holds.notes in
      let w : Words = ring_in word queue side in
      let part : RingPart (items_of shape queue) (log_at queue side) w s.views = old.rings.rings queue there side in
      items_noted shape word word (all_still shape word) (heads_still shape word) s.views id v at v.ledgers v.works v.chunks v.items v.kept (AtRing queue side e ∷ v.log) (λ q i mine. mine) (λ q i p got. got) same_events
      (rings_step FabricView log_at (queues_in shape) (ring_in word) (ring_in word) s.views id v u at queue side
      (λ r lt other apart. record { head = refl; tail = refl; entries = λ j below_n. refl })
      (λ r lt other apart. other_log queue side e v.log r other apart)
      (part_steps (items_of shape queue) (log_at queue side) w s.views id v at part w u e (own_log queue side e v.log) (stays_later (items_of shape queue) w) part.fine noted)
      (old.rings.worn queue there side)
      old.rings)
      old

  pub looks : IsNoStep reply_of shape s holds (record s { views = set s.views id u })
  looks = logs reply_of shape s holds id v at (AtRing queue side e) notes' (record { out = (holds.views.opens id v at).out; back = (holds.views.opens id v at).back })

pub look : (H : Type 0) → LookLaw H
look H reply_of shape s holds id v at queue side e there is_look noted = looks reply_of shape s holds id v at queue side e there is_look noted
