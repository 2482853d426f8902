-- A load of any word.
use Rattle.std.proofs.Common.{ℕ, ◌≡◌, List, set, slice_index, refl, sym, subst, arith}
use Rattle.std.specs.Prelude.{Option}
use Rattle.std.proofs.lemmas.List.{set-get_or}
use mathlib.Core.Option.{some}
use lib.ListN.{get_elem?}
use Rattle.atomic_table.specs.Table.{Act, State, Valid, carried_after, keeps, stepped}
use Rattle.atomic_table.proofs.Lists.{set_else, set_here}
use Rattle.app_queue.specs.declared.view.ItemEvent.TheVariants.{RunNoted, PartNoted, TagNoted}
use Rattle.app_queue.proofs.ArmFrames.{is_there}
use Rattle.nncq_ring.specs.declared.view.RingEvent.TheVariants.{SawTail, SawHead, SawEntry}
use Rattle.nncq_ring.proofs.Noting.{look_noted}
use Rattle.request_context.specs.declared.piece.Parcel.{Parcel}
use Rattle.unit_model.specs.Holding.{items_of}
use Rattle.unit_model.specs.declared.shape.Shape.{Shape}
use Rattle.unit_types.specs.declared.message.Reply.{Reply}
use Rattle.unit_types.specs.declared.message.Request.{Request}
use Rattle.fabric_words.specs.Offsets.{offset_of, word_in}
use Rattle.fabric_words.specs.Places.{IsThere}
use Rattle.fabric_words.specs.declared.place.Place.{Place}
use Rattle.fabric_rule.specs.Looks.{LoadLaw, note_of, place_of}
use Rattle.fabric_rule.specs.Rule.{FabricHolds}
use Rattle.fabric_rule.specs.Steps.{IsNoStep}
use Rattle.fabric_rule.specs.Told.{Sees}
use Rattle.fabric_rule.specs.Views.{logged, ring_in}
use Rattle.fabric_rule.specs.declared.event.FabricEvent.TheVariants.{SawNext}
use Rattle.fabric_rule.specs.declared.event.Segments.TheVariants.{Out, Back}
use Rattle.fabric_rule.specs.declared.look.Look.{Look}
use Rattle.fabric_rule.specs.declared.look.Look.TheVariants.{Next, Open, Map, Tail, Head, Entry, Tag, Run, Part}
use Rattle.fabric_rule.specs.declared.view.FabricView.{FabricView}
use Rattle.fabric_rule.proofs.ItemLooks.{look_at_item}
use Rattle.fabric_rule.proofs.Logged.{logs, other_notes}
use Rattle.fabric_rule.proofs.LookSteps.{look as look_at_ring}

module _ {H : Type 0} (reply_of : List ℕ → Request → Reply) (shape : Shape) (s : State (Option (Parcel H)) FabricView) (holds : FabricHolds reply_of shape s) (id : ℕ) (v : FabricView) (at : get_elem? s.views id ≡ some v) where
  abbrev word : Place → ℕ
  word = word_in shape s.words

  loads : (look : Look) → IsThere shape (place_of shape look) → IsNoStep reply_of shape s holds (record s { views = set s.views id (logged (note_of look (word (place_of shape look))) v) })
  loads Next there =
      let old = holds.views.opens id v at in
      logs reply_of shape s holds id v at (SawNext (word (place_of shape Next))) (other_notes reply_of shape s holds id v at (SawNext (word (place_of shape Next))) (λ q side. refl) (λ q. refl)) (record { out = old.out; back = old.back })
  loads (Open Out) there =
      let e = note_of (Open Out) (word (place_of shape (Open Out))) in
      logs reply_of shape s holds id v at e (other_notes reply_of shape s holds id v at e (λ q side. refl) (λ q. refl)) (record { out = omega (arith, holds.shows.out); back = (holds.views.opens id v at).back })
  loads (Open Back) there =
      let e = note_of (Open Back) (word (place_of shape (Open Back))) in
      logs reply_of shape s holds id v at e (other_notes reply_of shape s holds id v at e (λ q side. refl) (λ q. refl)) (record { out = (holds.views.opens id v at).out; back = omega (arith, holds.shows.back) })
  loads (Map Out number) there =
      let e = note_of (Map Out number) (word (place_of shape (Map Out number))) in
      logs reply_of shape s holds id v at e (other_notes reply_of shape s holds id v at e (λ q side. refl) (λ q. refl)) (record { out = (holds.views.opens id v at).out; back = (holds.views.opens id v at).back })
  loads (Map Back number) there =
      let e = note_of (Map Back number) (word (place_of shape (Map Back number))) in
      logs reply_of shape s holds id v at e (other_notes reply_of shape s holds id v at e (λ q side. refl) (λ q. refl)) (record { out = (holds.views.opens id v at).out; back = (holds.views.opens id v at).back })
  loads (Tail queue side) there = look_at_ring H reply_of shape s holds id v at queue side (SawTail (word (place_of shape (Tail queue side)))) there tt (omega arith)
  loads (Head queue side) there = look_at_ring H reply_of shape s holds id v at queue side (SawHead (word (place_of shape (Head queue side)))) there tt (omega arith)
  loads (Entry queue side place) there =
      look_at_ring H reply_of shape s holds id v at queue side (SawEntry place (word (place_of shape (Entry queue side place)))) there.in_queues tt
      (look_noted (items_of shape queue) place (ring_in word queue side) (holds.notes.rings.rings queue there.in_queues side).fine)
  loads (Tag queue item) there = look_at_item H reply_of shape s holds id v at queue (TagNoted item (word (place_of shape (Tag queue item)))) there.in_queues refl
  loads (Run queue item) there = look_at_item H reply_of shape s holds id v at queue (RunNoted item (word (place_of shape (Run queue item)))) there.in_queues refl
  loads (Part queue item) there = look_at_item H reply_of shape s holds id v at queue (PartNoted item (word (place_of shape (Part queue item)))) there.in_queues refl

pub load : (H : Type 0) → LoadLaw H
load H reply_of shape s holds id v at look there = loads reply_of shape s holds id v at look there

-- ---- on the table

module _ {H : Type 0} (reply_of : List ℕ → Request → Reply) (shape : Shape) (id : ℕ) (v : FabricView) (carried : List (ℕ × Option (Parcel H))) (s : State (Option (Parcel H)) FabricView) (holds : FabricHolds reply_of shape s) (at : get_elem? s.views id ≡ some v)
    (look : Look) (there : IsThere shape (place_of shape look)) where
  abbrev pub index : ℕ
  index = offset_of shape (place_of shape look)

  abbrev pub found : ℕ
  found = slice_index s.words index

  pub sees : (u : FabricView) × (a : Act (Option (Parcel H))) × Valid s.homes carried a × FabricHolds reply_of shape (stepped s index found id carried u a)
      × ((carried_after carried a ≡ carried) × (u.chunks ≡ v.chunks) × Sees H reply_of shape id look (v, carried) found (u, carried_after carried a))
  sees =
      let u : FabricView = logged (note_of look found) v in
      let words : set s.words index found ≡ s.words = set-get_or s.words index 0 in
      let none : IsNoStep reply_of shape s holds (stepped s index found id carried u keeps) =
      subst (λ (ws : List ℕ). IsNoStep reply_of shape s holds (record { words = ws; homes = s.homes; views = set s.views id u })) (sym words)
      (load H reply_of shape s holds id v at look there) in (
        u,
        keeps,
        tt,
        none.after,
        (
          refl,
          refl,
          record {
            moment = record { before = s; holds = holds; was = at; after = stepped s index found id carried u keeps; is = set_here s.views id u (is_there s.views id v at); others = λ k ne. set_else s.views id k u ne };
            was = refl;
            slots = refl;
            noted = refl;
            none = none;
          },
        ),
      )
