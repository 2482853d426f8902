-- A note that a seat makes where the core stays.
use Rattle.std.proofs.Common.{ℕ, ◌*◌, ◌≡◌, ◌≤◌, List, [], length, set, refl, ◌∙◌, arith}
use Rattle.std.specs.Prelude.{Option}
use mathlib.Core.Option.{some}
use lib.ListN.{get_elem?}
use Rattle.atomic_table.specs.Table.{State}
use Rattle.app_queue.specs.declared.side.Side.{Side}
use Rattle.request_context.specs.declared.piece.Parcel.{Parcel}
use Rattle.unit_model.specs.Limits.{segment_chunks}
use Rattle.unit_model.specs.declared.machine.Core.{Core}
use Rattle.unit_model.specs.declared.shape.Shape.{Shape}
use Rattle.unit_types.specs.declared.message.Reply.{Reply}
use Rattle.unit_types.specs.declared.message.Request.{Request}
use Rattle.fabric_words.specs.Offsets.{width_of, word_in}
use Rattle.fabric_words.specs.Places.{map_of, segments_of}
use Rattle.fabric_words.specs.Shown.{Shows}
use Rattle.fabric_words.specs.declared.place.Place.{Place}
use Rattle.fabric_words.specs.declared.place.Place.TheVariants.{NextStream}
use Rattle.fabric_rule.specs.FrameLaws.{SameLists}
use Rattle.fabric_rule.specs.Parts.{OpensNoted}
use Rattle.fabric_rule.specs.Rule.{FabricHolds, NotesAreTrue, ViewsShow}
use Rattle.fabric_rule.specs.Steps.{IsNoStep}
use Rattle.fabric_rule.specs.Views.{chunks_at, item_log, log_at, logged}
use Rattle.fabric_rule.specs.declared.event.FabricEvent.{FabricEvent}
use Rattle.fabric_rule.specs.declared.view.FabricView.{FabricView}
use Rattle.carried_slots.specs.FreeSlots.{FreeSlots}
use Rattle.fabric_rule.proofs.Beside.{notes_beside, views_beside}
use Rattle.fabric_rule.proofs.Staying.{TailsRise}
use Rattle.fabric_rule.proofs.Frames.{of_each}
use Rattle.fabric_rule.proofs.RuleSteps.{words_change}
use Rattle.fabric_rule.proofs.Sums.{sum_stays}

module _ {H : Type 0} (reply_of : List ℕ → Request → Reply) (shape : Shape) (s : State (Option (Parcel H)) FabricView) (holds : FabricHolds reply_of shape s) (id : ℕ) (v : FabricView) (at : get_elem? s.views id ≡ some v)
    (e : FabricEvent) where
  abbrev u : FabricView
  u = logged e v

  abbrev word : Place → ℕ
  word = word_in shape s.words

  abbrev core : Core
  core = holds.core

  -- notes that are of no ring and of no item
  pub other_notes : ((q : ℕ) (side : Side) → log_at q side u ≡ log_at q side v) → ((q : ℕ) → item_log q u.log ≡ item_log q v.log) → NotesAreTrue shape word (set s.views id u)
  other_notes same_rings same_items =
      notes_beside shape word word NextStream (word NextStream) (record { here = refl; others = λ other there ne. refl }) refl (λ q side. refl) s.views id v at v.ledgers v.works v.chunks e same_rings same_items holds.notes

  shown : (word' : Place → ℕ) → TailsRise core.shape word word' → OpensNoted core u → ViewsShow shape word' holds.popped holds.armed holds.records core (set s.views id u)
  shown word' tails opens =
      let old = holds.views in
      let same : SameLists core core = record { shape = refl; seats = refl } in
      let idle : v.works ≡ [] → v.chunks ≡ [] = λ none. (old.idle id v at none).chunks in
      views_beside shape word word' holds.popped holds.armed holds.records core core s.views id v at v.chunks e same (λ q i. record { tag = refl; place = refl; last = refl }) tails
      (λ f. sum_stays (chunks_at f) s.views id v u at refl ∙ old.chunks f) (of_each (OpensNoted core) (OpensNoted core) s.views id u opens (λ y is. is) old.opens) idle old

  -- where words change that don't change the core
  pub moves_on : (words' : List ℕ) → width_of shape ≤ length words' → Shows (word_in shape words') core → TailsRise core.shape word (word_in shape words') → FreeSlots (segment_chunks * segments_of shape) (map_of (word_in shape words')) s.homes
      → NotesAreTrue shape (word_in shape words') (set s.views id u) → OpensNoted core u → IsNoStep reply_of shape s holds (record { words = words'; homes = s.homes; views = set s.views id u })
  moves_on words' wide shows tails free notes opens = words_change reply_of shape s holds words' (set s.views id u) wide shows free notes (shown (word_in shape words') tails opens)

  pub logs : NotesAreTrue shape word (set s.views id u) → OpensNoted core u → IsNoStep reply_of shape s holds (record s { views = set s.views id u })
  logs notes opens = moves_on s.words holds.wide holds.shows (λ q lt. omega arith) holds.free notes opens
