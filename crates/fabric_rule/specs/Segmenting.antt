-- A seat opens one more segment of its side, as a statement: what it has to be, what its view is
-- afterwards, and which step of the machine it is.
use Rattle.std.specs.Prelude.{ℕ, ◌+◌, ◌≡◌, ◌≢◌, ◌≤◌, ◌<◌, List, Option}
use mathlib.Core.Option.{some}
use lib.ListN.{get_elem?}
use Rattle.atomic_table.specs.Table.{State, keeps, stepped}
use Rattle.chunk_map.specs.declared.view.MapEvent.TheVariants.{FoundOpen, OpenedTo}
use Rattle.request_context.specs.declared.piece.Parcel.{Parcel}
use Rattle.unit_model.specs.Core.{chunk_number, owner_of}
use Rattle.unit_model.specs.Limits.{segment_chunks}
use Rattle.unit_model.specs.declared.machine.Core.{Core}
use Rattle.unit_model.specs.declared.machine.Owner.TheVariants.{Free}
use Rattle.unit_model.specs.declared.machine.Step.TheVariants.{Open}
use Rattle.unit_model.specs.declared.shape.Shape.{Shape}
use Rattle.unit_types.specs.declared.message.Reply.{Reply}
use Rattle.unit_types.specs.declared.message.Request.{Request}
use Rattle.fabric_words.specs.Offsets.{offset_of, word_in}
use Rattle.fabric_rule.specs.Claiming.{own_segments, segment_in, side_segments}
use Rattle.fabric_rule.specs.Looks.{opened_word}
use Rattle.fabric_rule.specs.Rule.{FabricHolds}
use Rattle.fabric_rule.specs.Steps.{IsMachineStep, IsNoStep}
use Rattle.fabric_rule.specs.Told.{Moment}
use Rattle.fabric_rule.specs.Views.{logged, open_noted}
use Rattle.fabric_rule.specs.declared.event.FabricEvent.TheVariants.{AtMap}
use Rattle.fabric_rule.specs.declared.event.Segments.{Segments}
use Rattle.fabric_rule.specs.declared.view.FabricView.{FabricView}

abbrev pub with_opened : Segments → ℕ → FabricView → FabricView
with_opened segments count v = logged (AtMap segments (OpenedTo count)) v

-- each chunk of this segment is free
abbrev pub IsAllFree : Shape → Core → Segments → ℕ → Type 0
IsAllFree shape core segments segment =
    (chunk : ℕ) → chunk < segment_chunks
    → owner_of core (chunk_number (segment_in shape segments segment) chunk) ≡ Free

-- Open: so many segments of the seat's side were open, and not all, and there is one more now, all
-- of whose chunks are free.
pub record SegmentOpens {H : Type 0} (reply_of : List ℕ → Request → Reply) (shape : Shape) (s : State (Option (Parcel H)) FabricView) (holds : FabricHolds reply_of shape s) (id : ℕ) (v : FabricView) (carried : List (ℕ × Option (Parcel H))) (segments : Segments) (count : ℕ) : Type 0 where
  pub step : IsMachineStep reply_of shape s holds (Open v.seat count)
      (stepped s (offset_of shape (opened_word segments)) (count + 1) id carried (with_opened segments (count + 1) v) keeps)
  pub free : IsAllFree shape step.after.core segments count

abbrev pub OpenLaw : (H : Type 0) → Type 0
OpenLaw H = (reply_of : List ℕ → Request → Reply) (shape : Shape) (s : State (Option (Parcel H)) FabricView)
    (holds : FabricHolds reply_of shape s) (id : ℕ) (v : FabricView) (carried : List (ℕ × Option (Parcel H)))
    → get_elem? s.views id ≡ some v
    → (segments : Segments) (count : ℕ) → segments ≡ own_segments shape v.seat → count < side_segments shape segments
    → word_in shape s.words (opened_word segments) ≡ count
    → SegmentOpens reply_of shape s holds id v carried segments count

-- one segment more is open, or another number of segments was open, at least as many as the seat
-- noted
pub record Opens (H : Type 0) (reply_of : List ℕ → Request → Reply) (shape : Shape) (id : ℕ) (segments : Segments) (count : ℕ) (v : FabricView) (found : ℕ) (u : FabricView) : Type 0 where
  pub moment : Moment H reply_of shape id v u
  pub was : word_in shape moment.before.words (opened_word segments) ≡ found
  pub noted : open_noted segments v ≤ found
  pub most : found ≤ side_segments shape segments
  pub won : found ≡ count → u ≡ with_opened segments (count + 1) v
  pub step : found ≡ count → IsMachineStep reply_of shape moment.before moment.holds (Open v.seat count) moment.after
  pub free : (same : found ≡ count) → IsAllFree shape (step same).after.core segments count
  pub missed : found ≢ count → u ≡ logged (AtMap segments (FoundOpen found)) v
  pub none : found ≢ count → IsNoStep reply_of shape moment.before moment.holds moment.after
