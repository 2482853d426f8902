-- How many segments of a side are open.
use Rattle.std.proofs.Common.{ℕ, ◌≡◌, ◌≤◌, List, ap, arith}
use Rattle.std.specs.Prelude.{Option}
use mathlib.Core.Option.{some}
use lib.ListN.{get_elem?}
use Rattle.atomic_table.specs.Table.{State}
use Rattle.request_context.specs.declared.piece.Parcel.{Parcel}
use Rattle.unit_model.specs.declared.shape.Shape.{Shape}
use Rattle.unit_types.specs.declared.message.Reply.{Reply}
use Rattle.unit_types.specs.declared.message.Request.{Request}
use Rattle.fabric_words.specs.Offsets.{word_in}
use Rattle.fabric_rule.specs.Claiming.{side_segments}
use Rattle.fabric_rule.specs.Looks.{opened_word}
use Rattle.fabric_rule.specs.Rule.{FabricHolds}
use Rattle.fabric_rule.specs.Views.{open_noted}
use Rattle.fabric_rule.specs.declared.event.Segments.{Segments}
use Rattle.fabric_rule.specs.declared.event.Segments.TheVariants.{Out, Back}
use Rattle.fabric_rule.specs.declared.view.FabricView.{FabricView}
use Rattle.fabric_rule.proofs.OpenSteps.{opened_of, word_shows}

-- at least one, no fewer than a view noted, and no more than there are
pub open_between : {H : Type 0} (reply_of : List ℕ → Request → Reply) (shape : Shape) (s : State (Option (Parcel H)) FabricView) (holds : FabricHolds reply_of shape s) (id : ℕ) (v : FabricView) → get_elem? s.views id ≡ some v → (segments : Segments)
    → (1 ≤ word_in shape s.words (opened_word segments)) × (open_noted segments v ≤ word_in shape s.words (opened_word segments)) × (word_in shape s.words (opened_word segments) ≤ side_segments shape segments)
open_between reply_of shape s holds id v at segments = by segments (word_shows (word_in shape s.words) holds.core holds.shows segments)
  where
    by : (g : Segments) → word_in shape s.words (opened_word g) ≡ opened_of holds.core g
        → (1 ≤ word_in shape s.words (opened_word g)) × (open_noted g v ≤ word_in shape s.words (opened_word g)) × (word_in shape s.words (opened_word g) ≤ side_segments shape g)
    by Out is =
        let opened = holds.keeps.sound.held.segments.out in (
          omega (arith, is, opened.0),
          omega (arith, is, (holds.views.opens id v at).out),
          omega (arith, is, opened.1, ap (λ (sh : Shape). sh.out_segments) holds.shaped),
        )
    by Back is =
        let opened = holds.keeps.sound.held.segments.back in (
          omega (arith, is, opened.0),
          omega (arith, is, (holds.views.opens id v at).back),
          omega (arith, is, opened.1, ap (λ (sh : Shape). sh.back_segments) holds.shaped),
        )
