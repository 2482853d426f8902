-- The rule after a step, from what was shown of each of its parts.
use Rattle.std.proofs.Common.{ℕ, ◌*◌, ◌≡◌, ◌≤◌, List, length, refl}
use Rattle.std.specs.Prelude.{Option}
use Rattle.atomic_table.specs.Table.{State}
use Rattle.request_context.specs.declared.piece.Parcel.{Parcel}
use Rattle.unit_model.specs.Effects.{after_step}
use Rattle.unit_model.specs.Limits.{segment_chunks}
use Rattle.unit_model.specs.PartOrder.{PartsInOrder}
use Rattle.unit_model.specs.declared.machine.Step.{Step}
use Rattle.unit_model.specs.declared.shape.Shape.{Shape}
use Rattle.unit_model.proofs.RoleLists.{seats_by_role_stay}
use Rattle.unit_model.proofs.RoleSteps.{by_role_stays}
use Rattle.unit_types.specs.declared.message.Reply.{Reply}
use Rattle.unit_types.specs.declared.message.Request.{Request}
use Rattle.fabric_words.specs.Offsets.{width_of, word_in}
use Rattle.fabric_words.specs.Places.{map_of, segments_of}
use Rattle.fabric_words.specs.Shown.{IsStep, Shows}
use Rattle.carried_slots.specs.FreeSlots.{FreeSlots}
use Rattle.fabric_rule.specs.Contents.{ArmedFilled}
use Rattle.fabric_rule.specs.Rule.{FabricHolds, NotesAreTrue, ViewsShow}
use Rattle.fabric_rule.specs.Steps.{IsMachineStep, IsNoStep}
use Rattle.fabric_rule.specs.declared.view.FabricView.{FabricView}

module _ {H : Type 0} (reply_of : List ℕ → Request → Reply) (shape : Shape) (s : State (Option (Parcel H)) FabricView) (holds : FabricHolds reply_of shape s) where
  -- the machine and slots are as they were
  pub words_change : (words' : List ℕ) (views' : List FabricView) → width_of shape ≤ length words' → Shows (word_in shape words') holds.core → FreeSlots (segment_chunks * segments_of shape) (map_of (word_in shape words')) s.homes
      → NotesAreTrue shape (word_in shape words') views' → ViewsShow shape (word_in shape words') holds.popped holds.armed holds.records holds.core views'
      → IsNoStep reply_of shape s holds (record { words = words'; homes = s.homes; views = views' })
  words_change words' views' wide shows free notes views = record {
    after = record {
      wide = wide;
      core = holds.core;
      popped = holds.popped;
      armed = holds.armed;
      records = holds.records;
      shaped = holds.shaped;
      keeps = holds.keeps;
      shows = shows;
      notes = notes;
      views = views;
      free = free;
      filled = holds.filled;
    };
    is = refl;
  }

  -- and so are words
  pub views_change : (views' : List FabricView) → NotesAreTrue shape (word_in shape s.words) views' → ViewsShow shape (word_in shape s.words) holds.popped holds.armed holds.records holds.core views'
      → IsNoStep reply_of shape s holds (record s { views = views' })
  views_change views' notes views = words_change s.words views' holds.wide holds.shows holds.free notes views

  -- the machine makes a step
  module _ (step : Step) (words' : List ℕ) (homes' : List (mathlib.Core.Option.Option (Option (Parcel H)))) (views' : List FabricView) (popped' armed' : ℕ → List ℕ) where
    unfoldable pub step_made : width_of shape ≤ length words' → IsStep (word_in shape words') holds.core step → (after_step holds.core step).shape ≡ shape → PartsInOrder popped' armed' (after_step holds.core step)
        → NotesAreTrue shape (word_in shape words') views' → ViewsShow shape (word_in shape words') popped' armed' holds.records (after_step holds.core step) views'
        → FreeSlots (segment_chunks * segments_of shape) (map_of (word_in shape words')) homes' → ArmedFilled reply_of holds.records (after_step holds.core step) homes'
        → IsMachineStep reply_of shape s holds step (record { words = words'; homes = homes'; views = views' })
    step_made wide link shaped order notes views free filled = record {
      enabled = link.enabled;
      after = record {
        wide = wide;
        core = after_step holds.core step;
        popped = popped';
        armed = armed';
        records = holds.records;
        shaped = shaped;
        keeps = record {
          sound = link.sound;
          items = by_role_stays holds.core step holds.keeps.sound holds.keeps.items link.enabled;
          seats = seats_by_role_stay holds.core step holds.keeps.seats link.enabled;
          order = order;
        };
        shows = link.shows;
        notes = notes;
        views = views;
        free = free;
        filled = filled;
      };
      is = refl;
    }
