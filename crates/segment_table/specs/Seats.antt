-- What is true of a seat.
use Rattle.std.specs.Prelude.{ℕ, ◌≡◌, ◌*◌, ◌<◌, ◌≤◌, Option}
use Rattle.atomic_table.specs.Table.{Me}
use Rattle.carried_slots.specs.Carried.{numbers, IsDistinct}
use Rattle.unit_model.specs.Sharing.{Holds}
use Rattle.unit_model.specs.Weights.{weigh}
use Rattle.chunk_map.specs.Views.{held_by, open_noted}
use Rattle.chunk_map.specs.declared.view.MapView.{MapView}

-- It carries exactly the slots of the chunks that it holds, each once. These are chunks of its table, and it has seen no more
-- segments open than there are.
pub record IsSeat {T : Type 0} (me : Me (Option T) MapView) : Type 0 where
  pub weighs : (f : ℕ → ℕ) → weigh f (numbers me.1) ≡ held_by f me.0
  pub distinct : IsDistinct me.1
  pub within : (chunk : ℕ) → Holds held_by chunk me.0 → chunk < 640 * me.0.segments
  pub noted : open_noted me.0 ≤ me.0.segments
