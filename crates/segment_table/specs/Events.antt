-- What the events of a search make of the slots that a seat carries. A chunk that is gained comes with its empty slot, and one
-- that is given back takes its empty slot along: no event touches a slot with a value.
use Rattle.std.specs.Prelude.{ℕ, ◌≡◌, ◌+◌, ◌<◌, List, ◌∷◌, Option, None}
use Rattle.atomic_table.specs.Table.{Me}
use Rattle.carried_slots.specs.EmptySlots.{without_empty, empty_weight}
use Rattle.carried_slots.proofs.EmptySlots.{empty_freed}
use Rattle.unit_model.specs.Weights.{is_number}
use Rattle.chunk_map.specs.Views.{does}
use Rattle.chunk_map.specs.declared.view.MapEvent.{MapEvent}
use Rattle.chunk_map.specs.declared.view.MapEvent.TheVariants.{SawOpen, SawWord, Gained, Missed, Released, OpenedTo, FoundOpen}
use Rattle.chunk_map.specs.declared.view.MapView.{MapView}

abbrev pub slots_after : {T : Type 0} → MapEvent → List (ℕ × Option T) → List (ℕ × Option T)
slots_after (SawOpen count) c = c
slots_after (SawWord number found) c = c
slots_after (Gained chunk) c = (chunk, None) ∷ c
slots_after (Missed chunk) c = c
slots_after (Released chunk) c = without_empty chunk c
slots_after (OpenedTo count) c = c
slots_after (FoundOpen count) c = c

-- what an event makes of a seat
abbrev pub did : {T : Type 0} → MapEvent → Me (Option T) MapView → Me (Option T) MapView
did e me = (does e me.0, slots_after e me.1)

-- what the empty slots weigh without one that is given back
pub frees_one : {T : Type 0} (f : ℕ → ℕ) (chunk : ℕ) (c : List (ℕ × Option T)) → 0 < empty_weight (is_number chunk) c → empty_weight f (without_empty chunk c) + f chunk ≡ empty_weight f c
frees_one f chunk c mine = empty_freed f chunk c mine
