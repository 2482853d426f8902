-- The machine's core as a function of words and views: `core_of` of the words, and of what the views say where words don't.
use Rattle.std.specs.Prelude.{ℕ, ◌+◌, ◌==◌, ◌&&◌, if◌then◌else◌, List, [], ◌∷◌, map}
use Rattle.std.specs.List.{list_any, range_with_len}
use Rattle.unit_model.specs.Core.{no_seat}
use Rattle.unit_model.specs.declared.machine.Core.{Core}
use Rattle.unit_model.specs.declared.machine.Seat.{Seat as SeatLists}
use Rattle.unit_model.specs.declared.shape.Shape.{Shape}
use Rattle.fabric_words.specs.CoreOf.{Holdings, core_of}
use Rattle.fabric_words.specs.declared.place.Place.{Place}
use Rattle.fabric_rule.specs.Views.{last_stream}
use Rattle.fabric_rule.specs.declared.view.Ledger.{Ledger}
use Rattle.fabric_rule.specs.declared.view.FabricView.{FabricView}
use Rattle.fabric_rule.specs.declared.view.HeldItem.{HeldItem}
use Rattle.fabric_rule.specs.declared.view.KeptItem.{KeptItem}

-- ---- items and chunks

-- the seat that keeps the item, or this one
abbrev pub kept_among : ℕ → ℕ → List KeptItem → ℕ → ℕ
kept_among queue item [] otherwise = otherwise
kept_among queue item (h ∷ rest) otherwise =
    if h.queue == queue && h.item == item then h.seat else kept_among queue item rest otherwise

-- the seat that has the item in hand, 0 where none has
abbrev pub hand_among : List FabricView → ℕ → ℕ → ℕ
hand_among [] queue item = 0
hand_among (v ∷ rest) queue item =
    if list_any (λ (h : HeldItem). h.queue == queue && h.item == item) v.items
    then v.seat
    else kept_among queue item v.kept (hand_among rest queue item)

-- the seat that has the chunk, 0 where none has
abbrev pub seat_among : List FabricView → ℕ → ℕ
seat_among [] chunk = 0
seat_among (v ∷ rest) chunk =
    if list_any (λ (c : ℕ). c == chunk) v.chunks then v.seat else seat_among rest chunk

-- ---- seats

abbrev pub lists_in_ledgers : ℕ → List Ledger → SeatLists → SeatLists
lists_in_ledgers seat [] otherwise = otherwise
lists_in_ledgers seat (c ∷ rest) otherwise =
    if c.seat == seat then c.lists else lists_in_ledgers seat rest otherwise

-- the lists of a seat number, which are with one view
abbrev pub lists_among : List FabricView → ℕ → SeatLists
lists_among [] seat = no_seat
lists_among (v ∷ rest) seat = lists_in_ledgers seat v.ledgers (lists_among rest seat)

-- ---- all of it

abbrev pub holdings_in : Shape → List FabricView → Holdings
holdings_in shape views = record {
  stream = last_stream views;
  holder = hand_among views;
  keeper = seat_among views;
  seats = map (lists_among views) (range_with_len 0 (shape.engines + shape.workers));
}

-- the core of words and views
abbrev pub core_in : Shape → (Place → ℕ) → List FabricView → Core
core_in shape word views = core_of shape word (holdings_in shape views)
