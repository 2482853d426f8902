-- What holds when a queue is opened, and when it is closed.
use Rattle.std.specs.Prelude.{ℕ, ◌≡◌, ◌<◌, [], ◌∷◌}
use Rattle.std.specs.Slots.{slots_items}
use mathlib.Core.Option.{some}
use lib.ListN.{get_elem?}
use Rattle.atomic_table.specs.Table.{State}
use Rattle.app_queue.specs.declared.closing.ClosedQueue.{ClosedQueue}
use Rattle.app_queue.specs.declared.layout.Place.{Place}
use Rattle.app_queue.specs.declared.layout.Place.TheVariants.{TagOf, RunOf, PartOf}
use Rattle.app_queue.specs.declared.queue.AppQueue.{AppQueue}
use Rattle.app_queue.specs.declared.seat.QueueSeat.{QueueSeat}
use Rattle.app_queue.specs.declared.view.QueueView.{QueueView}
use Rattle.app_queue.specs.Layout.{word_of}
use Rattle.app_queue.specs.Rule.{QueueHolds}
use Rattle.app_queue.specs.Seats.{items_of, knows, start_of}

-- While this seat, which has done nothing, is the only one, the rule leaves each tag, run and part 0.
abbrev pub StartsAtZero : AppQueue → QueueSeat → Type 0
StartsAtZero queue seat = (s : State ℕ QueueView) → QueueHolds (items_of queue, start_of queue) s → s.views ≡ knows seat ∷ [] → (item : ℕ) → item < items_of queue
    → (word_of (items_of queue) s.words (TagOf item) ≡ 0) × (word_of (items_of queue) s.words (RunOf item) ≡ 0) × (word_of (items_of queue) s.words (PartOf item) ≡ 0)

-- the last value of a word
abbrev pub last_word : ClosedQueue → Place → ℕ
last_word closed place = word_of closed.size (slots_items closed.closed.words) place

-- A state with the last words, and with this seat's view among those of all seats, meets the rule.
pub record EndsWith (queue : AppQueue) (seat : QueueSeat) (closed : ClosedQueue) : Type 0 where
  pub last : State ℕ QueueView
  pub meets : QueueHolds (items_of queue, start_of queue) last
  pub view : get_elem? last.views seat.seat.id ≡ some (knows seat)
  pub words : last.words ≡ slots_items closed.closed.words
