-- What a seat has of its queue, and what stays true of a seat that holds what it held.
use Rattle.std.proofs.Common.{ℕ, ◌+◌, ◌*◌, ◌≡◌, ◌<◌, ◌∙◌, List, [], sym, subst, arith}
use Rattle.atomic_table.specs.declared.shared.Seat.{Seat}
use Rattle.unit_model.specs.Sharing.{Holds}
use Rattle.app_queue.specs.declared.queue.AppQueue.{AppQueue}
use Rattle.app_queue.specs.declared.seat.QueueSeat.{QueueSeat}
use Rattle.app_queue.specs.declared.view.QueueView.{QueueView}
use Rattle.app_queue.specs.Seats.{BelongsTo, items_of, knows}
use Rattle.app_queue.specs.Views.{held_by, HoldsBelow}
use Rattle.app_queue.proofs.QueueViews.{below_same}

-- an item that a seat holds is one of its queue
pub held_inside : (queue : AppQueue) (seat : QueueSeat) (item : ℕ) → BelongsTo seat queue → Holds held_by item (knows seat) → item < items_of queue
held_inside queue seat item own held =
    let sized = queue.sized in
    let inside : 112 + 5 * item < queue.table.shared.table_id.words = subst (λ (id : _). 112 + 5 * item < id.words) own (seat.sound.1 item held) in
    omega (arith, inside, sized.0, sized.1)

-- behind a step that leaves what the seat holds
pub still_sound : (seat : QueueSeat) (new : Seat ℕ QueueView) → (new.table_id ≡ seat.seat.table_id) × (new.me.1 ≡ seat.seat.me.1)
    → new.me.0.held ≡ seat.seat.me.0.held → (new.me.1 ≡ []) × HoldsBelow new.table_id.words new.me.0
still_sound seat new own same = (
  own.1 ∙ seat.sound.0,
  subst (λ (id : _). HoldsBelow id.words new.me.0) (sym own.0) (below_same seat.seat.table_id.words seat.seat.me.0 new.me.0 same seat.sound.1),
)
