-- Queues at rest: each item is in the free list.
use Rattle.std.specs.Prelude.{ℕ, ◌≡◌, ◌<◌, [], length}
use Rattle.unit_model.specs.Core.{queue_of, item_of}
use Rattle.unit_model.specs.Holding.{IsHeldRight}
use Rattle.unit_model.specs.declared.machine.Core.{Core}
use Rattle.unit_model.specs.declared.machine.Whereabouts.TheVariants.{InFreeList}

-- each item of the queue is in its free list
abbrev pub IsAtRest : Core → ℕ → Type 0
IsAtRest core queue =
    (item : ℕ) → item < length (queue_of core queue).items
    → (item_of core queue item).whereabouts ≡ InFreeList

-- Then the free list is as long as there are items, and the line is empty.
abbrev pub LengthsAtRest : Type 0
LengthsAtRest = (core : Core) (queue : ℕ) → IsHeldRight core → IsAtRest core queue
    → (length (queue_of core queue).free ≡ length (queue_of core queue).items)
    × ((queue_of core queue).line ≡ [])
