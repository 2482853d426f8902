-- What follows of items in hand: who holds an item has it in the machine too, and each item is in one place.
use Rattle.std.specs.Prelude.{ℕ, ◌+◌, ◌*◌, ◌≤◌, ◌<◌, ◌≡◌, List}
use mathlib.Core.Option.{some}
use lib.ListN.{get_elem?}
use Rattle.unit_model.specs.Core.{item_of, owner_of}
use Rattle.unit_model.specs.Holding.{items_of}
use Rattle.unit_model.specs.Limits.{segment_chunks}
use Rattle.unit_model.specs.Premises.{IsInHand}
use Rattle.unit_model.specs.Sharing.{Holds, Owned}
use Rattle.unit_model.specs.Weights.{weigh, below, times}
use Rattle.unit_model.specs.declared.machine.Core.{Core}
use Rattle.unit_model.specs.declared.machine.Owner.TheVariants.{Seat}
use Rattle.unit_model.specs.declared.machine.Whereabouts.{Whereabouts}
use Rattle.unit_model.specs.declared.machine.Whereabouts.TheVariants.{InFreeList, InLine, WithSeat}
use Rattle.fabric_words.specs.Places.{queues_of, segments_of}
use Rattle.fabric_rule.specs.Parts.{ChunksHeld, ItemsHeld}
use Rattle.fabric_rule.specs.Views.{held_at, kept_at}
use Rattle.fabric_rule.specs.declared.view.FabricView.{FabricView}

-- an item that a view has is in the hand of that view's seat
abbrev pub InHandLaw : Type 0
InHandLaw = (core : Core) (views : List FabricView) (id : ℕ) (v : FabricView) → get_elem? views id ≡ some v
    → ItemsHeld core views
    → (queue item : ℕ) → queue < queues_of core.shape → Holds (held_at queue) item v
    → IsInHand core v.seat queue item

-- an item weighs where it is with no seat
abbrev pub away_weight : (ℕ → ℕ) → Whereabouts → ℕ → ℕ
away_weight f InFreeList item = f item
away_weight f InLine item = f item
away_weight f (WithSeat seat) item = 0

-- what items weigh that no view has to work with: those in rings, and those that are kept
abbrev pub items_elsewhere : Core → List FabricView → ℕ → (ℕ → ℕ) → ℕ
items_elsewhere core views queue f =
    below (λ item. away_weight f (item_of core queue item).whereabouts item) (items_of core.shape queue)
    + weigh (kept_at queue (λ seat. f)) views

abbrev pub HandsOwnedLaw : Type 0
HandsOwnedLaw = (core : Core) (views : List FabricView) → ItemsHeld core views
    → (queue : ℕ) → queue < queues_of core.shape
    → Owned (held_at queue) (items_elsewhere core views queue) (items_of core.shape queue) views

-- ---- chunks

-- a chunk of the fabric, owned by this seat, which all views together have once
pub record IsChunkInHand (core : Core) (views : List FabricView) (v : FabricView) (chunk : ℕ) : Type 0 where
  pub within : chunk < segment_chunks * segments_of core.shape
  pub owner : owner_of core chunk ≡ Seat v.seat
  pub once : weigh (λ (y : FabricView). times chunk y.chunks) views ≤ 1

abbrev pub ChunkInHandLaw : Type 0
ChunkInHandLaw = (core : Core) (views : List FabricView) (id : ℕ) (v : FabricView) → get_elem? views id ≡ some v
    → ChunksHeld core views
    → (chunk : ℕ) → 1 ≤ times chunk v.chunks → IsChunkInHand core views v chunk
