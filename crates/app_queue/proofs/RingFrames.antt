-- What steps do to what is said of rings.
use Rattle.std.proofs.Common.{ℕ, ◌≤◌, ◌^◌, set, arith}
use Rattle.nncq_ring.specs.Notes.{RingPart}
use Rattle.nncq_ring.specs.Words.{logical_tail}
use Rattle.nncq_ring.proofs.RingParts.{part_splits, part_joins}
use Rattle.nncq_ring.proofs.Staying.{same_tail, part_same}
use Rattle.app_queue.specs.FrameLaws.{RingsStayLaw, RingStepLaw}
use Rattle.app_queue.specs.SeatLaws.{RingsSplitLaw, RingsJoinLaw}
use Rattle.app_queue.proofs.ForEach.{at_ring, second_was}

pub rings_stay : (V : Type 0) → RingsStayLaw V
rings_stay V log shape ring ring' views k v u at stays same old = record {
  rings = λ q lt side. part_same V (shape.items q) (log q side) (ring q side) (ring' q side) views k v u at (old.rings q lt side) (stays q lt side) (same q side);
  worn = λ q lt side. omega (arith, old.worn q lt side, same_tail (shape.items q) (ring q side) (ring' q side) (old.rings q lt side).fine (stays q lt side));
}

pub rings_step : (V : Type 0) → RingStepLaw V
rings_step V log shape ring ring' views k v u at q side stays same part' worn' old = record {
  rings = at_ring (λ r other. RingPart (shape.items r) (log r other) (ring' r other) (set views k u)) shape.queues q side part'
      (λ r lt other apart. part_same V (shape.items r) (log r other) (ring r other) (ring' r other) views k v u at (old.rings r lt other) (stays r lt other apart) (same r lt other apart));
  worn = at_ring (λ r other. logical_tail (shape.items r) (ring' r other) ≤ 2 ^ 62) shape.queues q side worn'
      (λ r lt other apart. omega (arith, old.worn r lt other, same_tail (shape.items r) (ring r other) (ring' r other) (old.rings r lt other).fine (stays r lt other apart)));
}

pub rings_split : (V : Type 0) → RingsSplitLaw V
rings_split V log shape ring views k v left right at l r old = record {
  rings = λ q lt side. part_splits (shape.items q) (log q side) (ring q side) views k v at (old.rings q lt side) left right (l q side) (r q side);
  worn = old.worn;
}

pub rings_join : (V : Type 0) → RingsJoinLaw V
rings_join V log shape ring views k other v o both spent two together nothing old = record {
  rings = λ q lt side. part_joins (shape.items q) (log q side) (ring q side) views k v two.first (old.rings q lt side) other o both spent (second_was views k v both other o two) (together q side) (nothing q side);
  worn = old.worn;
}
