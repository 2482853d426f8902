-- What steps do to the histories of rings.
use Rattle.std.proofs.Common.{ℕ, ◌+◌, ◌≡◌, List, set, ap, arith}
use mathlib.Core.Option.{some}
use lib.ListN.{get_elem?}
use Rattle.unit_model.specs.Weights.{weigh}
use Rattle.unit_model.proofs.Views.{sum_set, sum_split, sum_join}
use Rattle.nncq_ring.specs.Rule.{Emptied}
use Rattle.nncq_ring.specs.Words.{Words, line_of}
use Rattle.nncq_ring.proofs.Sharing.{emptied_stays}
use Rattle.nncq_ring.proofs.Staying.{same_line}
use Rattle.app_queue.specs.FrameLaws.{HistoriesStayLaw, HistoryStepLaw}
use Rattle.app_queue.specs.SeatLaws.{HistoriesSplitLaw, HistoriesJoinLaw}
use Rattle.app_queue.specs.Parts.{HasMoved}
use Rattle.app_queue.proofs.ForEach.{at_ring}

module _ {V : Type 0} (pushes pops : (ℕ → ℕ → ℕ) → V → ℕ) (n : ℕ) (begun : List (ℕ × ℕ)) (w w' : Words) (views : List V) (k : ℕ) (v u : V) (at : get_elem? views k ≡ some v) where
  moved_stays : line_of n w' ≡ line_of n w → ((g : ℕ → ℕ → ℕ) → pushes g u ≡ pushes g v) → ((g : ℕ → ℕ → ℕ) → pops g u ≡ pops g v) → HasMoved pushes pops n begun w views → HasMoved pushes pops n begun w' (set views k u)
  moved_stays line pushed popped old g =
      let same : weigh (λ (e : ℕ × ℕ). g e.0 e.1) (line_of n w') ≡ weigh (λ (e : ℕ × ℕ). g e.0 e.1) (line_of n w) = ap (weigh (λ (e : ℕ × ℕ). g e.0 e.1)) line in
      omega (arith, old g, pushed g, popped g, same, sum_set (pushes g) views k v u at, sum_set (pops g) views k v u at)

  -- a pair that is put comes to the line, and one that is taken goes from it
  pub moved_moves : ((g : ℕ → ℕ → ℕ) → weigh (λ (e : ℕ × ℕ). g e.0 e.1) (line_of n w') + pops g u + pushes g v ≡ weigh (λ (e : ℕ × ℕ). g e.0 e.1) (line_of n w) + pops g v + pushes g u)
      → HasMoved pushes pops n begun w views → HasMoved pushes pops n begun w' (set views k u)
  moved_moves same old g = omega (arith, old g, same g, sum_set (pushes g) views k v u at, sum_set (pops g) views k v u at)

pub histories_stay : (V : Type 0) → HistoriesStayLaw V
histories_stay V pushes pops start begun shape ring ring' views k v u at fine stays pushed popped old = record {
  moved = λ q lt side. moved_stays (pushes q side) (pops q side) (shape.items q) (begun q side) (ring q side) (ring' q side) views k v u at (same_line (shape.items q) (ring q side) (ring' q side) (fine q lt side) (stays q lt side)) (pushed q side) (popped q side) (old.moved q lt side);
  emptied = λ q lt side. emptied_stays (pops q side) (start q side) (ring q side) (ring' q side) views k v u at (stays q lt side).head (popped q side) (old.emptied q lt side);
}

pub history_step : (V : Type 0) → HistoryStepLaw V
history_step V pushes pops start begun shape ring ring' views k v u at fine q side stays pushed popped moved' emptied' old = record {
  moved = at_ring (λ r other. HasMoved (pushes r other) (pops r other) (shape.items r) (begun r other) (ring' r other) (set views k u)) shape.queues q side moved'
      (λ r lt other apart. moved_stays (pushes r other) (pops r other) (shape.items r) (begun r other) (ring r other) (ring' r other) views k v u at (same_line (shape.items r) (ring r other) (ring' r other) (fine r lt other) (stays r lt other apart)) (pushed r lt other apart) (popped r lt other apart) (old.moved r lt other));
  emptied = at_ring (λ r other. Emptied (pops r other) (start r other) (ring' r other) (set views k u)) shape.queues q side emptied'
      (λ r lt other apart. emptied_stays (pops r other) (start r other) (ring r other) (ring' r other) views k v u at (stays r lt other apart).head (popped r lt other apart) (old.emptied r lt other));
}

pub histories_split : (V : Type 0) → HistoriesSplitLaw V
histories_split V pushes pops start begun shape ring views k v left right at pushed popped old = record {
  moved = λ q lt side g. omega (arith, old.moved q lt side g, sum_split (pushes q side g) views k v left right at (pushed side q g), sum_split (pops q side g) views k v left right at (popped side q g));
  emptied = λ q lt side f. omega (arith, old.emptied q lt side f, sum_split (pops q side (λ place item. f place)) views k v left right at (popped side q (λ place item. f place)));
}

pub histories_join : (V : Type 0) → HistoriesJoinLaw V
histories_join V pushes pops start begun shape ring views k other v o both spent two pushed popped old = record {
  moved = λ q lt side g. omega (arith, old.moved q lt side g, sum_join (pushes q side g) views k other v o both spent two.first two.second (pushed side q g), sum_join (pops q side g) views k other v o both spent two.first two.second (popped side q g));
  emptied = λ q lt side f. omega (arith, old.emptied q lt side f, sum_join (pops q side (λ place item. f place)) views k other v o both spent two.first two.second (popped side q (λ place item. f place)));
}
