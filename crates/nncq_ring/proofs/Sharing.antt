-- What a step does to what a ring's rule says of all views: who has each number, which pairs were put and taken, and which
-- places were emptied. Views are of any type: what of the stepping seat's view has changed is a premise.
use Rattle.std.proofs.Common.{ℕ, zero, suc, ◌+◌, ◌-◌, ◌≡◌, List, set, ap, ◌∙◌, arith}
use mathlib.Core.Option.{some}
use lib.ListN.{get_elem?}
use Rattle.unit_model.specs.Weights.{weigh, below}
use Rattle.unit_model.proofs.Views.{sum_set}
use Rattle.nncq_ring.specs.Words.{Words, logical_tail, IsWellFormed, places, line_of}
use Rattle.nncq_ring.specs.Rule.{Moved, Emptied}

module _ {V : Type 0} (pushes pops : (ℕ → ℕ → ℕ) → V → ℕ) (n : ℕ) (w w' : Words) (views : List V) (k : ℕ) (v u : V) (at : get_elem? views k ≡ some v) where
  pub moved_stays : line_of n w' ≡ line_of n w → ((g : ℕ → ℕ → ℕ) → pushes g u ≡ pushes g v) → ((g : ℕ → ℕ → ℕ) → pops g u ≡ pops g v) → Moved pushes pops n w views → Moved pushes pops n w' (set views k u)
  moved_stays line pushed popped old g =
      let same : weigh (λ e. g e.0 e.1) (line_of n w') ≡ weigh (λ e. g e.0 e.1) (line_of n w) = ap (weigh (λ e. g e.0 e.1)) line in
      omega (arith, old g, pushed g, popped g, same, sum_set (pushes g) views k v u at, sum_set (pops g) views k v u at)

  pub moved_moves : ((g : ℕ → ℕ → ℕ) → weigh (λ e. g e.0 e.1) (line_of n w') + pops g u + pushes g v ≡ weigh (λ e. g e.0 e.1) (line_of n w) + pops g v + pushes g u) → Moved pushes pops n w views → Moved pushes pops n w' (set views k u)
  moved_moves same old g = omega (arith, old g, same g, sum_set (pushes g) views k v u at, sum_set (pops g) views k v u at)

module _ {V : Type 0} (pops : (ℕ → ℕ → ℕ) → V → ℕ) (start : ℕ) (w w' : Words) (views : List V) (k : ℕ) (v u : V) (at : get_elem? views k ≡ some v) where
  pub emptied_stays : w'.head ≡ w.head → ((g : ℕ → ℕ → ℕ) → pops g u ≡ pops g v) → Emptied pops start w views → Emptied pops start w' (set views k u)
  emptied_stays head popped old f =
      let same : below f w'.head ≡ below f w.head = ap (below f) head in
      omega (arith, old f, popped (λ place value. f place), same, sum_set (pops (λ place value. f place)) views k v u at)

  pub emptied_one : (value : ℕ) → w'.head ≡ w.head + 1 → ((g : ℕ → ℕ → ℕ) → pops g u ≡ g w.head value + pops g v) → Emptied pops start w views → Emptied pops start w' (set views k u)
  emptied_one value head popped old f =
      let one : w.head + 1 ≡ suc w.head = omega arith in
      let more : below f w'.head ≡ below f w.head + f w.head = ap (below f) (head ∙ one) in
      omega (arith, old f, popped (λ place value. f place), more, sum_set (pops (λ place value. f place)) views k v u at)

-- each place from the start up to the logical tail was filled once, and no other
line_places : (f : ℕ → ℕ) (n : ℕ) (entry : ℕ → ℕ) (from k : ℕ) → weigh (λ e. f e.0) (places n entry from k) + below f from ≡ below f (from + k)
line_places f n entry from zero = let none : from + 0 ≡ from = omega arith in omega (arith, ap (below f) none)
line_places f n entry from (suc k) =
    let one : suc from + k ≡ from + suc k = omega arith in
    omega (arith, line_places f n entry (suc from) k, ap (below f) one)

pub filled_once : {V : Type 0} (pushes pops : (ℕ → ℕ → ℕ) → V → ℕ) (n start : ℕ) (w : Words) (views : List V) → IsWellFormed n w → Moved pushes pops n w views → Emptied pops start w views
    → (f : ℕ → ℕ) → weigh (pushes (λ place value. f place)) views + below f start ≡ below f (logical_tail n w)
filled_once pushes pops n start w views fine moved emptied f =
    let k : ℕ = logical_tail n w - w.head in
    let last : w.head + k ≡ logical_tail n w = omega (arith, fine.front) in
    omega (arith, moved (λ place value. f place), emptied f, line_places f n w.entry w.head k, ap (below f) last)
