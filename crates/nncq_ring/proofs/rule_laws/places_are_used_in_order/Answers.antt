use Rattle.std.proofs.Common.{ℕ, ◌≡◌, ◌+◌, ◌<◌, ◌≤◌, ◌⊎◌, inl, inr, arith}
use Rattle.std.proofs.lemmas.Bool.{cases_lt}
use Rattle.atomic_table.specs.Table.{State}
use Rattle.unit_model.specs.Weights.{weigh, below, is_number}
use Rattle.unit_model.proofs.Weights.{below_is, below_is_not}
use Rattle.nncq_ring.specs.declared.view.RingView.{RingView}
use Rattle.nncq_ring.specs.RingWords.{ring_words}
use Rattle.nncq_ring.specs.Rule.{RingHolds}
use Rattle.nncq_ring.specs.Views.{pops_of, pushes_of}
use Rattle.nncq_ring.specs.Words.{logical_tail}
use Rattle.nncq_ring.proofs.Sharing.{filled_once}
use Rattle.nncq_ring.proofs.rule_laws.places_are_used_in_order.Goals as goal

filled : (key : ℕ × ℕ) (s : State ℕ RingView) → RingHolds key s → (place : ℕ) → weigh (pushes_of (λ p x. is_number place p)) s.views + below (is_number place) key.1 ≡ below (is_number place) (logical_tail key.0 (ring_words 16 s.words))
filled key s holds place = filled_once pushes_of pops_of key.0 key.1 (ring_words 16 s.words) s.views holds.part.fine holds.moved holds.emptied (is_number place)

pub returns-clause-filled : goal.returns-clause-filled
returns-clause-filled c key s holds place low high =
    let last : ℕ = logical_tail key.0 (ring_words 16 s.words) in
    omega (arith, filled key s holds place, below_is_not key.1 place low, below_is last place high)

-- what is counted from the start on alone isn't counted below it
none_outside : (count start end place : ℕ) → count + below (is_number place) start ≡ below (is_number place) end → (place < start) ⊎ (end ≤ place) → count ≡ 0
none_outside count start end place all (inl early) =
    elim (cases_lt place end) [
      | inl low ↦ omega (arith, all, below_is start place early, below_is end place low)
      | inr high ↦ omega (arith, all, below_is_not end place high)
    ]
none_outside count start end place all (inr late) = omega (arith, all, below_is_not end place late)

pub returns-clause-unfilled : goal.returns-clause-unfilled
returns-clause-unfilled c key s holds place outside = none_outside (weigh (pushes_of (λ p x. is_number place p)) s.views) key.1 (logical_tail key.0 (ring_words 16 s.words)) place (filled key s holds place) outside

pub returns-clause-emptied : goal.returns-clause-emptied
returns-clause-emptied c key s holds place low high =
    let head : ℕ = (ring_words 16 s.words).head in
    omega (arith, holds.emptied (is_number place), below_is_not key.1 place low, below_is head place high)

pub returns-clause-unemptied : goal.returns-clause-unemptied
returns-clause-unemptied c key s holds place outside = none_outside (weigh (pops_of (λ p x. is_number place p)) s.views) key.1 (ring_words 16 s.words).head place (holds.emptied (is_number place)) outside
