-- What a turn at a ring of a queue tells, and what it does to the items that its seat holds and to what it knows of items.
use Rattle.std.specs.Prelude.{ℕ, ◌≡◌, ◌<◌, ◌==◌, ◌∷◌}
use Rattle.unit_model.specs.Weights.{without_first}
use Rattle.nncq_ring.specs.declared.turns.PopTurn.{PopTurn}
use Rattle.nncq_ring.specs.declared.turns.PopTurn.TheVariants as pop
use Rattle.nncq_ring.specs.declared.turns.PushTurn.{PushTurn}
use Rattle.nncq_ring.specs.declared.turns.PushTurn.TheVariants as push
use Rattle.nncq_ring.specs.Turns.{Tells, IsDone, IsEmpty, IsGot, IsPopLost, IsPushLost, IsWorn}
use Rattle.app_queue.specs.declared.side.Side.{Side}
use Rattle.app_queue.specs.declared.view.ItemEvent.TheVariants.{Taken}
use Rattle.app_queue.specs.declared.view.QueueView.{QueueView}
use Rattle.app_queue.specs.Views.{log_at, makes}

-- the same items, of which the same is known
abbrev pub SameHand : QueueView → QueueView → Type 0
SameHand v u = (u.held ≡ v.held) × (u.items ≡ v.items)

-- one item more, from this ring
abbrev pub HandAfterPop : Side → PopTurn → QueueView → QueueView → Type 0
HandAfterPop side (pop.Got place item) v u = (u.held ≡ item ∷ v.held) × (u.items ≡ Taken side item place ∷ v.items)
HandAfterPop side (pop.Empty place entry) v u = SameHand v u
HandAfterPop side (pop.Lost head entry) v u = SameHand v u

-- without the item
abbrev pub HandAfterPush : ℕ → PushTurn → QueueView → QueueView → Type 0
HandAfterPush item (push.Done place) v u = (u.held ≡ without_first (λ x. x == item) v.held) × (u.items ≡ v.items)
HandAfterPush item (push.Lost tail entry) v u = SameHand v u
HandAfterPush item (push.Worn place) v u = SameHand v u

-- ---- what a turn tells, at a ring of n items

-- of a pop: the hand, and for each answer the events of the turn, with what was so at each
pub record PopTold (n : ℕ) (side : Side) (v : QueueView) (turn : PopTurn) (u : QueueView) : Type 0 where
  pub hand : HandAfterPop side turn v u
  pub inside : (place item : ℕ) → turn ≡ pop.Got place item → item < n
  pub got : (place item : ℕ) → turn ≡ pop.Got place item → Tells (makes side) v u (IsGot n (log_at side v) place item)
  pub empty : (place entry : ℕ) → turn ≡ pop.Empty place entry → Tells (makes side) v u (IsEmpty n (log_at side v) place entry)
  pub lost : (head entry : ℕ) → turn ≡ pop.Lost head entry → Tells (makes side) v u (IsPopLost n (log_at side v) head entry)

-- the same of a push of the item
pub record PushTold (n : ℕ) (side : Side) (item : ℕ) (v : QueueView) (turn : PushTurn) (u : QueueView) : Type 0 where
  pub hand : HandAfterPush item turn v u
  pub done : (place : ℕ) → turn ≡ push.Done place → Tells (makes side) v u (IsDone n item (log_at side v) place)
  pub lost : (tail entry : ℕ) → turn ≡ push.Lost tail entry → Tells (makes side) v u (IsPushLost n (log_at side v) tail entry)
  pub worn : (place : ℕ) → turn ≡ push.Worn place → Tells (makes side) v u (IsWorn n (log_at side v) place)
