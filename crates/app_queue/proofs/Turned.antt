-- What a turn at a ring of a queue does to the hand of its seat.
use Rattle.std.proofs.Common.{ℕ, ◌≡◌, List, [], ◌∷◌, refl, ap, ◌∙◌}
use Rattle.nncq_ring.specs.declared.turns.PopTurn.{PopTurn}
use Rattle.nncq_ring.specs.declared.turns.PopTurn.TheVariants as pop
use Rattle.nncq_ring.specs.declared.turns.PushTurn.{PushTurn}
use Rattle.nncq_ring.specs.declared.turns.PushTurn.TheVariants as push
use Rattle.nncq_ring.specs.declared.view.RingEvent.{RingEvent}
use Rattle.nncq_ring.specs.declared.view.RingEvent.TheVariants.{SawTail, SawHead, SawEntry, Pushed, Popped}
use Rattle.nncq_ring.specs.Turns.{Chain, Tells, IsLook, AllLooks, IsDone, IsPushLost, IsWorn, IsGot, IsEmpty, IsPopLost}
use Rattle.nncq_ring.proofs.Looking.{push_lost_looks, pop_lost_looks, looks_keep}
use Rattle.app_queue.specs.declared.side.Side.{Side}
use Rattle.app_queue.specs.declared.view.QueueView.{QueueView}
use Rattle.app_queue.specs.Hands.{SameHand, HandAfterPop, HandAfterPush}
use Rattle.app_queue.specs.Views.{log_at, does, makes}

-- ---- what events make of a view

abbrev does_all : Side → List RingEvent → QueueView → QueueView
does_all side [] v = v
does_all side (e ∷ es) v = does side e (does_all side es v)

chain_is : (side : Side) (es : List RingEvent) (v u : QueueView) → Chain (makes side) es v u → u ≡ does_all side es v
chain_is side [] v u chain = chain
chain_is side (e ∷ es) v u chain = chain.2 ∙ ap (does side e) (chain_is side es v chain.0 chain.1)

-- some events, of which it is told which
told_is : (side : Side) (says : List RingEvent → Type 0) (events : List RingEvent) (v u : QueueView) (told : Tells (makes side) v u says) → told.0 ≡ events → u ≡ does_all side events v
told_is side says events v u told are = chain_is side told.0 v u told.2 ∙ ap (λ (es : List RingEvent). does_all side es v) are

look_same : (side : Side) (e : RingEvent) (v u : QueueView) → IsLook e → makes side e v u → SameHand v u
look_same side (SawTail tail) v u look is = (ap (λ (w : QueueView). w.held) is, ap (λ (w : QueueView). w.items) is)
look_same side (SawHead head) v u look is = (ap (λ (w : QueueView). w.held) is, ap (λ (w : QueueView). w.items) is)
look_same side (SawEntry place entry) v u look is = (ap (λ (w : QueueView). w.held) is, ap (λ (w : QueueView). w.items) is)
look_same side (Pushed place value) v u look is = absurd (look tt)
look_same side (Popped place value) v u look is = absurd (look tt)

-- looks leave the hand
looks_same : (side : Side) (v u : QueueView) → Tells (makes side) v u AllLooks → SameHand v u
looks_same side v u told =
    looks_keep QueueView (makes side) (λ (w : QueueView). SameHand v w)
    (λ e w x look is same. let one : SameHand w x = look_same side e w x look is in (one.0 ∙ same.0, one.1 ∙ same.1)) v u told (refl, refl)

-- ---- turns

-- the hand after events of which it is told which
hand_of : (side : Side) (says : List RingEvent → Type 0) (events : List RingEvent) (v u : QueueView) (told : Tells (makes side) v u says) → told.0 ≡ events
    → (u.held ≡ (does_all side events v).held) × (u.items ≡ (does_all side events v).items)
hand_of side says events v u told are = let is : u ≡ does_all side events v = told_is side says events v u told are in (ap (λ (w : QueueView). w.held) is, ap (λ (w : QueueView). w.items) is)

pub hand_pop : (side : Side) (n : ℕ) (v u : QueueView) (turn : PopTurn) → ((place item : ℕ) → turn ≡ pop.Got place item → Tells (makes side) v u (IsGot n (log_at side v) place item))
    → ((place entry : ℕ) → turn ≡ pop.Empty place entry → Tells (makes side) v u (IsEmpty n (log_at side v) place entry)) → ((head entry : ℕ) → turn ≡ pop.Lost head entry → Tells (makes side) v u (IsPopLost n (log_at side v) head entry))
    → HandAfterPop side turn v u
hand_pop side n v u (pop.Got place item) got empty lost =
    let told = got place item refl in
    hand_of side (IsGot n (log_at side v) place item) (Popped place item ∷ SawEntry place told.1.entry ∷ SawHead place ∷ []) v u told told.1.told
hand_pop side n v u (pop.Empty place entry) got empty lost =
    let told = empty place entry refl in
    hand_of side (IsEmpty n (log_at side v) place entry) (SawEntry place entry ∷ SawHead place ∷ []) v u told told.1.told
hand_pop side n v u (pop.Lost head entry) got empty lost =
    let told = lost head entry refl in
    looks_same side v u (told.0, pop_lost_looks n (log_at side v) head entry told.0 told.1, told.2)

pub hand_push : (side : Side) (n item : ℕ) (v u : QueueView) (turn : PushTurn) → ((place : ℕ) → turn ≡ push.Done place → Tells (makes side) v u (IsDone n item (log_at side v) place))
    → ((tail entry : ℕ) → turn ≡ push.Lost tail entry → Tells (makes side) v u (IsPushLost n (log_at side v) tail entry)) → ((place : ℕ) → turn ≡ push.Worn place → Tells (makes side) v u (IsWorn n (log_at side v) place))
    → HandAfterPush item turn v u
hand_push side n item v u (push.Done place) done lost worn =
    let told = done place refl in
    hand_of side (IsDone n item (log_at side v) place) (SawTail told.1.tail ∷ Pushed place item ∷ SawEntry place told.1.entry ∷ SawTail place ∷ []) v u told told.1.told
hand_push side n item v u (push.Lost tail entry) done lost worn =
    let told = lost tail entry refl in
    looks_same side v u (told.0, push_lost_looks n (log_at side v) tail entry told.0 told.1, told.2)
hand_push side n item v u (push.Worn place) done lost worn =
    let told = worn place refl in
    hand_of side (IsWorn n (log_at side v) place) (SawTail place ∷ []) v u told told.1.told
