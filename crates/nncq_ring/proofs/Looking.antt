-- Looks before a turn, over any table's steps.
use Rattle.std.proofs.Common.{ℕ, ◌++◌, ⊎_elim, List, [], ◌∷◌, refl, sym, subst}
use Rattle.nncq_ring.specs.declared.view.RingEvent.{RingEvent}
use Rattle.nncq_ring.specs.Turns.{Chain, Tells, IsLook, AllLooks, IsPushLost, IsPopLost}

-- a lost turn told looks alone
pub push_lost_looks : (n : ℕ) (log : List RingEvent) (place entry : ℕ) (events : List RingEvent) → IsPushLost n log place entry events → AllLooks events
push_lost_looks n log place entry events lost =
    ⊎_elim
    (λ filled. subst AllLooks (sym filled.3) (tt, (tt, (tt, tt))))
    (λ rest. ⊎_elim
    (λ later. subst AllLooks (sym later.1) (tt, (tt, tt)))
    (λ other. subst AllLooks (sym other.4) (tt, (tt, (tt, tt))))
    rest)
    lost.cause

pub pop_lost_looks : (n : ℕ) (log : List RingEvent) (place entry : ℕ) (events : List RingEvent) → IsPopLost n log place entry events → AllLooks events
pop_lost_looks n log place entry events lost =
    ⊎_elim
    (λ later. subst AllLooks (sym later.1) (tt, (tt, tt)))
    (λ other. subst AllLooks (sym other.3) (tt, (tt, (tt, tt))))
    lost.cause

all_looks : (es ds : List RingEvent) → AllLooks es → AllLooks ds → AllLooks (es ++ ds)
all_looks [] ds one two = two
all_looks (e ∷ es) ds one two = (one.0, all_looks es ds one.1 two)

module _ (V : Type 0) (steps : RingEvent → V → V → Type 0) where
  pub looks_none : (v : V) → Tells steps v v AllLooks
  looks_none v = ([], tt, refl)

  joined : (es ds : List RingEvent) (v u w : V) → Chain steps ds v u → Chain steps es u w → Chain steps (es ++ ds) v w
  joined [] ds v u w one two = subst (Chain steps ds v) (sym two) one
  joined (e ∷ es) ds v u w one two = (two.0, joined es ds v u two.0 one two.1, two.2)

  pub looks_on : (v u w : V) → Tells steps v u AllLooks → Tells steps u w AllLooks → Tells steps v w AllLooks
  looks_on v u w one two = (two.0 ++ one.0, all_looks two.0 one.0 two.1 one.1, joined two.0 one.0 v u w one.2 two.2)

  -- what each look leaves true, looks leave true
  module _ (Holds : V → Type 0) (keeps : (e : RingEvent) (v u : V) → IsLook e → steps e v u → Holds v → Holds u) where
    all_keep : (es : List RingEvent) (v u : V) → AllLooks es → Chain steps es v u → Holds v → Holds u
    all_keep [] v u looks chain holds = subst Holds (sym chain) holds
    all_keep (e ∷ es) v u looks chain holds = keeps e chain.0 u looks.0 chain.2 (all_keep es v chain.0 looks.1 chain.1 holds)

    pub looks_keep : (v u : V) → Tells steps v u AllLooks → Holds v → Holds u
    looks_keep v u told holds = all_keep told.0 v u told.1 told.2 holds
