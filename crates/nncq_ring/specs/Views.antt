-- What a seat of a ring knows: the numbers that it holds, its events, newest first, and those of seats that it has joined.
use Rattle.std.specs.Prelude.{ℕ, ◌≡◌, ◌==◌, ◌++◌, List, [], ◌∷◌}
use mathlib.Core.Path.{ap, sym, subst}
use Rattle.std.specs.List.{range_with_len}
use Rattle.unit_model.specs.Sharing.{Holds}
use Rattle.unit_model.specs.Weights.{weigh, without_first}
use Rattle.nncq_ring.specs.declared.view.RingEvent.{RingEvent}
use Rattle.nncq_ring.specs.declared.view.RingEvent.TheVariants.{SawTail, SawHead, SawEntry, Pushed, Popped}
use Rattle.nncq_ring.specs.declared.view.RingView.{RingView}
use Rattle.nncq_ring.specs.Turns.{IsLook}

-- ---- what a view says

abbrev pub held_by : (ℕ → ℕ) → RingView → ℕ
held_by f v = weigh f v.held

abbrev pub events_of : RingView → List RingEvent
events_of v = v.log ++ v.joined

-- what the places with values weigh that were filled, and that were emptied
abbrev pub push_weight : (ℕ → ℕ → ℕ) → RingEvent → ℕ
push_weight g (SawTail tail) = 0
push_weight g (SawHead head) = 0
push_weight g (SawEntry place entry) = 0
push_weight g (Pushed place value) = g place value
push_weight g (Popped place value) = 0

abbrev pub pop_weight : (ℕ → ℕ → ℕ) → RingEvent → ℕ
pop_weight g (SawTail tail) = 0
pop_weight g (SawHead head) = 0
pop_weight g (SawEntry place entry) = 0
pop_weight g (Pushed place value) = 0
pop_weight g (Popped place value) = g place value

abbrev pub pushes_of : (ℕ → ℕ → ℕ) → RingView → ℕ
pushes_of g v = weigh (push_weight g) (events_of v)

abbrev pub pops_of : (ℕ → ℕ → ℕ) → RingView → ℕ
pops_of g v = weigh (pop_weight g) (events_of v)

-- ---- views

-- every number below n, and nothing done
abbrev pub whole : ℕ → RingView
whole n = record { held = range_with_len 0 n; log = []; joined = [] }

abbrev pub empty : RingView
empty = record { held = []; log = []; joined = [] }

-- without a number that it holds
abbrev pub without : ℕ → RingView → RingView
without value v = record { held = without_first (λ x. x == value) v.held; log = v.log; joined = v.joined }

-- with one number more
abbrev pub holding : ℕ → RingView → RingView
holding value v = record { held = value ∷ v.held; log = v.log; joined = v.joined }

-- that number alone, and nothing done
abbrev pub just : ℕ → RingView
just value = record { held = value ∷ []; log = []; joined = [] }

-- with what the other one holds and did
abbrev pub together : RingView → RingView → RingView
together v w = record { held = w.held ++ v.held; log = v.log; joined = v.joined ++ (w.log ++ w.joined) }

-- ---- what an event makes of a view

-- a number that is put goes, and one that is taken comes
abbrev pub held_after : RingEvent → List ℕ → List ℕ
held_after (SawTail tail) held = held
held_after (SawHead head) held = held
held_after (SawEntry place entry) held = held
held_after (Pushed place value) held = without_first (λ x. x == value) held
held_after (Popped place value) held = value ∷ held

abbrev pub does : RingEvent → RingView → RingView
does e v = record { held = held_after e v.held; log = e ∷ v.log; joined = v.joined }

-- the second view is what the event makes of the first
abbrev pub makes : RingEvent → RingView → RingView → Type 0
makes e v u = u ≡ does e v

pub does_logs : (e : RingEvent) (v u : RingView) → makes e v u → events_of u ≡ e ∷ events_of v
does_logs e v u is = ap events_of is

-- a look leaves what is held
look_keeps_held : (e : RingEvent) (number : ℕ) (v : RingView) → IsLook e → Holds held_by number v → Holds held_by number (does e v)
look_keeps_held (SawTail tail) number v look held = held
look_keeps_held (SawHead head) number v look held = held
look_keeps_held (SawEntry place entry) number v look held = held
look_keeps_held (Pushed place value) number v look held = absurd (look tt)
look_keeps_held (Popped place value) number v look held = absurd (look tt)

pub look_keeps : (e : RingEvent) (number : ℕ) (v u : RingView) → IsLook e → makes e v u → Holds held_by number v → Holds held_by number u
look_keeps e number v u look is held = subst (Holds held_by number) (sym is) (look_keeps_held e number v look held)
