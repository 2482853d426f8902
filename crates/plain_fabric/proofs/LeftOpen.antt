-- Behind a trace no stream is left open.
use Rattle.std.proofs.Common.{◌≡◌, ℕ, ◌==◌, ◌&&◌, ◌||◌, inl, inr, Bool, true, false, not, List, [], ◌∷◌, length, refl, ap, ◌∙◌, arith}
use Rattle.std.proofs.lemmas.Bool.{cases_Bool}
use Rattle.std.specs.List.{list_any}
use Rattle.unit_model.proofs.RoleLists.{seats_at_first, seats_by_role_stay}
use Rattle.unit_model.specs.ByRole.{SeatsByRole}
use Rattle.unit_model.specs.Conditions.{has_stream}
use Rattle.unit_model.specs.Core.{seat_of, role_of}
use Rattle.unit_model.specs.Effects.{after_step}
use Rattle.unit_model.specs.Opening.{opened_core}
use Rattle.unit_model.specs.Running.{AllEnabled, after_steps}
use Rattle.unit_model.specs.declared.machine.Core.{Core}
use Rattle.unit_model.specs.declared.machine.Part.{Part}
use Rattle.unit_model.specs.declared.machine.Seat.{Seat as SeatLists}
use Rattle.unit_model.specs.declared.machine.Step.{Step}
use Rattle.plain_fabric.proofs.Traces.{traced}
use Rattle.plain_fabric.proofs.Visits.{seats_are_two, worker_role}
use Rattle.plain_fabric.specs.AtRest.{HasNothingOpen, IsAtRest}
use Rattle.plain_fabric.specs.Laws.{NoneLeftOpen, parts_of_all}
use Rattle.plain_fabric.specs.Schedule.{trace_of}

roles_behind : (core : Core) (steps : List Step) → SeatsByRole core → AllEnabled core steps → SeatsByRole (after_steps core steps)
roles_behind core [] roles all = roles
roles_behind core (step ∷ steps) roles all = roles_behind (after_step core step) steps (seats_by_role_stay core step roles all.0) all.1

-- what became of a stream, by the lists of the seats
abbrev posted_in : ℕ → List SeatLists → Bool
posted_in stream seats = list_any (λ lists. has_stream stream lists.posted) seats

abbrev accepted_in : ℕ → List SeatLists → Bool
accepted_in stream seats = list_any (λ lists. list_any (λ part. part.stream == stream && part.last) lists.received && not (has_stream stream lists.abandoned)) seats

abbrev cancelled_in : ℕ → List SeatLists → Bool
cancelled_in stream seats = list_any (λ lists. has_stream stream lists.cancelled) seats

abbrev abandoned_in : ℕ → List SeatLists → Bool
abandoned_in stream seats = list_any (λ lists. has_stream stream lists.abandoned) seats

abbrev open_in : ℕ → List SeatLists → Bool
open_in stream seats = posted_in stream seats && not (accepted_in stream seats || (cancelled_in stream seats || abandoned_in stream seats))

some_first : (a b : Bool) → a ≡ true → (a || b) ≡ true
some_first true b is = refl
some_first false b is = absurd (cc is)

neither : (a b : Bool) → a ≡ false → b ≡ false → (a || (b || false)) ≡ false
neither false false one other = refl
neither true b one other = absurd (cc one)
neither false true one other = absurd (cc other)

both_hold : (a b : Bool) → a ≡ true → b ≡ false → (a && not b) ≡ true
both_hold true false one other = refl
both_hold false b one other = absurd (cc one)
both_hold true true one other = absurd (cc other)

not_posted : (p w : Bool) → p ≡ false → (p && w) ≡ false
not_posted false w is = refl
not_posted true w is = absurd (cc is)

accepted_ends : (p x w : Bool) → x ≡ true → (p && not (x || w)) ≡ false
accepted_ends true true w is = refl
accepted_ends true false w is = absurd (cc is)
accepted_ends false x w is = refl

cancelled_ends : (p x y z : Bool) → y ≡ true → (p && not (x || (y || z))) ≡ false
cancelled_ends true true y z is = refl
cancelled_ends true false true z is = refl
cancelled_ends true false false z is = absurd (cc is)
cancelled_ends false x y z is = refl

none_open : (stream : ℕ) (engine worker : SeatLists) → HasNothingOpen engine → worker.posted ≡ [] → open_in stream (engine ∷ worker ∷ []) ≡ false
none_open stream engine worker ends idle =
    let other : has_stream stream worker.posted ≡ false = ap (λ (l : List ℕ). has_stream stream l) idle in
    let kept : has_stream stream engine.abandoned ≡ false = ap (λ (l : List ℕ). has_stream stream l) ends.abandoned in
    elim (cases_Bool (has_stream stream engine.posted)) [
      | inr off ↦
          let none : posted_in stream (engine ∷ worker ∷ []) ≡ false = neither (has_stream stream engine.posted) (has_stream stream worker.posted) off other in
          not_posted (posted_in stream (engine ∷ worker ∷ [])) (not (accepted_in stream (engine ∷ worker ∷ []) || (cancelled_in stream (engine ∷ worker ∷ []) || abandoned_in stream (engine ∷ worker ∷ [])))) none
      | inl posts ↦ elim (ends.ended stream posts) [
        | inl cancelled ↦
            let is : cancelled_in stream (engine ∷ worker ∷ []) ≡ true = some_first (has_stream stream engine.cancelled) (has_stream stream worker.cancelled || false) cancelled in
            cancelled_ends (posted_in stream (engine ∷ worker ∷ [])) (accepted_in stream (engine ∷ worker ∷ [])) (cancelled_in stream (engine ∷ worker ∷ [])) (abandoned_in stream (engine ∷ worker ∷ [])) is
        | inr received ↦
            let holds : (list_any (λ (part : Part). part.stream == stream && part.last) engine.received && not (has_stream stream engine.abandoned)) ≡ true =
            both_hold (list_any (λ (part : Part). part.stream == stream && part.last) engine.received) (has_stream stream engine.abandoned) received kept in
            let is : accepted_in stream (engine ∷ worker ∷ []) ≡ true =
            some_first (list_any (λ (part : Part). part.stream == stream && part.last) engine.received && not (has_stream stream engine.abandoned))
            ((list_any (λ (part : Part). part.stream == stream && part.last) worker.received && not (has_stream stream worker.abandoned)) || false) holds in
            accepted_ends (posted_in stream (engine ∷ worker ∷ [])) (accepted_in stream (engine ∷ worker ∷ [])) (cancelled_in stream (engine ∷ worker ∷ []) || abandoned_in stream (engine ∷ worker ∷ [])) is
      ]
    ]

pub none_left_open : NoneLeftOpen
none_left_open shape requests plain can room stream =
    let core : Core = after_steps (opened_core shape) (trace_of shape requests) in
    let run = traced shape requests plain can room in
    let rest : IsAtRest core (length requests) (parts_of_all requests) = run.1 in
    let roles : SeatsByRole core = roles_behind (opened_core shape) (trace_of shape requests) (seats_at_first shape) run.0 in
    let role : role_of core 1 ≡ 1 = worker_role core.shape rest.engines rest.workers core refl in
    let idle = ((roles 1).engine (omega (arith, role))).1 in
    ap (open_in stream) (seats_are_two core.shape rest.engines rest.workers core rest.sound refl) ∙ none_open stream (seat_of core 0) (seat_of core 1) rest.nothing_open idle
