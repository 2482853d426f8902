-- The step that a request takes of a route.
use Rattle.std.proofs.Common.{◌≡◌, ℕ, zero, suc, ◌+◌, ◌<◌, ◌-◌, Bool, true, false, cond, List, [], ◌∷◌, length, take, drop, Option, Some, None, refl, sym, ap, ◌∙◌, subst, arith}
use Rattle.std.specs.List.{slice_get}
use Rattle.unit_types.specs.declared.message.Request.{Request}
use Rattle.conf_validate.specs.declared.conf.Step.{Step}
use Rattle.conf_validate.specs.Configuration.{Configuration}
use Rattle.route_match.specs.Matches.{request_matches}
use Rattle.route_match.specs.Passes.{Takes, TakesNone}
use Rattle.route_match.specs.Target.{first_matching, step_taken}

-- ---- places in a part of a list

pub inside : {A : Type 0} (xs : List A) (i : ℕ) (x : A) → slice_get xs i ≡ Some x → i < length xs
inside [] i x h = absurd (cc h)
inside (y ∷ xs) zero x h = omega arith
inside (y ∷ xs) (suc i) x h = omega (arith, inside xs i x h)

got_drop : {A : Type 0} (xs : List A) (first i k : ℕ) → k ≡ first + i → slice_get (drop first xs) i ≡ slice_get xs k
got_drop xs zero i k e = let same : i ≡ k = omega (arith, e) in ap (slice_get xs) same
got_drop [] (suc first) i k e = refl
got_drop (x ∷ xs) (suc first) i zero e = absurd (omega (arith, e))
got_drop (x ∷ xs) (suc first) i (suc k) e = got_drop xs first i k (omega (arith, e))

got_take : {A : Type 0} (xs : List A) (count i : ℕ) (x : A) → slice_get (take count xs) i ≡ Some x → (i < count) × (slice_get xs i ≡ Some x)
got_take [] zero i x h = absurd (cc h)
got_take [] (suc count) i x h = absurd (cc h)
got_take (y ∷ xs) zero i x h = absurd (cc h)
got_take (y ∷ xs) (suc count) zero x h = (omega arith, h)
got_take (y ∷ xs) (suc count) (suc i) x h = let rest = got_take xs count i x h in (omega (arith, rest.0), rest.1)

put_take : {A : Type 0} (xs : List A) (count i : ℕ) (x : A) → i < count → slice_get xs i ≡ Some x → slice_get (take count xs) i ≡ Some x
put_take [] zero i x lt h = absurd (cc h)
put_take [] (suc count) i x lt h = absurd (cc h)
put_take (y ∷ xs) zero i x lt h = absurd (omega (arith, lt))
put_take (y ∷ xs) (suc count) zero x lt h = h
put_take (y ∷ xs) (suc count) (suc i) x lt h = put_take xs count i x (omega (arith, lt)) h

-- ---- the first step whose conditions hold

-- what is known of the step at a place of these
record IsFirst (request : Request) (start index : ℕ) (steps : List Step) (step : Step) : Type 0 where
  pub place : ℕ
  pub is : index ≡ start + place
  pub there : slice_get steps place ≡ Some step
  pub holds : request_matches step.conditions request ≡ true
  pub earlier : (i : ℕ) (s : Step) → i < place → slice_get steps i ≡ Some s → request_matches s.conditions request ≡ false

abbrev NoneHolds : Request → List Step → Type 0
NoneHolds request steps = (i : ℕ) (s : Step) → slice_get steps i ≡ Some s → request_matches s.conditions request ≡ false

same_step : (s t : Step) → Some s ≡ Some t → s ≡ t
same_step s t e = cc e

-- what is found
abbrev IsFound : Request → ℕ → List Step → Option (ℕ × Step) → Type 0
IsFound request start steps None = NoneHolds request steps
IsFound request start steps (Some taken) = IsFirst request start taken.0 steps taken.1

not_first : (request : Request) (step : Step) (steps : List Step) → request_matches step.conditions request ≡ false → NoneHolds request steps → NoneHolds request (step ∷ steps)
not_first request step steps differs none zero s h = subst (λ (t : Step). request_matches t.conditions request ≡ false) (same_step step s h) differs
not_first request step steps differs none (suc i) s h = none i s h

earlier_too : (request : Request) (step : Step) (steps : List Step) (place : ℕ) → request_matches step.conditions request ≡ false
    → ((i : ℕ) (s : Step) → i < place → slice_get steps i ≡ Some s → request_matches s.conditions request ≡ false)
    → (i : ℕ) (s : Step) → i < suc place → slice_get (step ∷ steps) i ≡ Some s → request_matches s.conditions request ≡ false
earlier_too request step steps place differs earlier zero s lt h = subst (λ (t : Step). request_matches t.conditions request ≡ false) (same_step step s h) differs
earlier_too request step steps place differs earlier (suc i) s lt h = earlier i s (omega (arith, lt)) h

later : (request : Request) (start : ℕ) (step : Step) (steps : List Step) (o : Option (ℕ × Step)) → request_matches step.conditions request ≡ false → IsFound request (start + 1) steps o → IsFound request start (step ∷ steps) o
later request start step steps None differs h = not_first request step steps differs h
later request start step steps (Some taken) differs h = record {
  place = suc h.place;
  is = omega (arith, h.is);
  there = h.there;
  holds = h.holds;
  earlier = earlier_too request step steps h.place differs h.earlier;
}

one_of_both : (request : Request) (start : ℕ) (step : Step) (steps : List Step) (b : Bool) (rest : Option (ℕ × Step)) → request_matches step.conditions request ≡ b → IsFound request (start + 1) steps rest → IsFound request start (step ∷ steps) (cond b (Some (start, step)) rest)
one_of_both request start step steps true rest e h = record {
  place = 0;
  is = omega arith;
  there = refl;
  holds = e;
  earlier = λ i s lt at. absurd (omega (arith, lt));
}
one_of_both request start step steps false rest e h = later request start step steps rest e h

first_found : (request : Request) (start : ℕ) (steps : List Step) → IsFound request start steps (first_matching request start steps)
first_found request start [] = λ i s h. absurd (cc h)
first_found request start (step ∷ steps) =
    one_of_both request start step steps (request_matches step.conditions request) (first_matching request (start + 1) steps) refl (first_found request (start + 1) steps)

-- ---- steps of a route

-- the step at a place of a route is that step of all, and conversely
from_route : (conf : Configuration) (first count place index : ℕ) (step : Step) → index ≡ first + place → slice_get (take count (drop first conf.steps)) place ≡ Some step → (index < first + count) × (slice_get conf.steps index ≡ Some step)
from_route conf first count place index step e h =
    let got = got_take (drop first conf.steps) count place step h in
    (omega (arith, e, got.0), sym (got_drop conf.steps first place index e) ∙ got.1)

into_route : (conf : Configuration) (first count place index : ℕ) (step : Step) → index ≡ first + place → index < first + count → slice_get conf.steps index ≡ Some step → slice_get (take count (drop first conf.steps)) place ≡ Some step
into_route conf first count place index step e lt h =
    put_take (drop first conf.steps) count place step (omega (arith, e, lt)) (got_drop conf.steps first place index e ∙ h)

none_of_route : (conf : Configuration) (request : Request) (first count : ℕ) → NoneHolds request (take count (drop first conf.steps)) → TakesNone conf request first count
none_of_route conf request first count none i s from below there =
    let place = i - first in
    none place s (into_route conf first count place i s (omega (arith, from)) below there)

first_of_route : (conf : Configuration) (request : Request) (first count index : ℕ) (step : Step) → IsFirst request first index (take count (drop first conf.steps)) step → Takes conf request first count index step
first_of_route conf request first count index step h =
    let at = from_route conf first count h.place index step h.is h.there in
    record {
      from = omega (arith, h.is);
      below = at.0;
      there = at.1;
      holds = h.holds;
      earlier = λ i s from lt there.
          h.earlier (i - first) s (omega (arith, from, lt, h.is)) (into_route conf first count (i - first) i s (omega (arith, from)) (omega (arith, lt, at.0)) there);
    }

-- what the walk takes of a route
abbrev pub IsTaken : Configuration → Request → ℕ → ℕ → Option (ℕ × Step) → Type 0
IsTaken conf request first count None = TakesNone conf request first count
IsTaken conf request first count (Some taken) = Takes conf request first count taken.0 taken.1

as_taken : (conf : Configuration) (request : Request) (first count : ℕ) (o : Option (ℕ × Step)) → IsFound request first (take count (drop first conf.steps)) o → IsTaken conf request first count o
as_taken conf request first count None h = none_of_route conf request first count h
as_taken conf request first count (Some taken) h = first_of_route conf request first count taken.0 taken.1 h

pub taken_is : (conf : Configuration) (request : Request) (first count : ℕ) → IsTaken conf request first count (step_taken conf request first count)
taken_is conf request first count = as_taken conf request first count (step_taken conf request first count) (first_found request first (take count (drop first conf.steps)))

-- ---- it takes one alone

by_order : {P : Type 0} (i j : ℕ) → (i < j → P) → (i ≡ j → P) → (j < i → P) → P
by_order zero zero f g h = g refl
by_order zero (suc j) f g h = f (omega arith)
by_order (suc i) zero f g h = h (omega arith)
by_order (suc i) (suc j) f g h = by_order i j (λ lt. f (omega arith)) (λ e. g (ap suc e)) (λ lt. h (omega arith))

clash : {P : Type 0} (b : Bool) → b ≡ true → b ≡ false → P
clash b holds fails = absurd (cc (holds, fails))

pub one_taken : (conf : Configuration) (request : Request) (first count index : ℕ) (step : Step) (o : Option (ℕ × Step)) → Takes conf request first count index step → IsTaken conf request first count o → o ≡ Some (index, step)
one_taken conf request first count index step None h none =
    clash (request_matches step.conditions request) h.holds (none index step h.from h.below h.there)
one_taken conf request first count index step (Some (other, s)) h k =
    by_order index other
    (λ lt. clash (request_matches step.conditions request) h.holds (k.earlier index step h.from lt h.there))
    (λ same. let there : slice_get conf.steps index ≡ Some s = ap (slice_get conf.steps) same ∙ k.there in
    let one : step ≡ s = same_step step s (sym h.there ∙ there) in
    cc (same, one))
    (λ lt. clash (request_matches s.conditions request) k.holds (h.earlier other s k.from lt k.there))

pub none_taken : (conf : Configuration) (request : Request) (first count : ℕ) (o : Option (ℕ × Step)) → TakesNone conf request first count → IsTaken conf request first count o → o ≡ None
none_taken conf request first count None none k = refl
none_taken conf request first count (Some taken) none k =
    clash (request_matches taken.1.conditions request) k.holds (none taken.0 taken.1 k.from k.below k.there)
