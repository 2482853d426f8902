-- Steps of a route one by one, and passes of a walk one by one.
use Rattle.std.proofs.Common.{◌≡◌, ℕ, suc, ◌+◌, ◌-◌, ◌<◌, true, false, cond, List, ◌∷◌, length, take, drop, get_or, Option, Some, refl, sym, ap, ◌∙◌, arith}
use Rattle.std.proofs.lemmas.List.{drop_more, get_or-drop, take_all, length-drop}
use Rattle.std.proofs.lemmas.Option.{slice_get_read}
use Rattle.std.specs.List.{slice_get, slice_range}
use Rattle.unit_types.specs.declared.message.Request.{Request}
use Rattle.conf_validate.specs.declared.conf.Goal.{Goal}
use Rattle.conf_validate.specs.declared.conf.Step.{Step}
use Rattle.conf_validate.specs.Configuration.{Configuration}
use Rattle.route_match.specs.Matches.{request_matches}
use Rattle.route_match.specs.declared.walk.Progress.{Progress}
use Rattle.route_match.specs.Target.{advance, continued, first_matching, refused, walk}

-- ---- steps

-- the step at a place stands in front of those that are left there
left_at : (steps : List Step) (at count : ℕ) (s : Step) → at < length steps → at < count → s ≡ get_or steps at s → take (count - at) (drop at steps) ≡ s ∷ take (count - (at + 1)) (drop (at + 1) steps)
left_at steps at count s within below is =
    let one_more : count - at ≡ suc (count - (at + 1)) = omega arith in
    let front : drop at steps ≡ s ∷ drop (at + 1) steps = drop_more steps at s within ∙ ap (λ x. x ∷ drop (at + 1) steps) (sym is) in
    ap (λ n. take n (drop at steps)) one_more ∙ ap (take (suc (count - (at + 1)))) front

pub matches_here : (request : Request) (steps : List Step) (index at count : ℕ) (s : Step) → at < length steps → at < count → s ≡ get_or steps at s → request_matches s.conditions request ≡ true → first_matching request index (take (count - at) (drop at steps)) ≡ Some (index, s)
matches_here request steps index at count s within below is matches =
    let rest = take (count - (at + 1)) (drop (at + 1) steps) in
    ap (first_matching request index) (left_at steps at count s within below is)
    ∙ ap (λ b. cond b (Some (index, s)) (first_matching request (index + 1) rest)) matches

pub matches_later : (request : Request) (steps : List Step) (index next at count : ℕ) (s : Step) → next ≡ index + 1 → at < length steps → at < count → s ≡ get_or steps at s → request_matches s.conditions request ≡ false → first_matching request index (take (count - at) (drop at steps)) ≡ first_matching request next (take (count - (at + 1)) (drop (at + 1) steps))
matches_later request steps index next at count s e within below is differs =
    let rest = take (count - (at + 1)) (drop (at + 1) steps) in
    ap (first_matching request index) (left_at steps at count s within below is)
    ∙ ap (λ b. cond b (Some (index, s)) (first_matching request (index + 1) rest)) differs
    ∙ ap (λ n. first_matching request n rest) (sym e)

-- the steps from an index on
pub from_index : (all : List Step) (first : ℕ) → slice_range all first (length all) ≡ drop first all
from_index all first = take_all (length all - first) (drop first all) (omega (arith, length-drop first all))

-- a step among those from an index on is one of all
pub among_all : (all steps : List Step) (first at : ℕ) (s : Step) → steps ≡ drop first all → length steps + first ≡ length all → at < length steps → s ≡ get_or steps at s → slice_get all (first + at) ≡ Some s
among_all all steps first at s are size within is =
    slice_get_read all (length all) (first + at) s refl (omega arith) (is ∙ ap (λ l. get_or l at s) are ∙ get_or-drop first all at s)

-- ---- passes

module _ (goal_of : List ℕ → Option Goal) (conf : Configuration) (request : Request) where
  pub goes_on : (left more : ℕ) (step : Option ℕ) (goal : Option Goal) (progress : Progress) → left ≡ suc more → progress ≡ advance goal_of conf request step goal → walk goal_of conf request left step goal ≡ continued (walk goal_of conf request more) progress
  unfolding walk
  goes_on left more step goal progress e is =
      ap (λ n. walk goal_of conf request n step goal) e ∙ ap (continued (walk goal_of conf request more)) (sym is)

  pub ends : (left : ℕ) (step : Option ℕ) (goal : Option Goal) → left ≡ 0 → walk goal_of conf request left step goal ≡ refused 500
  unfolding walk
  ends left step goal e = ap (λ n. walk goal_of conf request n step goal) e
