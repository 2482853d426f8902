-- What each outcome tells is so.
use Rattle.std.proofs.Common.{◌≡◌, ℕ, zero, suc, Bool, true, false, cond, List, [], ◌∷◌, Option, Some, None, IfSome, All, refl, inl, inr}
use Rattle.std.proofs.lemmas.List.Elements.{All-head, All-tail}
use Rattle.std.specs.List.{slice_get}
use Rattle.std.specs.Option.{option_and_then}
use Rattle.std.specs.Str.{bytes_eq}
use Rattle.unit_types.specs.declared.message.Request.{Request}
use Rattle.conf_validate.specs.declared.conf.Action.{Action}
use Rattle.conf_validate.specs.declared.conf.Action.TheVariants.{Pass, Return}
use Rattle.conf_validate.specs.declared.conf.Destination.{Destination}
use Rattle.conf_validate.specs.declared.conf.Goal.{Goal}
use Rattle.conf_validate.specs.declared.conf.Goal.TheVariants.{Application, Route}
use Rattle.conf_validate.specs.declared.conf.Listener.{Listener}
use Rattle.conf_validate.specs.declared.conf.Step.{Step}
use Rattle.conf_validate.specs.Configuration.{Configuration, goal_named}
use Rattle.conf_validate.specs.Kept.{IsKept, IsThere}
use Rattle.route_match.specs.declared.target.Target.{Target}
use Rattle.route_match.specs.declared.target.Target.TheVariants as target
use Rattle.route_match.specs.declared.walk.Outcome.{Outcome}
use Rattle.route_match.specs.declared.walk.Progress.{Progress}
use Rattle.route_match.specs.declared.walk.Progress.TheVariants as progress
use Rattle.route_match.specs.Target.{advance, at_action, at_step, continued, goal_of, listener_for, outcome_of, step_taken, walk, walk_from}
use Rattle.route_match.specs.There.{IsEnd, IsOutcome, IsTargetThere, PassesTo}
use Rattle.route_match.proofs.StepLemmas.{IsTaken, inside, taken_is}

-- ---- goals

either_goal : (P : Goal → Type 0) (b : Bool) (goal : Goal) (others : Option Goal) → P goal → IfSome others P → IfSome (cond b (Some goal) others) P
either_goal P true goal others here later = here
either_goal P false goal others here later = later

goal_there : (conf : Configuration) (name : List ℕ) (ds : List Destination) → All (λ d. IsThere conf d.goal) ds → IfSome (goal_named name ds) (IsThere conf)
goal_there conf name [] h = tt
goal_there conf name (d ∷ ds) h =
    either_goal (IsThere conf) (bytes_eq d.name name) d.goal (goal_named name ds) (All-head (λ x. IsThere conf x.goal) d ds h) (goal_there conf name ds (All-tail (λ x. IsThere conf x.goal) d ds h))

-- ---- the walk

module _ (conf : Configuration) (request : Request) (kept : IsKept conf) where
  abbrev IsGood : Progress → Type 0
  IsGood (progress.Ends outcome) = IsOutcome conf request outcome
  IsGood (progress.Passes step goal) = PassesTo conf request goal step × IfSome goal (IsThere conf)

  named : (pass : List ℕ) → IfSome (goal_of conf request pass) (IsThere conf)
  named pass = goal_there conf _ conf.destinations kept.destinations

  action_good : (index : ℕ) (step : Step) (act : Action) → slice_get conf.steps index ≡ Some step → step.action ≡ act → IsGood (at_action (goal_of conf request) index act)
  action_good index step (Pass pass) there is = (record { step = step; text = pass; there = there; passes = is; names = refl }, named pass)
  action_good index step (Return status) there is = record {
    there = inside conf.steps index step there;
    by_step = refl;
    status_is = record { step = step; there = there; returns = is };
  }

  step_good : (first count : ℕ) (found : Option (ℕ × Step)) → IsTaken conf request first count found → IsGood (at_step (goal_of conf request) found)
  step_good first count None h = record { by_none = refl; status_is = inl refl }
  step_good first count (Some taken) h = action_good taken.0 taken.1 taken.1.action h.there refl

  advance_good : (step : Option ℕ) (goal : Option Goal) → IfSome step (PassesTo conf request goal) → IfSome goal (IsThere conf) → IsGood (advance (goal_of conf request) conf request step goal)
  advance_good step None by h = record { by_none = refl; status_is = inl refl }
  advance_good step (Some (Application app)) by h = record { there = h; timeout_is = refl; by_pass = by }
  advance_good step (Some (Route first count)) by h = step_good first count (step_taken conf request first count) (taken_is conf request first count)

  goes_good : (next : Option ℕ → Option Goal → Outcome) → ((step : Option ℕ) (goal : Option Goal) → IfSome step (PassesTo conf request goal) → IfSome goal (IsThere conf) → IsOutcome conf request (next step goal)) → (progress : Progress) → IsGood progress → IsOutcome conf request (continued next progress)
  goes_good next h (progress.Ends outcome) good = good
  goes_good next h (progress.Passes step goal) good = h (Some step) goal good.0 good.1

  walk_there : (passes : ℕ) (step : Option ℕ) (goal : Option Goal) → IfSome step (PassesTo conf request goal) → IfSome goal (IsThere conf) → IsOutcome conf request (walk (goal_of conf request) conf request passes step goal)
  unfolding walk
  walk_there zero step goal by h = record { by_none = refl; status_is = inr refl }
  walk_there (suc more) step goal by h =
      goes_good (walk (goal_of conf request) conf request more) (walk_there more) (advance (goal_of conf request) conf request step goal) (advance_good step goal by h)

  from_there : (listener : Option Listener) → IsOutcome conf request (walk_from (goal_of conf request) conf request listener)
  from_there None = record { by_none = refl; status_is = inl refl }
  from_there (Some listener) = walk_there 255 None (goal_of conf request listener.pass) tt (named listener.pass)

pub outcome_there : (conf : Configuration) (listener : List ℕ) (request : Request) → IsKept conf → IsOutcome conf request (outcome_of conf listener request)
outcome_there conf listener request kept =
    from_there conf request kept (option_and_then (λ index. slice_get conf.listeners index) (listener_for conf listener))

end_there : (conf : Configuration) (request : Request) (by : Option ℕ) (t : Target) → IsEnd conf request by t → IsTargetThere conf t
end_there conf request by (target.App app timeout) h = h.there
end_there conf request by (target.Return step status) h = h.there
end_there conf request by (target.Status status) h = tt

pub target_there : (conf : Configuration) (listener : List ℕ) (request : Request) → IsKept conf → IsTargetThere conf (outcome_of conf listener request).target
target_there conf listener request kept =
    end_there conf request (outcome_of conf listener request).step (outcome_of conf listener request).target (outcome_there conf listener request kept)
