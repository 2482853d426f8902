-- Where a request comes, as a relation over passes with its cases.
use Rattle.std.specs.Prelude.{◌≡◌, ◌<◌, ◌≤◌, ◌+◌, ℕ, zero, suc, List, true, false, Option, Some, None, option_and_then, slice_get}
use Rattle.unit_types.specs.declared.message.Request.{Request}
use Rattle.conf_validate.specs.declared.conf.Action.TheVariants as action
use Rattle.conf_validate.specs.declared.conf.Goal.TheVariants.{Application, Route}
use Rattle.conf_validate.specs.declared.conf.Listener.{Listener}
use Rattle.conf_validate.specs.declared.conf.Step.{Step}
use Rattle.conf_validate.specs.Configuration.{Configuration}
use Rattle.route_match.specs.Matches.{request_matches}
use Rattle.route_match.specs.Target.{arrived, goal_of, listener_for, refused}
use Rattle.route_match.specs.declared.target.Target.TheVariants as target
use Rattle.route_match.specs.declared.walk.Outcome.{Outcome}

-- a request takes this step of a route, which is its first one whose conditions hold
pub record Takes (conf : Configuration) (request : Request) (first count index : ℕ) (step : Step) : Type 0 where
  pub from : first ≤ index
  pub below : index < first + count
  pub there : slice_get conf.steps index ≡ Some step
  pub holds : request_matches step.conditions request ≡ true
  pub earlier : (i : ℕ) (s : Step) → first ≤ i → i < index → slice_get conf.steps i ≡ Some s → request_matches s.conditions request ≡ false

-- the conditions of no step of a route hold
abbrev pub TakesNone : Configuration → Request → ℕ → ℕ → Type 0
TakesNone conf request first count =
    (i : ℕ) (s : Step) → first ≤ i → i < first + count → slice_get conf.steps i ≡ Some s → request_matches s.conditions request ≡ false

-- a request comes to an outcome by a pass of this step, or of the listener, where so many passes are allowed
pub data Comes (conf : Configuration) (request : Request) : ℕ → Option ℕ → List ℕ → Outcome → Type 0 where
  too_many : (step : Option ℕ) (pass : List ℕ) → Comes conf request zero step pass (refused 500)
  to_nothing : (more : ℕ) (step : Option ℕ) (pass : List ℕ) → goal_of conf request pass ≡ None → Comes conf request (suc more) step pass (refused 404)
  to_application : (more : ℕ) (step : Option ℕ) (pass : List ℕ) (app : ℕ) → goal_of conf request pass ≡ Some (Application app) → Comes conf request (suc more) step pass (arrived conf step app)
  to_no_step : (more : ℕ) (step : Option ℕ) (pass : List ℕ) (first count : ℕ) → goal_of conf request pass ≡ Some (Route first count) → TakesNone conf request first count → Comes conf request (suc more) step pass (refused 404)
  to_return : (more : ℕ) (step : Option ℕ) (pass : List ℕ) (first count index status : ℕ) (taken : Step) → goal_of conf request pass ≡ Some (Route first count) → Takes conf request first count index taken → taken.action ≡ action.Return status → Comes conf request (suc more) step pass (record { target = target.Return index status; step = Some index })
  to_pass : (more : ℕ) (step : Option ℕ) (pass : List ℕ) (first count index : ℕ) (taken : Step) (next : List ℕ) (outcome : Outcome) → goal_of conf request pass ≡ Some (Route first count) → Takes conf request first count index taken → taken.action ≡ action.Pass next → Comes conf request more (Some index) next outcome → Comes conf request (suc more) step pass outcome

-- the listener that takes a request, if there is one
abbrev pub listener_at : Configuration → List ℕ → Option Listener
listener_at conf name = option_and_then (λ index. slice_get conf.listeners index) (listener_for conf name)

-- a request to a listener ends with an outcome
pub data Ends (conf : Configuration) (request : Request) (name : List ℕ) (outcome : Outcome) : Type 0 where
  at_no_listener : listener_at conf name ≡ None → outcome ≡ refused 404 → Ends conf request name outcome
  at_listener : (listener : Listener) → listener_at conf name ≡ Some listener → Comes conf request 255 None listener.pass outcome → Ends conf request name outcome
