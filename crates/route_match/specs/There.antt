-- What an outcome tells of its configuration.
use Rattle.std.specs.Prelude.{◌≡◌, ◌<◌, ◌⊎◌, ℕ, List, length, slice_get, Option, Some, None, IfSome}
use Rattle.conf_validate.specs.Configuration.{Configuration}
use Rattle.conf_validate.specs.declared.conf.Action.TheVariants as action
use Rattle.unit_types.specs.declared.message.Request.{Request}
use Rattle.conf_validate.specs.declared.conf.Goal.{Goal}
use Rattle.conf_validate.specs.declared.conf.Goal.TheVariants.{Application}
use Rattle.conf_validate.specs.declared.conf.Step.{Step}
use Rattle.route_match.specs.Target.{goal_of, timeout_of}
use Rattle.route_match.specs.declared.target.Target.{Target}
use Rattle.route_match.specs.declared.target.Target.TheVariants.{App, Return, Status}
use Rattle.route_match.specs.declared.walk.Outcome.{Outcome}

-- the application or the step of a target is one of the configuration
abbrev pub IsTargetThere : Configuration → Target → Type 0
IsTargetThere conf (App app timeout) = app < length conf.applications
IsTargetThere conf (Return step status) = step < length conf.steps
IsTargetThere conf (Status status) = Unit {0}

-- the step of this index is there, and passes to what is named so for this request
pub record PassesTo (conf : Configuration) (request : Request) (goal : Option Goal) (index : ℕ) : Type 0 where
  pub step : Step
  pub text : List ℕ
  pub there : slice_get conf.steps index ≡ Some step
  pub passes : step.action ≡ action.Pass text
  pub names : goal_of conf request text ≡ goal

-- the step of this index is there, and returns this status
pub record Returns (conf : Configuration) (index status : ℕ) : Type 0 where
  pub step : Step
  pub there : slice_get conf.steps index ≡ Some step
  pub returns : step.action ≡ action.Return status

-- the application is there and has this timeout, and the step, where there is one, passes to it
pub record IsArrival (conf : Configuration) (request : Request) (by : Option ℕ) (app : ℕ) (timeout : Option ℕ) : Type 0 where
  pub there : app < length conf.applications
  pub timeout_is : timeout ≡ timeout_of conf app
  pub by_pass : IfSome by (PassesTo conf request (Some (Application app)))

-- the step returns this status, and the request came by it
pub record IsAnswer (conf : Configuration) (by : Option ℕ) (step status : ℕ) : Type 0 where
  pub there : step < length conf.steps
  pub by_step : by ≡ Some step
  pub status_is : Returns conf step status

-- the status of a request that came to nothing, by no step
pub record IsRefusal (by : Option ℕ) (status : ℕ) : Type 0 where
  pub by_none : by ≡ None
  pub status_is : (status ≡ 404) ⊎ (status ≡ 500)

abbrev pub IsEnd : Configuration → Request → Option ℕ → Target → Type 0
IsEnd conf request by (App app timeout) = IsArrival conf request by app timeout
IsEnd conf request by (Return step status) = IsAnswer conf by step status
IsEnd conf request by (Status status) = IsRefusal by status

-- what an outcome tells is so
abbrev pub IsOutcome : Configuration → Request → Outcome → Type 0
IsOutcome conf request outcome = IsEnd conf request outcome.step outcome.target
