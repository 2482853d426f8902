-- Where a request goes if no pass has a variable: each pass is looked up as it stands. A location without one stays.
use Rattle.std.specs.Prelude.{ℕ, List, Option, option_and_then, slice_get, All, IfSome}
use Rattle.unit_types.specs.declared.message.Request.{Request}
use Rattle.conf_validate.specs.declared.conf.Action.{Action}
use Rattle.conf_validate.specs.declared.conf.Action.TheVariants.{Pass, Return}
use Rattle.conf_validate.specs.declared.conf.Goal.{Goal}
use Rattle.conf_validate.specs.declared.conf.Step.{Step}
use Rattle.conf_validate.specs.Configuration.{Configuration, goal_named}
use Rattle.conf_validate.specs.Plain.{HasNoDollar}
use Rattle.route_match.specs.declared.target.Target.{Target}
use Rattle.route_match.specs.Target.{outcome_by}

-- what a pass names as it stands
abbrev pub plain_goal_of : Configuration → List ℕ → Option Goal
plain_goal_of conf pass = goal_named pass conf.destinations

abbrev pub plain_target_of : Configuration → List ℕ → Request → Target
plain_target_of conf listener request = (outcome_by (plain_goal_of conf) conf listener request).target

abbrev pub plain_last_step_of : Configuration → List ℕ → Request → Option ℕ
plain_last_step_of conf listener request = (outcome_by (plain_goal_of conf) conf listener request).step

abbrev pub HasPlainPass : Action → Type 0
HasPlainPass (Pass pass) = HasNoDollar pass
HasPlainPass (Return status) = Unit {0}

-- no pass has a `$`
pub record HasPlainPasses (conf : Configuration) : Type 0 where
  pub listeners : All (λ listener. HasNoDollar listener.pass) conf.listeners
  pub steps : All (λ step. HasPlainPass step.action) conf.steps

-- the text of a step's `location` as it stands
abbrev pub plain_location_of : Configuration → ℕ → Option (List ℕ)
plain_location_of conf step = option_and_then (λ s. s.location) (slice_get conf.steps step)

abbrev pub HasPlainLocation : Step → Type 0
HasPlainLocation step = IfSome step.location HasNoDollar
