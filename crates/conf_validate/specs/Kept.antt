-- What each configuration keeps: the ranges of its numbers, the forms of its texts, the order of its names, and that what
-- can be named is there.
use Rattle.std.specs.Prelude.{◌≡◌, ℕ, ◌+◌, ◌<◌, ◌≤◌, List, [], ◌∷◌, length, map, All, Option, IfSome, IsTrue}
use Rattle.unit_types.specs.Limits.{content_limit_max}
use Rattle.unit_types.specs.Names.{AscendsBy}
use Rattle.conf_validate.specs.Configuration.{Configuration, action_goal, plain_goal}
use Rattle.conf_validate.specs.Forms.{has_variables, is_header_name, is_location, is_log_format, is_rewrite, is_text_pattern}
use Rattle.conf_validate.specs.declared.conf.Action.{Action}
use Rattle.conf_validate.specs.declared.conf.Action.TheVariants.{Pass, Return}
use Rattle.conf_validate.specs.declared.conf.Application.{Application}
use Rattle.conf_validate.specs.declared.conf.Goal.{Goal}
use Rattle.conf_validate.specs.declared.conf.Goal.TheVariants as goal
use Rattle.conf_validate.specs.declared.conf.Step.{Step}
use Rattle.conf_validate.specs.declared.matching.Match.{Match}
use Rattle.conf_validate.specs.declared.matching.NamedPatterns.{NamedPatterns}

abbrev pub IsShort : List ℕ → Type 0
IsShort name = length name ≤ 255

abbrev pub IsTimeout : ℕ → Type 0
IsTimeout seconds = (1 ≤ seconds) × (seconds ≤ 86400)

pub record IsKeptApplication (application : Application) : Type 0 where
  pub handler : IsShort application.handler
  pub timeout : IfSome application.timeout IsTimeout

-- ---- steps

-- each `$` of a pass begins a variable, of which it has at most 4
abbrev pub IsPassText : List ℕ → Type 0
IsPassText text = IsTrue (has_variables [] 4 text)

abbrev pub IsKeptAction : Action → Type 0
IsKeptAction (Pass text) = IsPassText text
IsKeptAction (Return status) = status ≤ 999

abbrev pub ArePatterns : List (List ℕ) → Type 0
ArePatterns texts = All (λ text. IsTrue (is_text_pattern text)) texts

abbrev pub AreSets : List (List NamedPatterns) → Type 0
AreSets sets = All (λ set. All (λ named. ArePatterns named.patterns) set) sets

pub record IsKeptMatch (conditions : Match) : Type 0 where
  pub uri : IfSome conditions.uri ArePatterns
  pub host : IfSome conditions.host ArePatterns
  pub method : IfSome conditions.method ArePatterns
  pub scheme : IfSome conditions.scheme ArePatterns
  pub query : IfSome conditions.query ArePatterns
  pub arguments : IfSome conditions.arguments AreSets
  pub cookies : IfSome conditions.cookies AreSets
  pub headers : IfSome conditions.headers AreSets

pub record IsKeptStep (step : Step) : Type 0 where
  pub conditions : IsKeptMatch step.conditions
  pub action : IsKeptAction step.action
  pub location : IfSome step.location (λ text. IsTrue (is_location text))
  pub rewrite : IfSome step.rewrite (λ text. IsTrue (is_rewrite text))
  pub changes : All (λ change. IfSome change.1 (λ text. IsTrue (is_location text))) step.changes
  pub field_names : All (λ change. IsTrue (is_header_name change.0)) step.changes
  pub field_order : AscendsBy (λ change. change.0) step.changes

-- ---- the whole

-- what the goal leads to is there
abbrev pub IsThere : Configuration → Goal → Type 0
IsThere conf (goal.Application app) = app < length conf.applications
IsThere conf (goal.Route first count) = first + count ≤ length conf.steps

pub record IsKept (conf : Configuration) : Type 0 where
  pub applications : All IsKeptApplication conf.applications
  pub application_names : AscendsBy (λ a. a.name) conf.applications
  pub listeners : All (λ l. IsPassText l.pass) conf.listeners
  pub listener_names : AscendsBy (λ l. l.name) conf.listeners
  pub destinations : All (λ d. IsThere conf d.goal) conf.destinations
  pub destination_names : AscendsBy (λ d. d.name) conf.destinations
  pub steps : All IsKeptStep conf.steps
  pub max_body : conf.max_body ≤ content_limit_max
  pub log_format : IfSome conf.log_format (λ text. IsTrue (is_log_format text))

-- a configuration, and where the passes of its listeners and steps lead
pub record IsCompiled (conf : Configuration) (of_listeners of_steps : List (Option Goal)) : Type 0 where
  pub kept : IsKept conf
  pub listener_goals : of_listeners ≡ map (λ l. plain_goal conf l.pass) conf.listeners
  pub step_goals : of_steps ≡ map (λ s. action_goal conf s.action) conf.steps
