-- What a valid document promises of its configuration.
use Rattle.std.specs.Prelude.{◌≡◌, ℕ, List, codes, None, All, IsTrue}
use Rattle.std.specs.List.{Contains}
use Rattle.std.specs.Option.{is_some}
use Rattle.serde_json.specs.Data.{Data}
use Rattle.serde_json.specs.Find.{get}
use Rattle.conf_validate.specs.Configuration.{Configuration, part, plain_goal}
use Rattle.conf_validate.specs.Plain.{HasNoDollar, steps_in}

-- a pass without `$` has its goal in the configuration
abbrev pub HasGoal : Configuration → List ℕ → Type 0
HasGoal conf pass = HasNoDollar pass → IsTrue (is_some (plain_goal conf pass))

-- each application has one of these handlers
abbrev pub AsksOnlyFor : List (List ℕ) → Configuration → Type 0
AsksOnlyFor handlers conf = All (λ a. Contains handlers a.handler) conf.applications

-- a step of a document without `rewrite` and `response_headers`
pub record HasNoChange (step : Data) : Type 0 where
  pub rewrite : part (codes "rewrite") (get (codes "action") step) ≡ None
  pub response_headers : part (codes "response_headers") (get (codes "action") step) ≡ None

-- no step of the document has a `rewrite` or `response_headers`; `$` is allowed
abbrev pub HasNoChanges : Data → Type 0
HasNoChanges document = All HasNoChange (steps_in document)
