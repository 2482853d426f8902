-- Where a configuration sends a request: a walk over passes, of which the listener's is the first.
use Rattle.std.specs.Prelude.{ℕ, zero, suc, ◌+◌, List, [], ◌∷◌, take, drop, Option, Some, None, option_map, option_and_then, slice_get, if◌then◌else◌}
use Rattle.std.specs.Option.{option_or}
use Rattle.path_normal.specs.Variables.{expansion_of, escaped_expansion_of}
use Rattle.unit_types.specs.declared.message.Request.{Request}
use Rattle.conf_validate.specs.declared.conf.Action.{Action}
use Rattle.conf_validate.specs.declared.conf.Action.TheVariants.{Pass, Return}
use Rattle.conf_validate.specs.declared.conf.Goal.{Goal}
use Rattle.conf_validate.specs.declared.conf.Goal.TheVariants.{Application, Route}
use Rattle.conf_validate.specs.declared.conf.Listener.{Listener}
use Rattle.conf_validate.specs.declared.conf.Step.{Step}
use Rattle.conf_validate.specs.Configuration.{Configuration, goal_named, listener_index, location_at}
use Rattle.conf_validate.specs.Ports.{port_text}
use Rattle.route_match.specs.declared.target.Target.{Target}
use Rattle.route_match.specs.declared.target.Target.TheVariants as target
use Rattle.route_match.specs.declared.walk.Progress.{Progress}
use Rattle.route_match.specs.declared.walk.Progress.TheVariants.{Ends, Passes}
use Rattle.route_match.specs.declared.walk.Outcome.{Outcome}
use Rattle.route_match.specs.Matches.{request_matches}

-- ---- the listener

-- the index of the listener `*:` with this port
abbrev pub any_address_at : Configuration → List ℕ → Option ℕ
any_address_at conf port = listener_index (42 ∷ 58 ∷ port) conf.listeners

-- the index of the listener `*:` with the port of this name, which is what stands behind its last `:`
abbrev pub any_address_for : Configuration → List ℕ → Option ℕ
any_address_for conf name = option_and_then (any_address_at conf) (port_text name)

-- the index of the listener of exactly this name, else of the one named `*:` and the same port
abbrev pub listener_for : Configuration → List ℕ → Option ℕ
listener_for conf name = option_or (listener_index name conf.listeners) (any_address_for conf name)

-- ---- one pass

-- the first step of these whose conditions hold, with its index; that of the first one of these is given
abbrev pub first_matching : Request → ℕ → List Step → Option (ℕ × Step)
first_matching request index [] = None
first_matching request index (step ∷ steps) =
    if request_matches step.conditions request then Some (index, step) else first_matching request (index + 1) steps

-- the step of a route that a request takes
abbrev pub step_taken : Configuration → Request → ℕ → ℕ → Option (ℕ × Step)
step_taken conf request first count = first_matching request first (take count (drop first conf.steps))

-- an end that no step leads to
abbrev pub refused : ℕ → Outcome
refused status = record { target = target.Status status; step = None }

abbrev pub timeout_of : Configuration → ℕ → Option ℕ
timeout_of conf app = option_and_then (λ application. application.timeout) (slice_get conf.applications app)

-- an application, to which the pass of this step leads, or that of the listener
abbrev pub arrived : Configuration → Option ℕ → ℕ → Outcome
arrived conf step app = record { target = target.App app (timeout_of conf app); step = step }

module _ (goal_of : List ℕ → Option Goal) where
  -- what a step does
  abbrev pub at_action : ℕ → Action → Progress
  at_action index (Pass pass) = Passes index (goal_of pass)
  at_action index (Return status) = Ends (record { target = target.Return index status; step = Some index })

  abbrev pub at_step : Option (ℕ × Step) → Progress
  at_step None = Ends (refused 404)
  at_step (Some taken) = at_action taken.0 taken.1.action

  -- what the pass of this step, or of the listener, comes to, by what it names
  abbrev pub advance : Configuration → Request → Option ℕ → Option Goal → Progress
  advance conf request step None = Ends (refused 404)
  advance conf request step (Some (Application app)) = Ends (arrived conf step app)
  advance conf request step (Some (Route first count)) = at_step (step_taken conf request first count)

-- ---- the walk

-- the end that was come to, or what follows from what the next pass names
abbrev pub continued : (Option ℕ → Option Goal → Outcome) → Progress → Outcome
continued next (Ends outcome) = outcome
continued next (Passes step goal) = next (Some step) goal

-- the walk from a pass of this step, or of the listener, by what it names, where so many passes are allowed
unfoldable pub walk : (List ℕ → Option Goal) → Configuration → Request → ℕ → Option ℕ → Option Goal → Outcome
walk goal_of conf request zero step goal = refused 500
walk goal_of conf request (suc more) step goal =
    continued (walk goal_of conf request more) (advance goal_of conf request step goal)

-- the walk from a listener, if there is one; 255 passes are allowed
abbrev pub walk_from : (List ℕ → Option Goal) → Configuration → Request → Option Listener → Outcome
walk_from goal_of conf request None = refused 404
walk_from goal_of conf request (Some listener) = walk goal_of conf request 255 None (goal_of listener.pass)

-- where a listener's requests go, and the step by which they come there, by what a pass names
abbrev pub outcome_by : (List ℕ → Option Goal) → Configuration → List ℕ → Request → Outcome
outcome_by goal_of conf listener request =
    walk_from goal_of conf request (option_and_then (λ index. slice_get conf.listeners index) (listener_for conf listener))

-- what a pass names once its variables have their values
abbrev pub goal_of : Configuration → Request → List ℕ → Option Goal
goal_of conf request pass = goal_named (expansion_of pass request) conf.destinations

abbrev pub outcome_of : Configuration → List ℕ → Request → Outcome
outcome_of conf listener request = outcome_by (goal_of conf request) conf listener request

-- where a request goes
abbrev pub target_of : Configuration → List ℕ → Request → Target
target_of conf listener request = (outcome_of conf listener request).target

-- the step by which it came there, if there is one
abbrev pub last_step_of : Configuration → List ℕ → Request → Option ℕ
last_step_of conf listener request = (outcome_of conf listener request).step

-- ---- the location of a return

-- the text of a step's `location`, each variable's value in its place, escaped
abbrev pub location_of : Configuration → ℕ → Request → Option (List ℕ)
location_of conf step request = option_map (λ text. escaped_expansion_of text request) (location_at conf step)
