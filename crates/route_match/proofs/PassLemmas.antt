-- The walk over passes is what the relation over passes says.
use Rattle.std.proofs.Common.{◌≡◌, ℕ, zero, suc, List, Option, Some, None, refl, sym, ap, ◌∙◌}
use Rattle.unit_types.specs.declared.message.Request.{Request}
use Rattle.conf_validate.specs.declared.conf.Action.{Action}
use Rattle.conf_validate.specs.declared.conf.Action.TheVariants as action
use Rattle.conf_validate.specs.declared.conf.Goal.{Goal}
use Rattle.conf_validate.specs.declared.conf.Goal.TheVariants.{Application, Route}
use Rattle.conf_validate.specs.declared.conf.Listener.{Listener}
use Rattle.conf_validate.specs.declared.conf.Step.{Step}
use Rattle.conf_validate.specs.Configuration.{Configuration}
use Rattle.route_match.specs.Passes.{Comes, Ends, Takes, at_listener, at_no_listener, listener_at, to_application, to_no_step, to_nothing, to_pass, to_return, too_many}
use Rattle.route_match.specs.Target.{advance, at_action, at_step, continued, goal_of, outcome_of, refused, step_taken, walk, walk_from}
use Rattle.route_match.specs.declared.walk.Outcome.{Outcome}
use Rattle.route_match.proofs.StepLemmas.{IsTaken, none_taken, one_taken, taken_is}

module _ (conf : Configuration) (request : Request) where
  abbrev go : ℕ → Option ℕ → Option Goal → Outcome
  go n step goal = walk (goal_of conf request) conf request n step goal

  abbrev named : List ℕ → Option Goal
  named pass = goal_of conf request pass

  -- ---- it is so

  by_action : (more : ℕ) (step : Option ℕ) (pass : List ℕ) (first count index : ℕ) (taken : Step) (act : Action) → named pass ≡ Some (Route first count) → Takes conf request first count index taken → taken.action ≡ act
      → ((s : Option ℕ) (p : List ℕ) → Comes conf request more s p (go more s (named p)))
      → Comes conf request (suc more) step pass (continued (go more) (at_action (goal_of conf request) index act))
  by_action more step pass first count index taken (action.Pass next) goal takes is rest =
      to_pass more step pass first count index taken next (go more (Some index) (named next)) goal takes is (rest (Some index) next)
  by_action more step pass first count index taken (action.Return status) goal takes is rest =
      to_return more step pass first count index status taken goal takes is

  by_step : (more : ℕ) (step : Option ℕ) (pass : List ℕ) (first count : ℕ) (found : Option (ℕ × Step)) → named pass ≡ Some (Route first count) → IsTaken conf request first count found
      → ((s : Option ℕ) (p : List ℕ) → Comes conf request more s p (go more s (named p)))
      → Comes conf request (suc more) step pass (continued (go more) (at_step (goal_of conf request) found))
  by_step more step pass first count None goal taken rest = to_no_step more step pass first count goal taken
  by_step more step pass first count (Some found) goal taken rest =
      by_action more step pass first count found.0 found.1 found.1.action goal taken refl rest

  by_goal : (more : ℕ) (step : Option ℕ) (pass : List ℕ) (goal : Option Goal) → named pass ≡ goal
      → ((s : Option ℕ) (p : List ℕ) → Comes conf request more s p (go more s (named p)))
      → Comes conf request (suc more) step pass (continued (go more) (advance (goal_of conf request) conf request step goal))
  by_goal more step pass None e rest = to_nothing more step pass e
  by_goal more step pass (Some (Application app)) e rest = to_application more step pass app e
  by_goal more step pass (Some (Route first count)) e rest =
      by_step more step pass first count (step_taken conf request first count) e (taken_is conf request first count) rest

  walk_comes : (n : ℕ) (step : Option ℕ) (pass : List ℕ) → Comes conf request n step pass (go n step (named pass))
  unfolding walk
  walk_comes zero step pass = too_many step pass
  walk_comes (suc more) step pass = by_goal more step pass (named pass) refl (walk_comes more)

  -- ---- and nothing else is

  went_on : (more : ℕ) (step : Option ℕ) (goal : Option Goal) → go (suc more) step goal ≡ continued (go more) (advance (goal_of conf request) conf request step goal)
  unfolding walk
  went_on more step goal = refl

  stopped : (step : Option ℕ) (goal : Option Goal) → go 0 step goal ≡ refused 500
  unfolding walk
  stopped step goal = refl

  -- one pass by what it names
  onward : (more : ℕ) (step : Option ℕ) (pass : List ℕ) (goal : Option Goal) → named pass ≡ goal → go (suc more) step (named pass) ≡ continued (go more) (advance (goal_of conf request) conf request step goal)
  onward more step pass goal e = went_on more step (named pass) ∙ ap (λ g. continued (go more) (advance (goal_of conf request) conf request step g)) e

  by_route : (more : ℕ) (step : Option ℕ) (pass : List ℕ) (first count : ℕ) (found : Option (ℕ × Step)) → named pass ≡ Some (Route first count) → step_taken conf request first count ≡ found → go (suc more) step (named pass) ≡ continued (go more) (at_step (goal_of conf request) found)
  by_route more step pass first count found e is =
      onward more step pass (Some (Route first count)) e ∙ ap (λ f. continued (go more) (at_step (goal_of conf request) f)) is

  one_outcome : (n : ℕ) (step : Option ℕ) (pass : List ℕ) (outcome : Outcome) → Comes conf request n step pass outcome → outcome ≡ go n step (named pass)
  one_outcome zero step pass outcome (too_many s p) = sym (stopped step (named pass))
  one_outcome (suc more) step pass outcome (to_nothing m s p goal) = sym (onward more step pass None goal)
  one_outcome (suc more) step pass outcome (to_application m s p app goal) = sym (onward more step pass (Some (Application app)) goal)
  one_outcome (suc more) step pass outcome (to_no_step m s p first count goal none) =
      sym (by_route more step pass first count None goal (none_taken conf request first count (step_taken conf request first count) none (taken_is conf request first count)))
  one_outcome (suc more) step pass outcome (to_return m s p first count index status taken goal takes is) =
      let found = one_taken conf request first count index taken (step_taken conf request first count) takes (taken_is conf request first count) in
      sym (by_route more step pass first count (Some (index, taken)) goal found ∙ ap (λ a. continued (go more) (at_action (goal_of conf request) index a)) is)
  one_outcome (suc more) step pass outcome (to_pass m s p first count index taken next o goal takes is rest) =
      let found = one_taken conf request first count index taken (step_taken conf request first count) takes (taken_is conf request first count) in
      one_outcome more (Some index) next outcome rest
      ∙ sym (by_route more step pass first count (Some (index, taken)) goal found ∙ ap (λ a. continued (go more) (at_action (goal_of conf request) index a)) is)

-- ---- from the listener

ends_by : (conf : Configuration) (request : Request) (name : List ℕ) (listener : Option Listener) → listener_at conf name ≡ listener → Ends conf request name (walk_from (goal_of conf request) conf request listener)
ends_by conf request name None e = at_no_listener e refl
ends_by conf request name (Some listener) e = at_listener listener e (walk_comes conf request 255 None listener.pass)

pub outcome_ends : (conf : Configuration) (name : List ℕ) (request : Request) → Ends conf request name (outcome_of conf name request)
outcome_ends conf name request = ends_by conf request name (listener_at conf name) refl

pub one_end : (conf : Configuration) (name : List ℕ) (request : Request) (outcome : Outcome) → Ends conf request name outcome → outcome ≡ outcome_of conf name request
one_end conf name request outcome (at_no_listener e is) = is ∙ sym (ap (walk_from (goal_of conf request) conf request) e)
one_end conf name request outcome (at_listener listener e comes) =
    one_outcome conf request 255 None listener.pass outcome comes ∙ sym (ap (walk_from (goal_of conf request) conf request) e)
