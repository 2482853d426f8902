-- Where no pass has a `$`, a walk needs no variables.
use Rattle.std.proofs.Common.{◌≡◌, ℕ, zero, suc, ◌+◌, Bool, true, false, cond, List, [], ◌∷◌, map, take, drop, codes, Option, Some, None, IfSome, All, refl, ap, ◌∙◌}
use Rattle.std.proofs.lemmas.List.Elements.{All-cons, All-drop, All-head, All-nil, All-tail, All-take}
use Rattle.std.specs.List.{slice_get}
use Rattle.std.specs.Option.{option_and_then, unwrap_or}
use Rattle.serde_json.specs.Data.{Data, null, boolean, number, string, array, object, Members, no_members, member}
use Rattle.serde_json.specs.Find.{get}
use Rattle.path_normal.proofs.LawLemmas.{plain_text}
use Rattle.unit_types.specs.declared.message.Request.{Request}
use Rattle.conf_validate.specs.declared.conf.Action.{Action}
use Rattle.conf_validate.specs.declared.conf.Action.TheVariants.{Pass, Return}
use Rattle.conf_validate.specs.declared.conf.Goal.{Goal}
use Rattle.conf_validate.specs.declared.conf.Goal.TheVariants.{Application, Route}
use Rattle.conf_validate.specs.declared.conf.Listener.{Listener}
use Rattle.conf_validate.specs.declared.conf.Step.{Step}
use Rattle.conf_validate.specs.Configuration.{Configuration, action_with, configuration_of, goal_named, list_in, listener_of, members_list, members_of, part, step_of, text_in, values_list}
use Rattle.conf_validate.specs.Plain.{HasNoDollar, IsPlain, IsPlainListener, IsPlainStep, member_values}
use Rattle.route_match.specs.declared.walk.Outcome.{Outcome}
use Rattle.route_match.specs.declared.walk.Progress.{Progress}
use Rattle.route_match.specs.declared.walk.Progress.TheVariants.{Ends, Passes}
use Rattle.route_match.specs.Matches.{request_matches}
use Rattle.route_match.specs.Plain.{HasPlainPass, HasPlainPasses, plain_goal_of}
use Rattle.route_match.specs.Target.{advance, at_action, at_step, continued, first_matching, goal_of, listener_for, outcome_by, step_taken, walk, walk_from}

-- ---- what holds of all holds of one that is found

either_step : (P : Step → Type 0) (index : ℕ) (step : Step) (b : Bool) (found : Option (ℕ × Step)) → P step → IfSome found (λ taken. P taken.1) → IfSome (cond b (Some (index, step)) found) (λ taken. P taken.1)
either_step P index step true found here later = here
either_step P index step false found here later = later

matching_has : (P : Step → Type 0) (request : Request) (index : ℕ) (steps : List Step) → All P steps → IfSome (first_matching request index steps) (λ taken. P taken.1)
matching_has P request index [] h = tt
matching_has P request index (step ∷ steps) h =
    either_step P index step (request_matches step.conditions request) (first_matching request (index + 1) steps) (All-head P step steps h) (matching_has P request (index + 1) steps (All-tail P step steps h))

one_of : (P : Listener → Type 0) (ls : List Listener) (index : ℕ) → All P ls → IfSome (slice_get ls index) P
one_of P [] index h = tt
one_of P (l ∷ ls) zero h = All-head P l ls h
one_of P (l ∷ ls) (suc index) h = one_of P ls index (All-tail P l ls h)

some_of : (P : Listener → Type 0) (ls : List Listener) (index : Option ℕ) → All P ls → IfSome (option_and_then (λ i. slice_get ls i) index) P
some_of P ls None h = tt
some_of P ls (Some index) h = one_of P ls index h

-- ---- the walks

abbrev HasPlainListener : Listener → Type 0
HasPlainListener listener = HasNoDollar listener.pass

abbrev HasPlainStep : Step → Type 0
HasPlainStep step = HasPlainPass step.action

module _ (conf : Configuration) (request : Request) (plain : HasPlainPasses conf) where
  same_goal : (pass : List ℕ) → HasNoDollar pass → goal_of conf request pass ≡ plain_goal_of conf pass
  same_goal pass h = ap (λ text. goal_named text conf.destinations) (plain_text pass request h)

  same_action : (index : ℕ) (action : Action) → HasPlainPass action → at_action (goal_of conf request) index action ≡ at_action (plain_goal_of conf) index action
  same_action index (Pass pass) h = ap (λ goal. Passes index goal) (same_goal pass h)
  same_action index (Return status) h = refl

  same_step : (found : Option (ℕ × Step)) → IfSome found (λ taken. HasPlainStep taken.1) → at_step (goal_of conf request) found ≡ at_step (plain_goal_of conf) found
  same_step None h = refl
  same_step (Some taken) h = same_action taken.0 taken.1.action h

  same_advance : (step : Option ℕ) (goal : Option Goal) → advance (goal_of conf request) conf request step goal ≡ advance (plain_goal_of conf) conf request step goal
  same_advance step None = refl
  same_advance step (Some (Application app)) = refl
  same_advance step (Some (Route first count)) =
      same_step (step_taken conf request first count) (matching_has HasPlainStep request first (take count (drop first conf.steps)) (All-take HasPlainStep count (drop first conf.steps) (All-drop HasPlainStep first conf.steps plain.steps)))

  same_continued : (f g : Option ℕ → Option Goal → Outcome) → ((step : Option ℕ) (goal : Option Goal) → f step goal ≡ g step goal) → (progress : Progress) → continued f progress ≡ continued g progress
  same_continued f g h (Ends outcome) = refl
  same_continued f g h (Passes step goal) = h (Some step) goal

  same_walk : (passes : ℕ) (step : Option ℕ) (goal : Option Goal) → walk (goal_of conf request) conf request passes step goal ≡ walk (plain_goal_of conf) conf request passes step goal
  unfolding walk
  same_walk zero step goal = refl
  same_walk (suc more) step goal =
      ap (continued (walk (goal_of conf request) conf request more)) (same_advance step goal)
      ∙ same_continued (walk (goal_of conf request) conf request more) (walk (plain_goal_of conf) conf request more) (same_walk more) (advance (plain_goal_of conf) conf request step goal)

  same_from : (listener : Option Listener) → IfSome listener HasPlainListener → walk_from (goal_of conf request) conf request listener ≡ walk_from (plain_goal_of conf) conf request listener
  same_from None h = refl
  same_from (Some listener) h =
      same_walk 255 None (goal_of conf request listener.pass)
      ∙ ap (walk (plain_goal_of conf) conf request 255 None) (same_goal listener.pass h)

pub same_outcome : (conf : Configuration) (listener : List ℕ) (request : Request) → HasPlainPasses conf → outcome_by (goal_of conf request) conf listener request ≡ outcome_by (plain_goal_of conf) conf listener request
same_outcome conf listener request plain =
    same_from conf request plain (option_and_then (λ index. slice_get conf.listeners index) (listener_for conf listener)) (some_of HasPlainListener conf.listeners (listener_for conf listener) plain.listeners)

-- ---- plain documents

plain_or_nil : (text : Option (List ℕ)) → IfSome text HasNoDollar → HasNoDollar (unwrap_or text [])
plain_or_nil None h = All-nil (λ b. b ≡ 36 → ⊥)
plain_or_nil (Some text) h = h

plain_members : (ms : Members) → All IsPlainListener (values_list ms) → All HasPlainListener (map listener_of (members_list ms))
plain_members no_members h = All-nil HasPlainListener
plain_members (member k d ms) h =
    All-cons HasPlainListener (listener_of (k, d)) (map listener_of (members_list ms))
    (plain_or_nil (text_in (get (codes "pass") d)) (All-head IsPlainListener d (values_list ms) h))
    (plain_members ms (All-tail IsPlainListener d (values_list ms) h))

plain_listeners : (value : Option Data) → All IsPlainListener (list_in member_values value) → All HasPlainListener (map listener_of (list_in members_of value))
plain_listeners None h = All-nil HasPlainListener
plain_listeners (Some null) h = All-nil HasPlainListener
plain_listeners (Some (boolean b)) h = All-nil HasPlainListener
plain_listeners (Some (number n)) h = All-nil HasPlainListener
plain_listeners (Some (string s)) h = All-nil HasPlainListener
plain_listeners (Some (array ds)) h = All-nil HasPlainListener
plain_listeners (Some (object ms)) h = plain_members ms h

plain_action : (pass : Option (List ℕ)) (status : Option ℕ) → IfSome pass HasNoDollar → HasPlainPass (action_with pass status)
plain_action None status h = tt
plain_action (Some pass) status h = h

plain_steps : (ds : List Data) → All IsPlainStep ds → All HasPlainStep (map step_of ds)
plain_steps [] h = All-nil HasPlainStep
plain_steps (d ∷ ds) h =
    All-cons HasPlainStep (step_of d) (map step_of ds)
    (plain_action (text_in (part (codes "pass") (get (codes "action") d))) _ (All-head IsPlainStep d ds h).pass)
    (plain_steps ds (All-tail IsPlainStep d ds h))

pub plain_passes : (document : Data) → IsPlain document → HasPlainPasses (configuration_of document)
plain_passes document plain = record {
  listeners = plain_listeners (get (codes "listeners") document) plain.listeners;
  steps = plain_steps _ plain.steps;
}
