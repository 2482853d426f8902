-- Where no step rewrites or changes anything, each request is answered as it came.
use Rattle.std.proofs.Common.{◌≡◌, ℕ, zero, suc, nat_lt, List, [], ◌∷◌, Option, Some, None, All, refl, ap, ◌∙◌, if◌then◌else◌}
use Rattle.std.proofs.lemmas.List.Elements.{All-head, All-tail}
use Rattle.std.specs.List.{slice_get}
use Rattle.std.specs.Option.{option_and_then}
use Rattle.unit_types.specs.declared.message.Reply.{Reply}
use Rattle.unit_types.specs.declared.message.Request.{Request}
use Rattle.conf_validate.specs.declared.conf.Step.{Step}
use Rattle.conf_validate.specs.Configuration.{Configuration, changes_at}
use Rattle.conf_validate.specs.Plain.{ChangesNothing}
use Rattle.header_rewrite.specs.ResponseHeaders.{all_changed, fielded_of}
use Rattle.header_rewrite.specs.Rewrite.{rewritten_by, rewritten_of, with_rewrite}
use Rattle.std.specs.Option.{option_map}
use Rattle.route_match.specs.Plain.{plain_location_of, plain_target_of}
use Rattle.route_match.specs.Target.{location_of, outcome_of, target_of}
use Rattle.route_match.specs.declared.target.Target.{Target}
use Rattle.route_match.specs.declared.target.Target.TheVariants.{App, Return, Status}
use Rattle.http_front.specs.Written.{error_reply}
use Rattle.conn_machine.specs.Answers.{Connection, handler_of, location_fields, return_reply, reply_by, reply_to}
use Rattle.conn_machine.specs.Unchanged.{unchanged_reply_by, unchanged_reply_to, plain_reply_by, plain_reply_to}

no_rewrite : (steps : List Step) (index : ℕ) → All ChangesNothing steps → option_and_then (λ s. s.rewrite) (slice_get steps index) ≡ None
no_rewrite [] index none = refl
no_rewrite (s ∷ steps) zero none = (All-head ChangesNothing s steps none).0
no_rewrite (s ∷ steps) (suc index) none = no_rewrite steps index (All-tail ChangesNothing s steps none)

no_changes : (steps : List Step) (index : ℕ) → All ChangesNothing steps → changes_at (slice_get steps index) ≡ []
no_changes [] index none = refl
no_changes (s ∷ steps) zero none = (All-head ChangesNothing s steps none).1
no_changes (s ∷ steps) (suc index) none = no_changes steps index (All-tail ChangesNothing s steps none)

same_request : (conf : Configuration) (by : Option ℕ) (r : Request) → All ChangesNothing conf.steps → rewritten_of conf by r ≡ r
same_request conf None r none = refl
same_request conf (Some index) r none =
    ap (λ text. with_rewrite r (option_map (λ t. rewritten_by t r) text)) (no_rewrite conf.steps index none)

same_reply : (conf : Configuration) (by : Option ℕ) (r : Request) (reply : Reply) → All ChangesNothing conf.steps → fielded_of conf by r reply ≡ reply
same_reply conf None r reply none = refl
same_reply conf (Some index) r reply none =
    ap (λ changes. record reply { fields = all_changed r changes reply.fields }) (no_changes conf.steps index none)

unchanged_by : (c : Connection) (conf : Configuration) (r : Request) (by : Option ℕ) (target : Target) → All ChangesNothing conf.steps
    → reply_by c conf r by target ≡ unchanged_reply_by c conf r target
unchanged_by c conf r by (App app timeout) none =
    same_reply conf by r (c.reply_of (handler_of conf app) (rewritten_of conf by r)) none
    ∙ ap (c.reply_of (handler_of conf app)) (same_request conf by r none)
unchanged_by c conf r by (Return step status) none = same_reply conf by r (return_reply conf step status r) none
unchanged_by c conf r by (Status status) none = refl

pub unchanged_reply : (c : Connection) (conf : Configuration) (r : Request) → All ChangesNothing conf.steps → reply_to c conf r ≡ unchanged_reply_to c conf r
unfolding reply_to
unchanged_reply c conf r none =
    let outcome = outcome_of conf c.listener r in unchanged_by c conf r outcome.step outcome.target none

plain_by : (c : Connection) (conf : Configuration) (r : Request) (target : Target) → ((step : ℕ) → location_of conf step r ≡ plain_location_of conf step)
    → unchanged_reply_by c conf r target ≡ plain_reply_by c conf r target
plain_by c conf r (App app timeout) same = refl
plain_by c conf r (Return step status) same =
    ap (λ location. if nat_lt status 400 then record { status = status; fields = location_fields location; body = [] } else error_reply status) (same step)
plain_by c conf r (Status status) same = refl

pub plain_reply : (c : Connection) (conf : Configuration) (r : Request) → All ChangesNothing conf.steps
    → target_of conf c.listener r ≡ plain_target_of conf c.listener r → ((step : ℕ) → location_of conf step r ≡ plain_location_of conf step)
    → reply_to c conf r ≡ plain_reply_to c conf r
plain_reply c conf r none target location =
    unchanged_reply c conf r none ∙ plain_by c conf r (target_of conf c.listener r) location ∙ ap (plain_reply_by c conf r) target
