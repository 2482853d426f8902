-- Steps that change nothing.
use Rattle.std.proofs.Common.{◌≡◌, ℕ, zero, suc, List, [], ◌∷◌, Option, Some, None, option_map, All, refl, ap}
use Rattle.std.proofs.lemmas.List.Elements.{All-head, All-tail}
use Rattle.std.specs.List.{slice_get}
use Rattle.std.specs.Option.{option_and_then}
use Rattle.conf_validate.specs.declared.conf.Step.{Step}
use Rattle.conf_validate.specs.Configuration.{Configuration, changes_at}
use Rattle.conf_validate.specs.Plain.{ChangesNothing}
use Rattle.unit_types.specs.declared.message.Reply.{Reply}
use Rattle.unit_types.specs.declared.message.Request.{Request}
use Rattle.header_rewrite.specs.Rewrite.{rewrite_of_step, rewritten_by, rewritten_of, with_rewrite}
use Rattle.header_rewrite.specs.ResponseHeaders.{all_changed, changes_of_step, fielded_of}

no_rewrite_at : (steps : List Step) (index : ℕ) → All ChangesNothing steps → option_and_then (λ s. s.rewrite) (slice_get steps index) ≡ None
no_rewrite_at [] index plain = refl
no_rewrite_at (s ∷ steps) zero plain = (All-head ChangesNothing s steps plain).0
no_rewrite_at (s ∷ steps) (suc index) plain = no_rewrite_at steps index (All-tail ChangesNothing s steps plain)

no_change_at : (steps : List Step) (index : ℕ) → All ChangesNothing steps → changes_at (slice_get steps index) ≡ []
no_change_at [] index plain = refl
no_change_at (s ∷ steps) zero plain = (All-head ChangesNothing s steps plain).1
no_change_at (s ∷ steps) (suc index) plain = no_change_at steps index (All-tail ChangesNothing s steps plain)

no_rewrite : (conf : Configuration) (step : Option ℕ) → All ChangesNothing conf.steps → rewrite_of_step conf step ≡ None
no_rewrite conf None plain = refl
no_rewrite conf (Some index) plain = no_rewrite_at conf.steps index plain

no_change : (conf : Configuration) (step : Option ℕ) → All ChangesNothing conf.steps → changes_of_step conf step ≡ []
no_change conf None plain = refl
no_change conf (Some index) plain = no_change_at conf.steps index plain

pub request_stays : (conf : Configuration) (step : Option ℕ) (request : Request) → All ChangesNothing conf.steps → rewritten_of conf step request ≡ request
request_stays conf step request plain =
    ap (λ text. with_rewrite request (option_map (λ t. rewritten_by t request) text)) (no_rewrite conf step plain)

pub reply_stays : (conf : Configuration) (step : Option ℕ) (request : Request) (reply : Reply) → All ChangesNothing conf.steps → fielded_of conf step request reply ≡ reply
reply_stays conf step request reply plain =
    ap (λ changes. record reply { fields = all_changed request changes reply.fields }) (no_change conf step plain)
