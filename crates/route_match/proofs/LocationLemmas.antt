-- Where no location has a `$`, each stays as it is.
use Rattle.std.proofs.Common.{◌≡◌, ℕ, zero, suc, List, [], ◌∷◌, map, Option, Some, None, option_map, IfSome, All, refl, ap, ◌∙◌}
use Rattle.std.proofs.lemmas.List.Elements.{All-cons, All-head, All-nil, All-tail}
use Rattle.std.specs.List.{flat_map, slice_get}
use Rattle.std.specs.Option.{option_and_then}
use Rattle.serde_json.specs.Data.{Data}
use Rattle.path_normal.proofs.PieceLemmas.{pieces_at_byte}
use Rattle.path_normal.specs.Variables.{escaped, escaped_expansion_of, expansion_with, piece_value, variable_value}
use Rattle.unit_types.specs.declared.message.Request.{Request}
use Rattle.conf_validate.specs.declared.conf.Step.{Step}
use Rattle.conf_validate.specs.Configuration.{Configuration, configuration_of, step_of}
use Rattle.conf_validate.specs.Plain.{HasNoDollar, IsPlain, IsPlainStep}
use Rattle.route_match.specs.Plain.{HasPlainLocation, plain_location_of}
use Rattle.route_match.specs.Target.{location_of}

plain_with : (value : List ℕ → List ℕ) (text : List ℕ) → HasNoDollar text → expansion_with value text ≡ text
plain_with value [] none = refl
plain_with value (b ∷ bs) none =
    ap (flat_map (piece_value value)) (pieces_at_byte b bs (All-head (λ c. c ≡ 36 → ⊥) b bs none))
    ∙ ap (λ x. b ∷ x) (plain_with value bs (All-tail (λ c. c ≡ 36 → ⊥) b bs none))

stays : (location : Option (List ℕ)) (request : Request) → IfSome location HasNoDollar → option_map (λ text. escaped_expansion_of text request) location ≡ location
stays None request h = refl
stays (Some text) request h = ap (λ t. Some t) (plain_with (λ name. escaped (variable_value request name)) text h)

location_at : (steps : List Step) (index : ℕ) → All HasPlainLocation steps → IfSome (option_and_then (λ s. s.location) (slice_get steps index)) HasNoDollar
location_at [] index h = tt
location_at (s ∷ steps) zero h = All-head HasPlainLocation s steps h
location_at (s ∷ steps) (suc index) h = location_at steps index (All-tail HasPlainLocation s steps h)

pub same_location : (conf : Configuration) (step : ℕ) (request : Request) → All HasPlainLocation conf.steps → location_of conf step request ≡ plain_location_of conf step
same_location conf step request plain = stays (plain_location_of conf step) request (location_at conf.steps step plain)

plain_steps : (ds : List Data) → All IsPlainStep ds → All HasPlainLocation (map step_of ds)
plain_steps [] h = All-nil HasPlainLocation
plain_steps (d ∷ ds) h =
    All-cons HasPlainLocation (step_of d) (map step_of ds) (All-head IsPlainStep d ds h).location (plain_steps ds (All-tail IsPlainStep d ds h))

pub plain_locations : (document : Data) → IsPlain document → All HasPlainLocation (configuration_of document).steps
plain_locations document plain = plain_steps _ plain.steps
