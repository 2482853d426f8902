-- What is made of what a reader told is what is made of what stands at the front.
use Rattle.std.proofs.Common.{ℕ, ◌≡◌, Bool, List, ◌++◌, refl, ap, ◌∙◌}
use Rattle.serde_json.specs.Data.{Data}
use Rattle.http_front.specs.NextUnit.{Found, request, bad, cut, finished, wait, NextUnit}
use Rattle.http_front.specs.Reading.{answer_at}
use Rattle.http_front.specs.Written.{continue_bytes}
use Rattle.http_front.specs.declared.next_unit.Next.{Next}
use Rattle.http_front.specs.declared.next_unit.Next.TheVariants as next
use Rattle.unit_types.specs.declared.message.Request.{Request}
use Rattle.control_api.specs.Control.{Outcome}
use Rattle.control_api.specs.Plans.{next_outcome, nowhere}
use Rattle.control_status.specs.Status.{status_found, status_next, status_unit}

pub outcome_of_next : (documents : List Data) (names : List (List ℕ)) (counts : List ℕ) (found : Found)
    → status_next documents names counts (answer_at nowhere nowhere found) ≡ status_found documents names counts found
outcome_of_next documents names counts (request m used) = refl
outcome_of_next documents names counts (bad status) = refl
outcome_of_next documents names counts cut = refl
outcome_of_next documents names counts finished = refl
outcome_of_next documents names counts wait = refl

same_next : (documents : List Data) (names : List (List ℕ)) (counts : List ℕ) (found : Found) (n : Next)
    → n ≡ answer_at nowhere nowhere found → status_next documents names counts n ≡ status_found documents names counts found
same_next documents names counts found n is = ap (status_next documents names counts) is ∙ outcome_of_next documents names counts found

pub reply_told : (documents : List Data) (names : List (List ℕ)) (counts : List ℕ) (unit : NextUnit) (due : Bool) (n : Next)
    → due ≡ unit.continue_due → n ≡ answer_at nowhere nowhere unit.found
    → continue_bytes due ++ (status_next documents names counts n).reply ≡ (status_unit documents names counts unit).reply
reply_told documents names counts unit due n is_due is =
    ap (λ (d : Bool). continue_bytes d ++ (status_next documents names counts n).reply) is_due
    ∙ ap (λ (o : Outcome). continue_bytes unit.continue_due ++ o.reply) (same_next documents names counts unit.found n is)

pub documents_told : (documents : List Data) (names : List (List ℕ)) (counts : List ℕ) (unit : NextUnit) (n : Next)
    → n ≡ answer_at nowhere nowhere unit.found
    → (status_next documents names counts n).documents ≡ (status_unit documents names counts unit).documents
documents_told documents names counts unit n is =
    ap (λ (o : Outcome). o.documents) (same_next documents names counts unit.found n is)

-- what is no request is answered as ever
pub others_told : (documents : List Data) (names : List (List ℕ)) (counts : List ℕ) (n : Next) → ((r : Request) → n ≡ next.Request r → ⊥)
    → status_next documents names counts n ≡ next_outcome documents names n
others_told documents names counts (next.Request r) other = absurd (other r refl)
others_told documents names counts next.Continue other = refl
others_told documents names counts next.NeedMore other = refl
others_told documents names counts (next.Bad status) other = refl
others_told documents names counts next.End other = refl
others_told documents names counts next.Cut other = refl
