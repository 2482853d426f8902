-- A reader of bytes behind which the input ended tells what stands at their front, behind `Continue` where that is due.
use Rattle.std.proofs.Common.{◌≡◌, ℕ, ◌<◌, ◌≤◌, Bool, true, false, ◌&&◌, List, None, if◌then◌else◌, refl, ap, arith}
use Rattle.serde_json.specs.Data.{Data}
use Rattle.http_front.specs.Front.{head_begun}
use Rattle.http_front.specs.NextUnit.{Found, request, bad, cut, finished, wait, NextUnit, next_unit}
use Rattle.http_front.specs.Reading.{Reading, answer_at, behind_unit, kept_limit, limit_or, next_answer, next_reading, reading_of, unit_answer}
use Rattle.http_front.specs.declared.next_unit.Next.{Next}
use Rattle.http_front.specs.declared.next_unit.Next.TheVariants as next
use Rattle.control_api.specs.Control.{content_limit, found_outcome}
use Rattle.control_api.specs.Plans.{IsSoundNext, next_outcome, nowhere}

abbrev pub reading_at_end : List ℕ → Reading
reading_at_end bytes = reading_of nowhere nowhere bytes true

-- ---- the first answer

abbrev first_answer : Bool → Found → Next
first_answer due found = if due && true then next.Continue else answer_at nowhere nowhere found

due_when_told : (due : Bool) (found : Found) → first_answer due found ≡ next.Continue → due ≡ true
due_when_told true found e = refl
due_when_told false (request m used) e = absurd (cc e)
due_when_told false (bad status) e = absurd (cc e)
due_when_told false cut e = absurd (cc e)
due_when_told false finished e = absurd (cc e)
due_when_told false wait e = absurd (cc e)

pub told : (bytes : List ℕ) → next_answer (reading_at_end bytes) content_limit ≡ next.Continue → (next_unit bytes true content_limit).continue_due ≡ true
told bytes e = due_when_told (next_unit bytes true content_limit).continue_due (next_unit bytes true content_limit).found e

pub record IsPlain (bytes : List ℕ) (n : Next) : Type 0 where
  pub due : (next_unit bytes true content_limit).continue_due ≡ false
  pub next : n ≡ answer_at nowhere nowhere (next_unit bytes true content_limit).found

not_told : (due : Bool) (found : Found) (n : Next) → n ≡ first_answer due found → (n ≡ next.Continue → ⊥) → (due ≡ false) × (n ≡ answer_at nowhere nowhere found)
not_told true found n e other = absurd (other e)
not_told false found n e other = (refl, e)

pub plain : (bytes : List ℕ) (n : Next) → n ≡ next_answer (reading_at_end bytes) content_limit → (n ≡ next.Continue → ⊥) → IsPlain bytes n
plain bytes n e other =
    let p = not_told (next_unit bytes true content_limit).continue_due (next_unit bytes true content_limit).found n e other in
    record { due = p.0; next = p.1 }

-- ---- the answer behind `Continue`

abbrev told_reading : List ℕ → Bool → NextUnit → Reading
told_reading bytes begun unit = behind_unit (record (reading_at_end bytes) { limit = kept_limit begun None content_limit }) unit

-- whatever tells the unit of some bytes, the reading is that of the same bytes
abbrev answer_behind : (List ℕ → Bool → ℕ → NextUnit) → Reading → Next
answer_behind units r = unit_answer r (units r.unread r.ended (limit_or r.limit content_limit))

second_answer : (bytes : List ℕ) (begun due : Bool) (found : Found) (units : List ℕ → Bool → ℕ → NextUnit)
    → due ≡ true → units bytes true content_limit ≡ record { continue_due = due; found = found }
    → answer_behind units (told_reading bytes begun (record { continue_due = due; found = found })) ≡ answer_at nowhere nowhere found
second_answer bytes true true found units e u = ap (unit_answer (told_reading bytes true (record { continue_due = true; found = found }))) u
second_answer bytes false true found units e u = ap (unit_answer (told_reading bytes false (record { continue_due = true; found = found }))) u
second_answer bytes begun false found units e u = absurd (cc e)

pub behind_told : (bytes : List ℕ) → (next_unit bytes true content_limit).continue_due ≡ true
    → next_answer (next_reading (reading_at_end bytes) content_limit) content_limit ≡ answer_at nowhere nowhere (next_unit bytes true content_limit).found
behind_told bytes due =
    second_answer bytes (head_begun bytes) (next_unit bytes true content_limit).continue_due (next_unit bytes true content_limit).found next_unit due refl

-- ---- what it means

pub sound_next : (found : Found) → ((status : ℕ) → found ≡ bad status → (400 ≤ status) × (status < 600)) → IsSoundNext (answer_at nowhere nowhere found)
sound_next (request m used) h = tt
sound_next (bad status) h = let p : (400 ≤ status) × (status < 600) = h status refl in omega arith
sound_next cut h = tt
sound_next finished h = tt
sound_next wait h = tt

pub outcome_of_next : (documents : List Data) (names : List (List ℕ)) (found : Found) → next_outcome documents names (answer_at nowhere nowhere found) ≡ found_outcome documents names found
outcome_of_next documents names (request m used) = refl
outcome_of_next documents names (bad status) = refl
outcome_of_next documents names cut = refl
outcome_of_next documents names finished = refl
outcome_of_next documents names wait = refl
