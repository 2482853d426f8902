-- A trace is legal exactly where its lines say steps of which each is enabled in its turn.
use Rattle.std.proofs.Common.{◌≡◌, ◌≢◌, ◌∙◌, ◌⊎◌, ⊎_elim, inl, inr, ℕ, ◌+◌, ◌<◌, ◌==◌, ◌&&◌, nat_le, Bool, true, false, if◌then◌else◌, List, [], ◌∷◌, length, refl, sym, ap, subst, arith}
use Rattle.std.specs.Prelude.{Option, Some, None, bytes_eq, codes, option_and_then}
use Rattle.std.proofs.lemmas.Bool.{leb-false, lt-leb, ne_eqb}
use Rattle.std.proofs.lemmas.Slice.Eq.{bytes_eq-Decides}
use Rattle.trace_check.specs.Lines.{kind_of, rest_of_shape, shape_of, step_of, step_with, u32_limit}
use Rattle.trace_check.specs.Numbers.{cut, first_number}
use Rattle.trace_check.specs.Traces.{IsLegal, IsWhole, Say, SayShape, SaySteps}
use Rattle.trace_check.specs.Verdicts.{Line, Passed, and_then, before_lines, beginning, decided, decides, going, is_valid, legal, lines_of, on_line, on_rest, on_shape, on_step, on_unmet, pass, passes, plain_shape, standing_after, tally_of, verdict_at, verdict_of}
use Rattle.trace_check.specs.declared.verdict.Tally.{Tally}
use Rattle.trace_check.specs.declared.verdict.Verdict.TheVariants.{Broken}
use Rattle.unit_model.specs.Conditions.{first_unmet}
use Rattle.unit_model.specs.Effects.{after_step}
use Rattle.unit_model.specs.Opening.{opened_core}
use Rattle.unit_model.specs.Running.{AllEnabled, after_steps}
use Rattle.unit_model.specs.declared.machine.Core.{Core}
use Rattle.unit_model.specs.declared.machine.Step.{Step}
use Rattle.unit_model.specs.declared.machine.Unmet.{Unmet}
use Rattle.unit_model.specs.declared.shape.Shape.{Shape}

-- ---- a line that says a step says no shape

same_shape : (name : List ℕ) → bytes_eq name (codes "shape") ≡ true → name ≡ codes "shape"
same_shape name e = (bytes_eq-Decides name (codes "shape")).0 e

named : (name : List ℕ) (b : Bool) → bytes_eq name (codes "shape") ≡ b → (kind_of name ≡ None) ⊎ (b ≡ false)
unfolding kind_of
named name true e = inl (ap kind_of (same_shape name e))
named name false e = inr refl

with_parts : (o : Option (List ℕ × List ℕ)) (step : Step)
    → option_and_then (λ parts. option_and_then (λ kind. step_with kind parts.1) (kind_of parts.0)) o ≡ Some step
    → option_and_then (λ parts. option_and_then (λ items. option_and_then (λ back. rest_of_shape items.0 back.0 back.1) (first_number u32_limit items.1)) (if bytes_eq parts.0 (codes "shape") then first_number u32_limit parts.1 else None)) o ≡ None
with_parts None step e = absurd (cc e)
with_parts (Some parts) step e =
    ⊎_elim
    (λ (none : kind_of parts.0 ≡ None). let bad : option_and_then (λ kind. step_with kind parts.1) None ≡ Some step = rw none at e in absurd (cc bad))
    (λ (other : bytes_eq parts.0 (codes "shape") ≡ false). rw other refl)
    (named parts.0 (bytes_eq parts.0 (codes "shape")) refl)

no_shape : (text : List ℕ) (step : Step) → step_of text ≡ Some step → shape_of text ≡ None
unfolding step_of shape_of
no_shape text step e = with_parts (cut text) step e

-- ---- what a line comes to

short_line : (at : Passed) (text : List ℕ) → length text < 256 → on_line at text ≡ on_shape at text (shape_of text)
short_line at text short = rw (lt-leb 256 (length text) short) refl

-- after a line that says an enabled step
abbrev pub stepped : Passed → List ℕ → Step → Passed
stepped at text step = record { core = after_step at.core step; steps = at.steps + 1; lines = at.lines + 1; place = at.place + (length text + 1) }

step_line_passes : (at : Passed) (text : List ℕ) (step : Step) → length text < 256 → step_of text ≡ Some step → first_unmet at.core step ≡ None
    → on_line at text ≡ passes (stepped at text step)
step_line_passes at text step short says met =
    short_line at text short ∙ ap (on_shape at text) (no_shape text step says) ∙ ap (on_step at text) says ∙ ap (on_unmet at text step) met

-- steps that are enabled in their turn pass
run_on : (lines : List Line) (steps : List Step) (at : Passed) → SaySteps lines steps → AllEnabled at.core steps
    → verdict_at (standing_after at lines) ≡ legal (at.steps + length steps) (tally_of (after_steps at.core steps))
run_on [] [] at says met = ap (λ n. legal n (tally_of at.core)) (let e : at.steps ≡ at.steps + 0 = omega arith in e)
run_on [] (step ∷ steps) at says met = absurd says
run_on (line ∷ lines) [] at says met = absurd says
run_on (line ∷ lines) (step ∷ steps) at says met =
    let next = stepped at line.text step in
    let passed = step_line_passes at line.text step says.0.1 says.1 met.0 in
    let front : standing_after at (line ∷ lines) ≡ standing_after next lines =
    ap (λ b. if b then and_then (on_line at line.text) (λ p. standing_after p lines) else on_rest at line.text) says.0.0
    ∙ ap (λ j. and_then j (λ p. standing_after p lines)) passed in
    let count : (at.steps + 1) + length steps ≡ at.steps + length (step ∷ steps) = omega arith in
    ap verdict_at front ∙ run_on lines steps next says.2 met.1 ∙ ap (λ n. legal n (tally_of (after_steps (after_step at.core step) steps))) count

from_none : (n : ℕ) (tally : Tally) → legal (0 + n) tally ≡ legal n tally
from_none n tally = ap (λ m. legal m tally) (let e : 0 + n ≡ n = omega arith in e)

shape_first : (lines : List Line) (shape : Shape) (steps : List Step) → SayShape lines shape steps → AllEnabled (opened_core shape) steps
    → verdict_at (standing_after beginning lines) ≡ legal (length steps) (tally_of (after_steps (opened_core shape) steps))
shape_first [] shape steps says met = absurd says
shape_first (line ∷ lines) shape steps says met =
    let next : Passed = record { core = opened_core shape; steps = 0; lines = 1; place = 0 + (length line.text + 1) } in
    let passed : on_line beginning line.text ≡ passes next =
    short_line beginning line.text says.0.1 ∙ ap (on_shape beginning line.text) says.1 ∙ ap (λ b. if b then passes next else decides (Broken 0)) says.2 in
    let front : standing_after beginning (line ∷ lines) ≡ standing_after next lines =
    ap (λ b. if b then and_then (on_line beginning line.text) (λ p. standing_after p lines) else on_rest beginning line.text) says.0.0
    ∙ ap (λ j. and_then j (λ p. standing_after p lines)) passed in
    ap verdict_at front ∙ run_on lines steps next says.3 met ∙ from_none (length steps) (tally_of (after_steps (opened_core shape) steps))

pub said_legal : (bytes : List ℕ) (shape : Shape) (steps : List Step) → Say (lines_of bytes) shape steps → AllEnabled (opened_core shape) steps
    → verdict_of bytes ≡ legal (length steps) (tally_of (after_steps (opened_core shape) steps))
said_legal bytes shape steps (inl says) met =
    let P : Shape → Type 0 = λ s. AllEnabled (opened_core s) steps in
    run_on (lines_of bytes) steps beginning says.1 (subst P says.0 met)
    ∙ from_none (length steps) (tally_of (after_steps (opened_core plain_shape) steps))
    ∙ ap (λ s. legal (length steps) (tally_of (after_steps (opened_core s) steps))) (sym says.0)
said_legal bytes shape steps (inr says) met = shape_first (lines_of bytes) shape steps says met

-- ---- a legal verdict comes of steps

-- a line that isn't ended has some text
abbrev pub Formed : List Line → Type 0
Formed [] = Unit {0}
Formed (line ∷ lines) = ((line.is_ended ≡ false) → (line.text ≢ [])) × Formed lines

formed_before : (b : ℕ) (lines : List Line) → Formed lines → Formed (before_lines b lines)
formed_before b [] formed = ((λ e z. absurd (cc z)), tt)
formed_before b (line ∷ lines) formed = ((λ e z. absurd (cc z)), formed.1)

formed_next : (b : Bool) (byte : ℕ) (lines : List Line) → Formed lines → Formed (if b then (record { text = []; is_ended = true }) ∷ lines else before_lines byte lines)
formed_next true byte lines formed = ((λ (e : true ≡ false). absurd (cc e)), formed)
formed_next false byte lines formed = formed_before byte lines formed

formed : (bytes : List ℕ) → Formed (lines_of bytes)
formed [] = tt
formed (b ∷ bs) = formed_next (b == 10) b (lines_of bs) (formed bs)

-- what comes of steps: the lines say them, and each is enabled in its turn
abbrev pub Comes : List Line → Core → Type 0
Comes lines core = (steps : List Step) × SaySteps lines steps × AllEnabled core steps

rest_illegal : (at : Passed) (text : List ℕ) (b : Bool) → (text ≢ []) → IsLegal (verdict_at (if b then decided (Broken at.place) else going at text)) → ⊥
rest_illegal at text true some legal = legal
rest_illegal at [] false some legal = some refl
rest_illegal at (x ∷ xs) false some legal = legal

abbrev pub Later : List Line → Type 0
Later lines = (at : Passed) → at.lines ≢ 0 → IsLegal (verdict_at (standing_after at lines)) → Comes lines at.core

by_unmet : (line : Line) (lines : List Line) (at : Passed) → IsWhole line → Later lines → (step : Step) → step_of line.text ≡ Some step → (unmet : Option Unmet) → first_unmet at.core step ≡ unmet
    → IsLegal (verdict_at (and_then (on_unmet at line.text step unmet) (λ next. standing_after next lines))) → Comes (line ∷ lines) at.core
by_unmet line lines at whole later step says None met legal =
    let next = stepped at line.text step in
    let ne : next.lines ≢ 0 = omega arith in
    let rest = later next ne legal in
    (step ∷ rest.0, (whole, says, rest.1), (met, rest.2))
by_unmet line lines at whole later step says (Some unmet) met legal = absurd legal

by_step : (line : Line) (lines : List Line) (at : Passed) → IsWhole line → Later lines → (o : Option Step) → step_of line.text ≡ o
    → IsLegal (verdict_at (and_then (on_step at line.text o) (λ next. standing_after next lines))) → Comes (line ∷ lines) at.core
by_step line lines at whole later None says legal = absurd legal
by_step line lines at whole later (Some step) says legal = by_unmet line lines at whole later step says (first_unmet at.core step) refl legal

by_shape : (line : Line) (lines : List Line) (at : Passed) → at.lines ≢ 0 → IsWhole line → Later lines → (o : Option Shape)
    → IsLegal (verdict_at (and_then (on_shape at line.text o) (λ next. standing_after next lines))) → Comes (line ∷ lines) at.core
by_shape line lines at ne whole later None legal = by_step line lines at whole later (step_of line.text) refl legal
by_shape line lines at ne whole later (Some shape) legal =
    let P : Bool → Type 0 = λ b. IsLegal (verdict_at (and_then (if b && is_valid shape then pass at line.text (opened_core shape) at.steps else decides (Broken at.place)) (λ next. standing_after next lines))) in
    absurd (subst P (ne_eqb at.lines 0 ne) legal)

by_length : (line : Line) (lines : List Line) (at : Passed) (b : Bool) → nat_le 256 (length line.text) ≡ b
    → IsLegal (verdict_at (and_then (if b then decides (Broken at.place) else on_shape at line.text (shape_of line.text)) (λ next. standing_after next lines)))
    → (length line.text < 256) × IsLegal (verdict_at (and_then (on_shape at line.text (shape_of line.text)) (λ next. standing_after next lines)))
by_length line lines at true e legal = absurd legal
by_length line lines at false e legal = (leb-false 256 (length line.text) e, legal)

by_end : (line : Line) (lines : List Line) (at : Passed) (b : Bool) → line.is_ended ≡ b → ((b ≡ false) → (line.text ≢ []))
    → IsLegal (verdict_at (if b then and_then (on_line at line.text) (λ next. standing_after next lines) else on_rest at line.text))
    → IsWhole line × IsLegal (verdict_at (and_then (on_shape at line.text (shape_of line.text)) (λ next. standing_after next lines)))
by_end line lines at true e some legal =
    let parts = by_length line lines at (nat_le 256 (length line.text)) refl legal in ((e, parts.0), parts.1)
by_end line lines at false e some legal = absurd (rest_illegal at line.text (nat_le 256 (length line.text)) (some refl) legal)

later_lines : (lines : List Line) → Formed lines → Later lines
later_lines [] formed at ne legal = ([], tt, tt)
later_lines (line ∷ lines) formed at ne legal =
    let parts = by_end line lines at line.is_ended refl formed.0 legal in
    by_shape line lines at ne parts.0 (later_lines lines formed.1) (shape_of line.text) parts.1

-- what the lines of a legal trace say
abbrev pub Says : List Line → Type 0
Says lines = (shape : Shape) × (steps : List Step) × Say lines shape steps × AllEnabled (opened_core shape) steps

plain_says : (lines : List Line) → Comes lines (opened_core plain_shape) → Says lines
plain_says lines comes = (plain_shape, comes.0, inl (refl, comes.1), comes.2)

valid_first : (line : Line) (lines : List Line) → IsWhole line → Later lines → (shape : Shape) → shape_of line.text ≡ Some shape → (b : Bool) → is_valid shape ≡ b
    → IsLegal (verdict_at (and_then (if true && b then pass beginning line.text (opened_core shape) 0 else decides (Broken 0)) (λ next. standing_after next lines)))
    → Says (line ∷ lines)
valid_first line lines whole later shape says true valid legal =
    let next : Passed = record { core = opened_core shape; steps = 0; lines = 0 + 1; place = 0 + (length line.text + 1) } in
    let ne : next.lines ≢ 0 = omega arith in
    let rest = later next ne legal in
    (shape, rest.0, inr (whole, says, valid, rest.1), rest.2)
valid_first line lines whole later shape says false valid legal = absurd legal

first_shape : (line : Line) (lines : List Line) → IsWhole line → Later lines → (o : Option Shape) → shape_of line.text ≡ o
    → IsLegal (verdict_at (and_then (on_shape beginning line.text o) (λ next. standing_after next lines))) → Says (line ∷ lines)
first_shape line lines whole later None says legal = plain_says (line ∷ lines) (by_step line lines beginning whole later (step_of line.text) refl legal)
first_shape line lines whole later (Some shape) says legal = valid_first line lines whole later shape says (is_valid shape) refl legal

legal_lines : (lines : List Line) → Formed lines → IsLegal (verdict_at (standing_after beginning lines)) → Says lines
legal_lines [] formed legal = plain_says [] ([], tt, tt)
legal_lines (line ∷ lines) formed legal =
    let parts = by_end line lines beginning line.is_ended refl formed.0 legal in
    first_shape line lines parts.0 (later_lines lines formed.1) (shape_of line.text) refl parts.1

pub legal_says : (bytes : List ℕ) → IsLegal (verdict_of bytes) → (shape : Shape) × (steps : List Step) × Say (lines_of bytes) shape steps × AllEnabled (opened_core shape) steps
legal_says bytes legal = legal_lines (lines_of bytes) (formed bytes) legal
