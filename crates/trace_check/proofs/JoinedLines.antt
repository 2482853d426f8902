-- The joined lines of a shape and of steps are taken apart into these lines, and only they say the shape and the steps.
use Rattle.std.proofs.Common.{◌≡◌, ◌∙◌, ℕ, ◌*◌, ◌^◌, ◌<◌, ◌≤◌, ◌==◌, Bool, true, false, if◌then◌else◌, List, [], ◌∷◌, ◌++◌, length, refl, sym, ap, subst, arith, length-append, inl, inr}
use Rattle.std.specs.Prelude.{codes, decimal}
use Rattle.std.specs.List.{list_all}
use Rattle.std.specs.Char.{is_ascii_digit}
use Rattle.std.proofs.lemmas.Bool.{eqb-true}
use Rattle.std.proofs.lemmas.Fmt.{digits_decimal, length-decimal-le}
use Rattle.std.proofs.lemmas.List.{append_assoc}
use Rattle.trace_check.proofs.LineByLine.{has_end, lines_ended}
use Rattle.trace_check.proofs.OneSpelling.{one_spelling}
use Rattle.trace_check.proofs.ReadBack.{read_back}
use Rattle.unit_types.proofs.SpelledLemmas.{digits_no_byte, no_byte_both, own}
use Rattle.trace_check.proofs.ShapeLines.{shape_back, shape_spelled, valid_fits}
use Rattle.trace_check.specs.ReadBack.{FitsStep}
use Rattle.trace_check.specs.Traces.{AllFit, IsTraceOf, Say, SayShape, SaySteps, shape_line, shape_numbers, trace_of}
use Rattle.trace_check.specs.Verdicts.{Line, before_lines, is_valid, lines_of}
use Rattle.unit_model.specs.Lines.{line, line_of, numbers_text}
use Rattle.unit_model.specs.declared.machine.Step.{Step}
use Rattle.unit_model.specs.declared.shape.Shape.{Shape}
use Rattle.unit_model.specs.declared.machine.Step.TheVariants.{Draw, Claim, Release, Open, GetItem, SetRun, SetPart, Arm, Push, Pop, Settle, GiveItem, Abandon}

-- ---- a text without LF

none_joined : (xs ys : List ℕ) → has_end xs ≡ false → has_end ys ≡ false → has_end (xs ++ ys) ≡ false
none_joined xs ys none more = no_byte_both 10 xs ys none more

none_in_digits : (ds : List ℕ) → list_all is_ascii_digit ds ≡ true → has_end ds ≡ false
none_in_digits ds e = digits_no_byte 10 ds (omega arith) e

-- ---- the line of a step

abbrev pub AllSmall : List ℕ → Type 0
AllSmall [] = Unit {0}
AllSmall (n ∷ ns) = (n < 2 ^ 64) × AllSmall ns

numbers_end : (ns : List ℕ) → AllSmall ns → has_end (numbers_text ns) ≡ false
numbers_end [] small = refl
numbers_end (n ∷ ns) small = none_joined (32 ∷ decimal n) (numbers_text ns) (none_in_digits (decimal n) (digits_decimal own n small.0)) (numbers_end ns small.1)

numbers_length : (ns : List ℕ) → AllSmall ns → length (numbers_text ns) ≤ 21 * length ns
numbers_length [] small = omega arith
numbers_length (n ∷ ns) small =
    let one = length-decimal-le 20 n (omega arith) (omega (arith, small.0)) small.0 in
    omega (arith, one, numbers_length ns small.1, length-append (32 ∷ decimal n) (numbers_text ns))

-- a line that LF ends where it should
abbrev pub IsLine : List ℕ → Type 0
IsLine bytes = (text : List ℕ) × (bytes ≡ text ++ 10 ∷ []) × (has_end text ≡ false) × (length text < 256)

is_line : (name numbers : List ℕ) → has_end name ≡ false → length name ≤ 8 → length numbers ≤ 7 → AllSmall numbers → IsLine (line name numbers)
is_line name numbers none short few small = (
  name ++ numbers_text numbers,
  refl,
  none_joined name (numbers_text numbers) none (numbers_end numbers small),
  omega (arith, short, few, numbers_length numbers small, length-append name (numbers_text numbers)),
)

step_line : (step : Step) → FitsStep step → IsLine (line_of step)
unfolding line_of
step_line (Draw seat stream) fits = is_line (codes "draw") (seat ∷ stream ∷ []) refl (omega arith) (omega arith) (omega (arith, fits.0), (fits.1, tt))
step_line (Claim seat segment chunk) fits = is_line (codes "claim") (seat ∷ segment ∷ chunk ∷ []) refl (omega arith) (omega arith) (omega (arith, fits.0), (omega (arith, fits.1), (omega (arith, fits.2), tt)))
step_line (Release seat segment chunk) fits = is_line (codes "release") (seat ∷ segment ∷ chunk ∷ []) refl (omega arith) (omega arith) (omega (arith, fits.0), (omega (arith, fits.1), (omega (arith, fits.2), tt)))
step_line (Open seat count) fits = is_line (codes "open") (seat ∷ count ∷ []) refl (omega arith) (omega arith) (omega (arith, fits.0), (omega (arith, fits.1), tt))
step_line (SetRun seat queue item run) fits = is_line (codes "setrun") (seat ∷ queue ∷ item ∷ run.segment ∷ run.chunk ∷ run.size ∷ []) refl (omega arith) (omega arith)
    (omega (arith, fits.0), (omega (arith, fits.1), (omega (arith, fits.2), (omega (arith, fits.3), (omega (arith, fits.4), (omega (arith, fits.5), tt))))))
step_line (GetItem seat queue item place) fits = is_line (codes "getitem") (seat ∷ queue ∷ item ∷ place ∷ []) refl (omega arith) (omega arith) (omega (arith, fits.0), (omega (arith, fits.1), (omega (arith, fits.2), (fits.3, tt))))
step_line (SetPart seat queue item part) fits = is_line (codes "setpart") (seat ∷ queue ∷ item ∷ part ∷ []) refl (omega arith) (omega arith) (omega (arith, fits.0), (omega (arith, fits.1), (omega (arith, fits.2), (fits.3, tt))))
step_line (Arm seat queue item stream) fits = is_line (codes "arm") (seat ∷ queue ∷ item ∷ stream ∷ []) refl (omega arith) (omega arith) (omega (arith, fits.0), (omega (arith, fits.1), (omega (arith, fits.2), (fits.3, tt))))
step_line (Push seat queue item place) fits = is_line (codes "push") (seat ∷ queue ∷ item ∷ place ∷ []) refl (omega arith) (omega arith) (omega (arith, fits.0), (omega (arith, fits.1), (omega (arith, fits.2), (fits.3, tt))))
step_line (Pop seat queue item place) fits = is_line (codes "pop") (seat ∷ queue ∷ item ∷ place ∷ []) refl (omega arith) (omega arith) (omega (arith, fits.0), (omega (arith, fits.1), (omega (arith, fits.2), (fits.3, tt))))
step_line (Settle seat queue item stream) fits = is_line (codes "settle") (seat ∷ queue ∷ item ∷ stream ∷ []) refl (omega arith) (omega arith) (omega (arith, fits.0), (omega (arith, fits.1), (omega (arith, fits.2), (fits.3, tt))))
step_line (GiveItem seat queue item place) fits = is_line (codes "giveitem") (seat ∷ queue ∷ item ∷ place ∷ []) refl (omega arith) (omega arith) (omega (arith, fits.0), (omega (arith, fits.1), (omega (arith, fits.2), (fits.3, tt))))
step_line (Abandon seat stream) fits = is_line (codes "abandon") (seat ∷ stream ∷ []) refl (omega arith) (omega arith) (omega (arith, fits.0), (fits.1, tt))

-- ---- the lines of steps, joined and taken apart

trace_says : (steps : List Step) → AllFit steps → SaySteps (lines_of (trace_of steps)) steps
trace_says [] fits = tt
trace_says (step ∷ steps) fits =
    let rest = trace_of steps in
    let said = step_line step fits.0 in
    let front : lines_of (line_of step ++ rest) ≡ (record { text = said.0; is_ended = true }) ∷ lines_of rest =
    ap (λ bytes. lines_of (bytes ++ rest)) said.1 ∙ ap lines_of (append_assoc said.0 (10 ∷ []) rest) ∙ lines_ended said.0 rest said.2 in
    let P : List Line → Type 0 = λ lines. SaySteps lines (step ∷ steps) in
    subst P (sym front) ((refl, said.3), read_back step fits.0 said.0 said.1, trace_says steps fits.1)

-- the bytes of lines
abbrev pub bytes_of : List Line → List ℕ
bytes_of [] = []
bytes_of (line ∷ lines) = if line.is_ended then line.text ++ 10 ∷ bytes_of lines else line.text ++ bytes_of lines

before_bytes : (b : ℕ) (text rest : List ℕ) (c : Bool) → (if c then (b ∷ text) ++ 10 ∷ rest else (b ∷ text) ++ rest) ≡ b ∷ (if c then text ++ 10 ∷ rest else text ++ rest)
before_bytes b text rest true = refl
before_bytes b text rest false = refl

bytes_before : (b : ℕ) (lines : List Line) → bytes_of (before_lines b lines) ≡ b ∷ bytes_of lines
bytes_before b [] = refl
bytes_before b (line ∷ lines) = before_bytes b line.text (bytes_of lines) line.is_ended

bytes_next : (b : ℕ) (lines : List Line) (c : Bool) → (b == 10) ≡ c → bytes_of (if c then (record { text = []; is_ended = true }) ∷ lines else before_lines b lines) ≡ b ∷ bytes_of lines
bytes_next b lines true is = ap (λ x. x ∷ bytes_of lines) (sym (eqb-true b 10 is))
bytes_next b lines false is = bytes_before b lines

bytes_again : (bytes : List ℕ) → bytes_of (lines_of bytes) ≡ bytes
bytes_again [] = refl
bytes_again (b ∷ bytes) = bytes_next b (lines_of bytes) (b == 10) refl ∙ ap (λ rest. b ∷ rest) (bytes_again bytes)

said_bytes : (lines : List Line) (steps : List Step) → SaySteps lines steps → AllFit steps × (bytes_of lines ≡ trace_of steps)
said_bytes [] [] says = (tt, refl)
said_bytes [] (step ∷ steps) says = absurd says
said_bytes (line ∷ lines) [] says = absurd says
said_bytes (line ∷ lines) (step ∷ steps) says =
    let one = one_spelling step line.text says.1 in
    let more = said_bytes lines steps says.2 in (
      (one.0, more.0),
      ap (λ c. if c then line.text ++ 10 ∷ bytes_of lines else line.text ++ bytes_of lines) says.0.0
          ∙ ap (λ rest. line.text ++ 10 ∷ rest) more.1
          ∙ sym (append_assoc line.text (10 ∷ []) (trace_of steps))
          ∙ ap (λ bytes. bytes ++ trace_of steps) (sym one.1),
    )

said_trace : (bytes : List ℕ) (steps : List Step) → SaySteps (lines_of bytes) steps → AllFit steps × (bytes ≡ trace_of steps)
said_trace bytes steps says =
    let said = said_bytes (lines_of bytes) steps says in
    (said.0, sym (bytes_again bytes) ∙ said.1)

-- ---- with the line of a shape in front

shape_is_line : (shape : Shape) → is_valid shape ≡ true → IsLine (shape_line shape)
shape_is_line shape valid =
    let fits = valid_fits shape valid in
    is_line (codes "shape") (shape_numbers shape) refl (omega arith) (omega arith)
    (omega (arith, fits.0), (omega (arith, fits.1), (omega (arith, fits.2), (omega (arith, fits.3), (omega (arith, fits.4), (omega (arith, fits.5), (fits.6, tt)))))))

shape_says : (shape : Shape) (steps : List Step) → AllFit steps → is_valid shape ≡ true → SayShape (lines_of (shape_line shape ++ trace_of steps)) shape steps
shape_says shape steps fits valid =
    let rest = trace_of steps in
    let said = shape_is_line shape valid in
    let front : lines_of (shape_line shape ++ rest) ≡ (record { text = said.0; is_ended = true }) ∷ lines_of rest =
    ap (λ bytes. lines_of (bytes ++ rest)) said.1 ∙ ap lines_of (append_assoc said.0 (10 ∷ []) rest) ∙ lines_ended said.0 rest said.2 in
    let P : List Line → Type 0 = λ lines. SayShape lines shape steps in
    subst P (sym front) ((refl, said.3), shape_back shape said.0 valid said.1, valid, trace_says steps fits)

pub says : (shape : Shape) (steps : List Step) (bytes : List ℕ) → IsTraceOf shape steps bytes → Say (lines_of bytes) shape steps
says shape steps bytes (fits, inl is) =
    let P : List ℕ → Type 0 = λ b. SaySteps (lines_of b) steps in
    inl (is.0, subst P (sym is.1) (trace_says steps fits))
says shape steps bytes (fits, inr is) =
    let P : List ℕ → Type 0 = λ b. SayShape (lines_of b) shape steps in
    inr (subst P (sym is.1) (shape_says shape steps fits is.0))

shape_bytes : (lines : List Line) (shape : Shape) (steps : List Step) → SayShape lines shape steps
    → AllFit steps × (is_valid shape ≡ true) × (bytes_of lines ≡ shape_line shape ++ trace_of steps)
shape_bytes [] shape steps says = absurd says
shape_bytes (line ∷ lines) shape steps says =
    let one = shape_spelled shape line.text says.1 in
    let more = said_bytes lines steps says.3 in (
      more.0,
      says.2,
      ap (λ c. if c then line.text ++ 10 ∷ bytes_of lines else line.text ++ bytes_of lines) says.0.0
          ∙ ap (λ rest. line.text ++ 10 ∷ rest) more.1
          ∙ sym (append_assoc line.text (10 ∷ []) (trace_of steps))
          ∙ ap (λ bytes. bytes ++ trace_of steps) (sym one),
    )

pub said : (shape : Shape) (steps : List Step) (bytes : List ℕ) → Say (lines_of bytes) shape steps → IsTraceOf shape steps bytes
said shape steps bytes (inl says) =
    let trace = said_trace bytes steps says.1 in
    (trace.0, inl (says.0, trace.1))
said shape steps bytes (inr says) =
    let trace = shape_bytes (lines_of bytes) shape steps says in
    (trace.0, inr (trace.1, sym (bytes_again bytes) ∙ trace.2))
