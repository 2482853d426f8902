-- Which inputs are legal traces.
use Rattle.std.specs.Prelude.{◌≡◌, ◌<◌, true, ℕ, List, [], ◌∷◌, ◌++◌, length, Some, codes, ◌⊎◌}
use Rattle.trace_check.specs.Lines.{shape_of, step_of}
use Rattle.trace_check.specs.ReadBack.{FitsStep}
use Rattle.trace_check.specs.Verdicts.{Line, is_valid, plain_shape}
use Rattle.trace_check.specs.declared.verdict.Verdict.{Verdict}
use Rattle.trace_check.specs.declared.verdict.Verdict.TheVariants.{Broken, Illegal, Legal}
use Rattle.unit_model.specs.Lines.{line, line_of}
use Rattle.unit_model.specs.declared.machine.Step.{Step}
use Rattle.unit_model.specs.declared.shape.Shape.{Shape}

-- the line ends with its LF, which is one of its first 256 bytes
abbrev pub IsWhole : Line → Type 0
IsWhole line = (line.is_ended ≡ true) × (length line.text < 256)

-- the lines say these steps
abbrev pub SaySteps : List Line → List Step → Type 0
SaySteps [] [] = Unit {0}
SaySteps [] (step ∷ steps) = ⊥
SaySteps (line ∷ lines) [] = ⊥
SaySteps (line ∷ lines) (step ∷ steps) =
    IsWhole line × (step_of line.text ≡ Some step) × SaySteps lines steps

-- the first line says this shape, which a fabric can have, and the others say these steps
abbrev pub SayShape : List Line → Shape → List Step → Type 0
SayShape [] shape steps = ⊥
SayShape (line ∷ lines) shape steps =
    IsWhole line × (shape_of line.text ≡ Some shape) × (is_valid shape ≡ true)
    × SaySteps lines steps

-- the lines say a shape, which is the plain one where no line says it, and steps
abbrev pub Say : List Line → Shape → List Step → Type 0
Say lines shape steps = ((shape ≡ plain_shape) × SaySteps lines steps) ⊎ SayShape lines shape steps

-- the numbers of all these steps fit their types
abbrev pub AllFit : List Step → Type 0
AllFit [] = Unit {0}
AllFit (step ∷ steps) = FitsStep step × AllFit steps

-- the lines of steps, one after another
abbrev pub trace_of : List Step → List ℕ
trace_of [] = []
trace_of (step ∷ steps) = line_of step ++ trace_of steps

-- the line that says a shape
abbrev pub shape_numbers : Shape → List ℕ
shape_numbers shape =
    shape.items ∷ shape.back_items ∷ shape.out_segments ∷ shape.back_segments ∷ shape.engines ∷ shape.workers ∷ shape.start ∷ []

abbrev pub shape_line : Shape → List ℕ
shape_line shape = line (codes "shape") (shape_numbers shape)

-- the bytes are the lines of these steps, behind the line of this shape, which a fabric can have; for the plain shape they may
-- be the lines of the steps alone
abbrev pub IsTraceOf : Shape → List Step → List ℕ → Type 0
IsTraceOf shape steps bytes =
    AllFit steps
    × (((shape ≡ plain_shape) × (bytes ≡ trace_of steps)) ⊎ ((is_valid shape ≡ true) × (bytes ≡ shape_line shape ++ trace_of steps)))

abbrev pub IsLegal : Verdict → Type 0
IsLegal (Broken place) = ⊥
IsLegal (Illegal line rule want found) = ⊥
IsLegal (Legal steps free chunks drawn accepted cancelled abandoned refused left_open) = Unit {0}
