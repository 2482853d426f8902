-- When a check in pieces stands where the check of all its bytes does.
use Rattle.std.specs.Prelude.{◌≡◌, ℕ, List, [], Option, Some, None}
use Rattle.trace_check.specs.Shows.{Shows}
use Rattle.trace_check.specs.Verdicts.{Judged, Passed, Standing, passes, decides, going, decided}
use Rattle.trace_check.specs.declared.reading.Reading.{Reading}
use Rattle.trace_check.specs.declared.verdict.Verdict.{Verdict}

-- the lines that have passed, and the text of the line under way
pub record Follows (at : Passed) (rest : List ℕ) (reading : Reading) : Type 0 where
  pub core : Shows at.core reading.machine
  pub steps : reading.steps ≡ at.steps
  pub lines : reading.lines ≡ at.lines
  pub place : reading.place ≡ at.place
  pub text : reading.text.items ≡ rest

-- what a line came to
abbrev pub Judges : Judged → Option Verdict → Reading → Type 0
Judges (passes at) verdict reading = (verdict ≡ None) × Follows at [] reading
Judges (decides v) verdict reading = verdict ≡ Some v

abbrev pub Stands : Standing → Option Verdict → Reading → Type 0
Stands (going at text) verdict reading = (verdict ≡ None) × Follows at text reading
Stands (decided v) verdict reading = verdict ≡ Some v
