-- The check of a trace.
use Rattle.std.specs.Prelude.{ℕ, ◌≡◌, ◌≤◌, ◌⊎◌, ◌&&◌, not, nat_lt, Bool, false, Result, Ok, Err, List, [], ◌∷◌, ◌++◌, length, take, codes, if◌then◌else◌, Option, Some}
use Rattle.unit_io.specs.Status.{input_limit, status_of}
use Rattle.unit_io.specs.declared.stop.Stop.{Stop}
use Rattle.unit_model.specs.Lines.{line}
use Rattle.trace_check.specs.Verdicts.{is_decided, standing_of, verdict_of}
use Rattle.trace_check.specs.declared.verdict.Verdict.{Verdict}
use Rattle.trace_check.specs.declared.verdict.Verdict.TheVariants.{Broken, Illegal, Legal}
use Rattle.unit_top.specs.Outcome.{Outcome, Refused, Written}

-- the lines that tell a verdict; of a broken trace there are none
abbrev pub verdict_text : Verdict → List ℕ
verdict_text (Broken place) = []
verdict_text (Illegal number rule want found) = line (codes "illegal") (number ∷ rule ∷ want ∷ found ∷ [])
verdict_text (Legal steps free chunks drawn accepted cancelled abandoned refused left_open) =
    line (codes "legal") (steps ∷ [])
    ++ (line (codes "chunks") (free ∷ chunks ∷ [])
    ++ line (codes "streams") (drawn ∷ accepted ∷ cancelled ∷ abandoned ∷ refused ∷ left_open ∷ []))

abbrev pub verdict_outcome : Verdict → Outcome
verdict_outcome (Broken place) = Refused place
verdict_outcome (Illegal number rule want found) = Written (verdict_text (Illegal number rule want found)) 8
verdict_outcome (Legal steps free chunks drawn accepted cancelled abandoned refused left_open) =
    Written (verdict_text (Legal steps free chunks drawn accepted cancelled abandoned refused left_open)) 0

-- more bytes than an input may have, whose first that many decide nothing
abbrev pub is_too_long : List ℕ → Bool
is_too_long trace = nat_lt input_limit (length trace) && not (is_decided (standing_of (take input_limit trace)))

-- `check`: the verdict of the trace that the input is
abbrev pub check_outcome : List ℕ → Outcome
check_outcome trace = if is_too_long trace then Refused input_limit else verdict_outcome (verdict_of trace)

-- the status with which a verdict ends the check
abbrev pub verdict_status : Verdict → ℕ
verdict_status (Broken place) = 6
verdict_status (Illegal number rule want found) = 8
verdict_status (Legal steps free chunks drawn accepted cancelled abandoned refused left_open) = 0

abbrev pub judged_status : Result Verdict Stop → ℕ
judged_status (Ok verdict) = verdict_status verdict
judged_status (Err stop) = status_of stop

-- how much of a trace was read: pieces of at most 65,536 bytes, of which only the last may have decided. With status 3 no
-- line decided, and with 0 all was read; with 0 and 8 the verdict of what was read is that of the trace
pub record IsCheckRead (status : ℕ) (trace : List ℕ) (after : Option (List ℕ)) : Type 0 where
  pub before : List ℕ
  pub piece : List ℕ
  pub rest : List ℕ
  pub parts : trace ≡ (before ++ piece) ++ rest
  pub left : after ≡ Some rest
  pub undecided : is_decided (standing_of before) ≡ false
  pub short : length piece ≤ 65536
  pub fault : status ≡ 3 → piece ≡ []
  pub whole : status ≡ 0 → rest ≡ []
  pub verdict : (status ≡ 0) ⊎ (status ≡ 8) → verdict_of (before ++ piece) ≡ verdict_of trace
