-- What `trace` writes is a legal trace.
use Rattle.std.specs.Prelude.{ℕ, ◌^◌, ◌≡◌, ◌≤◌, List, length}
use Rattle.plain_fabric.specs.Laws.{AllCanPass}
use Rattle.plain_fabric.specs.Schedule.{Passed, trace_of}
use Rattle.trace_check.specs.Traces as lines
use Rattle.trace_check.specs.Verdicts.{plain_shape, verdict_of}
use Rattle.trace_check.specs.declared.verdict.Verdict.{Verdict}
use Rattle.trace_check.specs.declared.verdict.Verdict.TheVariants.{Broken, Illegal, Legal}

-- so many steps are legal, and behind them all chunks are free and no stream is open
abbrev pub EndsAtRest : Verdict → ℕ → Type 0
EndsAtRest (Broken place) count = ⊥
EndsAtRest (Illegal number rule want found) count = ⊥
EndsAtRest (Legal steps free chunks drawn accepted cancelled abandoned refused left_open) count =
    (steps ≡ count) × (free ≡ chunks) × (left_open ≡ 0)

-- the verdict of these bytes says so
abbrev pub IsLegalAtRest : List ℕ → ℕ → Type 0
IsLegalAtRest bytes count = EndsAtRest (verdict_of bytes) count

-- so it is with the lines of the steps of any requests in the plain shape
abbrev pub TracesAreLegal : Type 0
TracesAreLegal = (requests : List Passed) → AllCanPass requests → length requests ≤ 2 ^ 48
    → IsLegalAtRest (lines.trace_of (trace_of plain_shape requests)) (length (trace_of plain_shape requests))
