use Rattle.std.proofs.Common.{◌≡◌, ◌+◌, ℕ, List, drop}
use Rattle.trace_check.specs.Bytes.{after_bytes}
use Rattle.trace_check.specs.Counted.{IsCounted}
use Rattle.trace_check.specs.Reading.{Follows}
use Rattle.trace_check.specs.Verdicts.{Passed, going}
use Rattle.trace_check.proofs.reading.Reading.take.Given as goal

abbrev pub invariant-loop-byte : goal.invariant-loop-byte
invariant-loop-byte l = record {
  counted : (bytes : ℕ) → IsCounted l.fn.self bytes → IsCounted l.self (bytes + l.byte-index);
  stands : (at : Passed) (text : List ℕ) → Follows at text l.fn.self
      → (now : Passed) × (rest : List ℕ) × Follows now rest l.self × (after_bytes (going at text) l.piece ≡ after_bytes (going now rest) (drop l.byte-index l.piece));
}
