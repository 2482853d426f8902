-- The check byte by byte.
use Rattle.std.specs.Prelude.{ℕ, ◌==◌, if◌then◌else◌, List, [], ◌∷◌, ◌++◌}
use Rattle.trace_check.specs.Verdicts.{Standing, going, decided, and_then, on_line, on_rest}

abbrev pub after_byte : Standing → ℕ → Standing
after_byte (going at text) byte = if byte == 10 then and_then (on_line at text) (λ next. going next []) else on_rest at (text ++ byte ∷ [])
after_byte (decided verdict) byte = decided verdict

abbrev pub after_bytes : Standing → List ℕ → Standing
after_bytes standing [] = standing
after_bytes standing (byte ∷ bytes) = after_bytes (after_byte standing byte) bytes
