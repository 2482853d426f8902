-- What an iterator over the bytes of a slice gives.
use Rattle.std.proofs.Common.{ℕ, refl}
use Rattle.std.proofs.lemmas.Iterator.Consumers.{YieldsList-from_first}
use Rattle.std.specs.Iterator.{AlwaysYields, YieldsFirst}
use Rattle.unit_types.specs.Slice.{bytes_left}
use Rattle.unit_types.specs.declared.slice.SliceBytes.{SliceBytes}

-- it gives each of the bytes that are left, in order
pub gives_each : (bytes : SliceBytes) → AlwaysYields (YieldsFirst bytes_left) (λ (b : ℕ). b) bytes (bytes_left bytes)
gives_each bytes = (YieldsList-from_first (λ (b : ℕ). b) bytes_left {s = bytes} (bytes_left bytes) refl).runs
