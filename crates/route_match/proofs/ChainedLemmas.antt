-- The bytes of two slices, one behind the other.
use Rattle.std.proofs.Common.{◌++◌, refl}
use Rattle.std.proofs.lemmas.Iterator.Consumers.{YieldsList-from_first}
use Rattle.std.specs.Iterator.{AlwaysYields, YieldsFirst}
use Rattle.route_match.specs.declared.chained.Chained.{Chained}

pub gives : (s : Chained) → AlwaysYields (YieldsFirst (λ (t : Chained). t.first.now ++ t.second.now)) (λ b. b) s (s.first.now ++ s.second.now)
gives s = (YieldsList-from_first (λ b. b) (λ (t : Chained). t.first.now ++ t.second.now) {s = s} (s.first.now ++ s.second.now) refl).runs
