use Rattle.std.proofs.Common.{List, ℕ}
use Rattle.std.specs.Iterator.{AlwaysYields, IsFinite}
use Rattle.conf_validate.proofs.SearchLemmas.{Passed}
use Rattle.conf_validate.proofs.search.compare.Given as goal

abbrev pub invariant-loop-byte : goal.invariant-loop-byte
invariant-loop-byte g l = record {
  can : g.I.Iterator.can_next l.text;
  ends : IsFinite (g.I.Iterator.remaining l.text);
  passed : (bytes : List ℕ) → AlwaysYields g.I.Iterator.next_gives (λ b. b) l.fn.text bytes → Passed g.I.Iterator.next_gives l.name bytes l.byte-index l.text;
}
