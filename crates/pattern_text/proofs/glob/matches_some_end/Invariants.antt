use Rattle.std.proofs.Common.{◌+◌, List, ℕ, length}
use Rattle.std.specs.Iterator.{AlwaysYields, IsFinite, size}
use Rattle.pattern_text.specs.Case.{folded_all}
use Rattle.pattern_text.specs.TextPattern.{text_matches, some_end}
use Rattle.pattern_text.proofs.GlobLemmas.{Awaits}
use Rattle.pattern_text.proofs.glob.matches_some_end.Given as goal

abbrev pub invariant-loop-pattern : goal.invariant-loop-pattern
invariant-loop-pattern g l = record {
  can : g.I.Iterator.can_next l.text;
  ends : IsFinite (g.I.Iterator.remaining l.text);
  awaits : (bytes : List ℕ) → AlwaysYields g.I.Iterator.next_gives (λ b. b) l.fn.text bytes → Awaits g.I.Iterator.next_gives l.case (some_end (text_matches (folded_all l.case l.fn.pattern)) (folded_all l.case bytes)) l.pattern l.text;
}

abbrev pub decreases-loop-pattern : goal.decreases-loop-pattern
decreases-loop-pattern g l = length l.pattern + size (g.I.Iterator.remaining l.text)
