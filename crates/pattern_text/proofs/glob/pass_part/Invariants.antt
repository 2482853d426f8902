use Rattle.std.proofs.Common.{◌≤◌, List, ℕ, drop}
use Rattle.std.specs.Iterator.{AlwaysYields, IsFinite, size}
use Rattle.pattern_text.specs.Case.{folded_all}
use Rattle.pattern_text.specs.Glob.{BothBegin}
use Rattle.pattern_text.proofs.glob.pass_part.Given as goal

abbrev pub invariant-loop-at : goal.invariant-loop-at
invariant-loop-at g l = record {
  can : g.I.Iterator.can_next l.text;
  ends : IsFinite (g.I.Iterator.remaining l.text);
  nearer : size (g.I.Iterator.remaining l.text) ≤ size (g.I.Iterator.remaining l.fn.text);
  begun : (bytes : List ℕ) → AlwaysYields g.I.Iterator.next_gives (λ b. b) l.fn.text bytes → (behind : List ℕ) × AlwaysYields g.I.Iterator.next_gives (λ b. b) l.text behind × BothBegin (folded_all l.case l.pattern) (folded_all l.case bytes) (folded_all l.case (drop l.at l.pattern)) (folded_all l.case behind);
}
