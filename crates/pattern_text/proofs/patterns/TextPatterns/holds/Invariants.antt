use Rattle.std.proofs.Common.{◌≡◌, ◌&&◌, ◌||◌, List, ℕ, drop, not}
use Rattle.std.specs.List.{list_any, list_all}
use Rattle.pattern_text.specs.Case.{holds_of}
use Rattle.pattern_text.specs.TextPattern.{is_negated}
use Rattle.pattern_text.proofs.patterns.TextPatterns.holds.Given as goal

abbrev pub invariant-loop-pattern : goal.invariant-loop-pattern
invariant-loop-pattern g l = record {
  all : list_all is_negated l.self ≡ (not l.has_plain && list_all is_negated (drop l.pattern-index l.self));
  plain : (bytes : List ℕ) → g.T.Subject.has l.text bytes → list_any (λ p. not (is_negated p) && holds_of l.case p bytes) l.self ≡ (l.plain_holds || list_any (λ p. not (is_negated p) && holds_of l.case p bytes) (drop l.pattern-index l.self));
  negated : (bytes : List ℕ) → g.T.Subject.has l.text bytes → list_any (λ p. is_negated p && holds_of l.case p bytes) l.self ≡ list_any (λ p. is_negated p && holds_of l.case p bytes) (drop l.pattern-index l.self);
}
