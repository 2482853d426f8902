use Rattle.std.proofs.Common.{◌≡◌, ◌∙◌, ℕ, sym, ap, false, subst}
use Rattle.std.specs.Iterator.{AlwaysYields, YieldsFirst}
use Rattle.std.specs.Str.{bytes_eq}
use Rattle.unit_types.specs.Slice.{bytes_left}
use Rattle.unit_types.proofs.SliceLemmas.{gives_each}
use Rattle.pattern_text.specs.Case.{folded_all}
use Rattle.pattern_text.specs.TextPattern.{contains_star}
use Rattle.pattern_text.proofs.PlainLemmas.{holds_without_star}
use Rattle.pattern_text.proofs.pattern.TextPattern.holds_slice.Goals as goal

pub returns-then-self : goal.returns-then-self
returns-then-self c =
    let bytes = c.of.result in
    let given : AlwaysYields (YieldsFirst bytes_left) (λ (b : ℕ). b) bytes c.args.text.now = subst (AlwaysYields (YieldsFirst bytes_left) (λ (b : ℕ). b) bytes) c.of.ensures (gives_each bytes) in
    c.holds.ensures c.args.text.now given

pub returns : goal.returns
returns c =
    let pattern = c.args.self.now in
    let text = c.args.text.now in
    let none : contains_star pattern ≡ false = sym (ap contains_star c.self.view_is) ∙ sym c.self.invariant ∙ c.if-self.false in
    c.is_same.ensures ∙ ap (λ p. bytes_eq (folded_all c.args.case text) (folded_all c.args.case p)) c.plain.ensures ∙ sym (holds_without_star c.args.case pattern text none)
