use Rattle.std.proofs.Common.{◌≡◌, ◌∙◌, ◌==◌, ℕ, Bool, false, None, if◌then◌else◌, sym, ap, subst}
use Rattle.std.specs.Iterator.{AlwaysYields, YieldsFirst}
use Rattle.std.specs.List.{list_any}
use Rattle.unit_types.specs.Slice.{bytes_left}
use Rattle.unit_types.proofs.SliceLemmas.{gives_each}
use Rattle.conf_validate.specs.Configuration.{goal_named}
use Rattle.conf_validate.proofs.destinations.plain_goal_among.Goals as goal

pub returns-else-has_dollar : goal.returns-else-has_dollar
returns-else-has_dollar c =
    let text = c.args.text.now in
    let plain : list_any (λ b. b == 36) text ≡ false = sym c.has_dollar.ensures ∙ c.if-has_dollar.false in
    let bytes = c.of.result in
    let given : AlwaysYields (YieldsFirst bytes_left) (λ (b : ℕ). b) bytes text = subst (AlwaysYields (YieldsFirst bytes_left) (λ (b : ℕ). b) bytes) c.of.ensures (gives_each bytes) in
    c.goal_at.ensures text given ∙ ap (λ (b : Bool). if b then None else goal_named text c.args.destinations.now) (sym plain)
