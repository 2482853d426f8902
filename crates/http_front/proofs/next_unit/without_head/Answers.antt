use Rattle.std.proofs.Common.{sym, ◌∙◌, ap}
use Rattle.http_front.specs.Checks.{has_too_many_lines}
use Rattle.http_front.specs.Head.{head_of}
use Rattle.http_front.proofs.FrontLemmas.{told_many, told_none}
use Rattle.http_front.proofs.next_unit.without_head.Goals as goal

pub returns-then-has_too_many_lines-clause-told : goal.returns-then-has_too_many_lines-clause-told
returns-then-has_too_many_lines-clause-told c from to limit used rest ended =
    ap (λ step. step.told) c.refused.ensures
    ∙ told_many from to (has_too_many_lines c.args.block.now) limit used rest ended (head_of c.args.block.now) (sym c.has_too_many_lines.ensures ∙ c.if-has_too_many_lines.true)

pub returns-else-has_too_many_lines-clause-told : goal.returns-else-has_too_many_lines-clause-told
returns-else-has_too_many_lines-clause-told c from to limit used rest ended =
    let few = sym c.has_too_many_lines.ensures ∙ c.if-has_too_many_lines.false in
    ap (λ step. step.told) c.refused-else-has_too_many_lines.ensures
    ∙ told_none from to (has_too_many_lines c.args.block.now) limit used rest ended (head_of c.args.block.now) few (c.requires few)
