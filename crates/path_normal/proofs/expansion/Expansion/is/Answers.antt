use Rattle.std.proofs.Common.{ap, ◌∙◌, sym, is_eq, nat_cmp}
use Rattle.std.specs.Cmp.{unsigned_ties}
use Rattle.std.specs.Cmp.Lexicographic.{lists_ties}
use Rattle.path_normal.specs.ExpansionLeft.{expansion_left}
use Rattle.path_normal.proofs.expansion.Expansion.is.Goals as goal

pub returns : goal.returns
returns c =
    c.is_eq.ensures ∙ ap is_eq c.compare.ensures ∙ sym (lists_ties nat_cmp unsigned_ties (expansion_left c.args.self) c.args.other.now)
