use Rattle.std.proofs.Common.{◌≡◌, [], ap, ◌∙◌}
use Rattle.path_normal.specs.Pairs.{query_text}
use Rattle.path_normal.specs.Text.{text_left, spelled}
use Rattle.path_normal.proofs.QueryLemmas.{query_text-nil}
use Rattle.path_normal.proofs.text.TextBytesIterator.next.Goals as goal

pub returns-in_err-byte-in-Query-clause-steps : goal.returns-in_err-byte-in-Query-clause-steps
returns-in_err-byte-in-Query-clause-steps c =
    let over : text_left c.args.self.now ≡ [] = ap (λ s. spelled s c.args.self.now.rest.now) c.in-Query.is ∙ ap query_text c.in_err-byte-in-Query.ensures ∙ query_text-nil in
    rw c.from_residual-in_err-byte-in-Query.ensures (over, over)
