use Rattle.std.proofs.Common.{◌∙◌, sym, ap}
use Rattle.http_front.specs.Front.{is_empty_line}
use Rattle.http_front.proofs.SearchLemmas.{line_of, search_line, search_blank}
use Rattle.http_front.proofs.search.behind_line.Goals as goal

pub returns-then-not-is_empty_line-clause-is : goal.returns-then-not-is_empty_line-clause-is
returns-then-not-is_empty_line-clause-is c =
    let line = line_of c.args.search c.args.bytes.now c.args.len c.requires.searched c.requires.first in
    search_line c.args.search c.args.bytes.now c.args.len c.requires.searched line
    (ap is_empty_line (sym line.slice) ∙ sym c.is_empty_line.ensures ∙ c.if-not-is_empty_line.true)

pub returns-then-search-clause-is : goal.returns-then-search-clause-is
returns-then-search-clause-is c =
    let line = line_of c.args.search c.args.bytes.now c.args.len c.requires.searched c.requires.first in
    search_blank c.args.search c.args.bytes.now c.args.len c.requires.searched line
    (ap is_empty_line (sym line.slice) ∙ sym c.is_empty_line.ensures ∙ c.if-not-is_empty_line.false) c.if-search.true
