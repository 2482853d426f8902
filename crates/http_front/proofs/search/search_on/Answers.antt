use Rattle.std.proofs.Common.{◌∙◌, sym, ap}
use Rattle.std.specs.List.{position}
use Rattle.http_front.specs.Head.{is_line_feed}
use Rattle.http_front.proofs.SearchLemmas.{search_all}
use Rattle.http_front.proofs.search.search_on.Goals as goal

pub returns-clause-is : goal.returns-clause-is
returns-clause-is c = search_all c.loop-len.search c.args.bytes.now c.loop-len.invariant
    (sym c.in_default.is ∙ c.feed_place.ensures ∙ ap (position is_line_feed) c.behind.ensures)
