use Rattle.http_front.proofs.SearchLemmas.{search_start}
use Rattle.http_front.proofs.progress.head_search.Goals as goal

pub search_on-requires : goal.search_on-requires
search_on-requires c = search_start c.args.bytes.now

pub returns-in-None : goal.returns-in-None
returns-in-None c = search_start c.args.bytes.now
