use Rattle.http_front.proofs.SearchLemmas.{first_feed}
use Rattle.http_front.proofs.lines.feed_place.Goals as goal

pub returns-else-bytes-lt8 : goal.returns-else-bytes-lt8
returns-else-bytes-lt8 c = first_feed c.args.bytes.now c.memchr.result c.memchr.ensures
