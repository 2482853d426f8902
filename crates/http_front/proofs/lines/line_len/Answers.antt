use Rattle.http_front.proofs.BlockLemmas.{place_within, place_first, place_last}
use Rattle.http_front.proofs.lines.line_len.Goals as goal

pub returns-clause-within : goal.returns-clause-within
returns-clause-within c = place_within c.args.bytes.now c.feed_place.result c.feed_place.ensures

pub returns-clause-first : goal.returns-clause-first
returns-clause-first c = place_first c.args.bytes.now c.feed_place.result c.feed_place.ensures

pub returns-clause-none : goal.returns-clause-none
returns-clause-none c = place_last c.args.bytes.now c.feed_place.result c.feed_place.ensures
