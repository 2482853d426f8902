use Rattle.std.proofs.Common.{◌∙◌, sym}
use Rattle.http_front.specs.Front.{blank_len}
use Rattle.http_front.proofs.BlockLemmas.{blank_feed_yes, blank_return_yes, blank_neither}
use Rattle.http_front.proofs.lines.empty_line_len.Goals as goal

pub returns-then-starts_with-clause-some : goal.returns-then-starts_with-clause-some
unfolding blank_len
returns-then-starts_with-clause-some c = blank_feed_yes c.args.bytes.now (sym c.starts_with.ensures.value ∙ c.if-starts_with.true)

pub returns-then-starts_with-2-clause-some : goal.returns-then-starts_with-2-clause-some
unfolding blank_len
returns-then-starts_with-2-clause-some c =
    blank_return_yes c.args.bytes.now (sym c.starts_with-else-starts_with.ensures.value ∙ c.if-starts_with-2.true)

pub returns-else-starts_with-2-clause-none : goal.returns-else-starts_with-2-clause-none
unfolding blank_len
returns-else-starts_with-2-clause-none c e =
    blank_neither c.args.bytes.now (sym c.starts_with.ensures.value ∙ c.if-starts_with.false)
    (sym c.starts_with-else-starts_with.ensures.value ∙ c.if-starts_with-2.false)
