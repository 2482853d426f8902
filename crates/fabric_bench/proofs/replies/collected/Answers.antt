use Rattle.request_context.proofs.Accepted.{next_part}
use Rattle.timed_sides.specs.Letters.{letters_reply}
use Rattle.fabric_bench.proofs.replies.collected.Goals as goal

pub accept-requires : goal.accept-requires
accept-requires c =
    let old = c.loop.parts in
    (old.asked, next_part letters_reply old c.next.new.self c.in-Some.number c.in-Some.last c.in-Some.pieces c.args.sent.now.stream c.in-Some.ensures c.loop.invariant)
