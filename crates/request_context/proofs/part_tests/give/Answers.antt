use Rattle.request_context.specs.Echoing.{echo_reply}
use Rattle.request_context.proofs.Accepted.{next_part}
use Rattle.request_context.proofs.part_tests.give.Goals as goal

pub accept-requires : goal.accept-requires
accept-requires c =
    let old = c.args.sent.now.parts in
    (old.asked, next_part echo_reply old c.next.new.self c.in-Some.number c.in-Some.last c.in-Some.pieces c.args.sent.now.stream c.in-Some.ensures c.args.sent.now.under)
