use Rattle.std.proofs.Common.{◌≡◌}
use Rattle.request_context.specs.Cutting.{record_to}
use Rattle.request_context.specs.Record.{IsReplyRecordOf}
use Rattle.request_context.proofs.Collected.{all_joined, has_record, is_reply}
use Rattle.request_context.proofs.collector.Collector.reply.Goals as goal

pub unreachable-requires : goal.unreachable-requires
unreachable-requires g c =
    let reply_of = g.H.Handlers.reply_of in
    let asked = c.self.inside.asked in
    let last = rw (← c.self.view_is) at c.requires.last in
    let parcels = rw (← c.self.view_is) at c.requires.parcels in
    let whole : c.as_slice.result.now ≡ record_to reply_of asked =
    all_joined reply_of asked c.self.inside.next c.self.inside.kept.items c.deref-2.result.now c.args.pieces.now.parcels c.in_ok-bytes.bytes.items c.put_texts.new.out.items c.put_pieces.new.out.items c.as_slice.result.now
    c.self.invariant last parcels c.in_ok-bytes.ensures.items c.deref-2.ensures.value c.in_ok-put_texts.ensures c.in_ok-put_pieces.ensures c.as_slice.ensures.value in
    let read : IsReplyRecordOf c.as_slice.result.now c.in_ok-reply.field-0 = c.in_ok-reply.ensures in
    let none = rw c.in-None.is at read in
    none (reply_of asked.name asked.request) (has_record (reply_of asked.name asked.request) (g.met.H.Handlers.replies_fit asked.name asked.request)) whole

pub returns : goal.returns
returns g c =
    let reply_of = g.H.Handlers.reply_of in
    let asked = c.self.inside.asked in
    let last = rw (← c.self.view_is) at c.requires.last in
    let parcels = rw (← c.self.view_is) at c.requires.parcels in
    let whole : c.as_slice.result.now ≡ record_to reply_of asked =
    all_joined reply_of asked c.self.inside.next c.self.inside.kept.items c.deref-2.result.now c.args.pieces.now.parcels c.in_ok-bytes.bytes.items c.put_texts.new.out.items c.put_pieces.new.out.items c.as_slice.result.now
    c.self.invariant last parcels c.in_ok-bytes.ensures.items c.deref-2.ensures.value c.in_ok-put_texts.ensures c.in_ok-put_pieces.ensures c.as_slice.ensures.value in
    let read : IsReplyRecordOf c.as_slice.result.now c.in_ok-reply.field-0 = c.in_ok-reply.ensures in
    let some = rw c.in-Some.is at read in
    rw (← c.self.view_is) (is_reply (reply_of asked.name asked.request) c.in-Some.reply c.as_slice.result.now (g.met.H.Handlers.replies_fit asked.name asked.request) whole some.0 some.1)
