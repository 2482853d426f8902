use Rattle.std.proofs.Common.{◌≡◌, ◌+◌, ◌-◌, ◌<◌}
use Rattle.request_context.specs.Cutting.{part_count, record_to}
use Rattle.plain_fabric.specs.Contents.{HoldNothing}
use Rattle.plain_fabric.proofs.Carried.{Awaits}
use Rattle.plain_fabric.proofs.carrying.collect.Given as goal

abbrev pub invariant-loop-number : goal.invariant-loop-number
invariant-loop-number g l = record {
  asked : l.parts.asked ≡ l.fn.parts.asked;
  within : l.parts.next < part_count g.H.Handlers.reply_of l.fn.parts.asked;
  awaits : l.collector ≡ record { asked = l.fn.parts.asked; next = l.parts.next };
  sent : l.sent ≡ l.fn.sent + l.parts.next;
  empty : HoldNothing l.store.chunks.items;
  shape : l.store.layout.shape ≡ l.fn.store.layout.shape;
  goes : Awaits l.fn.store.layout.shape l.drawn (record_to g.H.Handlers.reply_of l.fn.parts.asked) l.fn.store.words.items l.fn.store.trace.items l.fn.sent l.store.words.items l.store.trace.items l.sent l.parts.next;
}

abbrev pub decreases-loop-number : goal.decreases-loop-number
decreases-loop-number g l = part_count g.H.Handlers.reply_of l.parts.asked - l.parts.next
