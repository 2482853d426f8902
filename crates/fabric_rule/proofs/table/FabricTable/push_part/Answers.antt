use Rattle.std.proofs.Common.{◌%◌, ◌<◌, refl, ◌∙◌, ap, arith, mod-lt}
use Rattle.nncq_ring.specs.Words.{entry_of}
use Rattle.app_queue.specs.declared.side.Side.TheVariants.{Line}
use Rattle.unit_model.specs.Holding.{items_of}
use Rattle.unit_model.specs.declared.machine.Step.TheVariants.{Push}
use Rattle.fabric_rule.specs.Sending.{queue_to, with_part_put}
use Rattle.fabric_rule.proofs.PartPuts.{push_part}
use Rattle.fabric_words.proofs.Standing.{within}
use Rattle.fabric_rule.specs.Steps.{slot_of}
use Rattle.fabric_rule.proofs.Carrying.{still_carries}
use Rattle.fabric_rule.proofs.Putting.{exchanges}
use Rattle.fabric_rule.proofs.table.FabricTable.push_part.Goals as goal

pub exchange_word-requires-clause-there : goal.exchange_word-requires-clause-there
exchange_word-requires-clause-there g c =
    let table = c.args.self.now.table.shared in
    let slot : c.args.put.place % items_of table.key (queue_to c.args.part) < items_of table.key (queue_to c.args.part) = mod-lt c.args.put.place (omega (arith, c.requires.there.in_items)) in
    let inside = (within table.key (slot_of table.key (queue_to c.args.part) Line c.args.put.place) (record { in_queues = c.requires.there.in_queues; in_items = slot })).1 in
    omega (arith, c.requires.word, inside, c.args.self.now.wide)

pub exchange_word-requires-clause-allowed : goal.exchange_word-requires-clause-allowed
exchange_word-requires-clause-allowed g c =
    let table = c.args.self.now.table.shared in
    let seat = c.args.seat.now.seat in
    let put = c.args.put in
    let next = c.entry_at-next.ensures ∙ ap (λ n. entry_of n put.place put.item) c.requires.size in
    rw c.requires.word
    (rw next
    (λ s holds homes at fits. exchanges g.H.Handlers.reply_of table.key seat.id seat.me.0 seat.me.1 s holds at (queue_to c.args.part) Line c.requires.there.in_queues put.item put.place put.entry c.requires.saw
    (Push seat.me.0.seat (queue_to c.args.part) put.item put.place) (with_part_put c.args.part put.item put.place seat.me.0) refl
    (push_part g.row.H.Denot g.H.Handlers.reply_of table.key s holds seat.id seat.me.0 seat.me.1 at c.requires.worker c.args.part put.item put.place c.requires.work c.requires.there c.requires.holds c.requires.armed)))

pub invariant_of-seat : goal.invariant_of-seat
invariant_of-seat g c =
    let told = c.exchange_word.ensures.told in
    record { carries = still_carries c.args.seat.now.seat.me c.exchange_word.new.seat.me told.0 told.1 c.args.seat.now.carries }

pub returns-clause-told : goal.returns-clause-told
returns-clause-told g c = c.exchange_word.ensures.told.2
