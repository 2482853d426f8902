use Rattle.std.proofs.Common.{arith}
use Rattle.fabric_words.specs.declared.place.Place.TheVariants.{Tag}
use Rattle.fabric_words.proofs.Standing.{within}
use Rattle.fabric_rule.proofs.Settled.{cancels}
use Rattle.fabric_rule.proofs.table.FabricTable.cancel.Goals as goal

pub exchange_word-requires-clause-there : goal.exchange_word-requires-clause-there
exchange_word-requires-clause-there g c =
    let table = c.args.self.now.table.shared in
    let inside = (within table.key (Tag 0 c.args.posted.item) (record { in_queues = omega arith; in_items = c.requires.there })).1 in
    omega (arith, c.requires.word, inside, c.args.self.now.wide)

pub exchange_word-requires-clause-allowed : goal.exchange_word-requires-clause-allowed
exchange_word-requires-clause-allowed g c =
    let table = c.args.self.now.table.shared in
    let seat = c.args.seat.now.seat in
    rw c.requires.word
    (λ s holds homes at fits. cancels g.H.Handlers.reply_of table.key seat.id seat.me.0 seat.me.1 s holds at c.args.seat.now.carries c.args.posted.item c.args.stream c.args.posted.run c.requires.main (record { in_queues = omega arith; in_items = c.requires.there }) c.requires.post c.requires.unreceived)
