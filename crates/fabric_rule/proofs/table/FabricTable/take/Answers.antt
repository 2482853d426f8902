use Rattle.std.proofs.Common.{arith}
use Rattle.fabric_words.specs.declared.place.Place.TheVariants.{Tag}
use Rattle.fabric_words.proofs.Standing.{within}
use Rattle.fabric_rule.proofs.Taking.{exchanges}
use Rattle.fabric_rule.proofs.table.FabricTable.take.Goals as goal

pub exchange_word-requires-clause-there : goal.exchange_word-requires-clause-there
exchange_word-requires-clause-there g c =
    let table = c.args.self.now.table.shared in
    let inside = (within table.key (Tag 0 c.args.held.item) (record { in_queues = omega arith; in_items = c.requires.there })).1 in
    omega (arith, c.requires.word, inside, c.args.self.now.wide)

pub exchange_word-requires-clause-allowed : goal.exchange_word-requires-clause-allowed
exchange_word-requires-clause-allowed g c =
    let table = c.args.self.now.table.shared in
    let seat = c.args.seat.now.seat in
    let held = c.args.held in
    rw c.requires.word
    (λ s holds homes at fits. exchanges g.H.Handlers.reply_of table.key seat.id seat.me.0 seat.me.1 s holds at c.args.seat.now.carries c.requires.main c.requires.worker held.item held.run held.poster c.args.stream (record { in_queues = omega arith; in_items = c.requires.there }) c.requires.holds c.requires.run c.requires.poster c.requires.some)
