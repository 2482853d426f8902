use Rattle.std.proofs.Common.{◌+◌, arith}
use Rattle.fabric_words.specs.declared.place.Place.TheVariants.{Tag}
use Rattle.fabric_words.proofs.Standing.{within}
use Rattle.fabric_rule.proofs.Settled.{closes}
use Rattle.fabric_rule.proofs.table.FabricTable.withdraw.Goals as goal

pub exchange_word-requires-clause-there : goal.exchange_word-requires-clause-there
exchange_word-requires-clause-there g c =
    let table = c.args.self.now.table.shared in
    let inside = (within table.key (Tag (1 + c.args.poster) c.args.part.item) c.requires.there).1 in
    omega (arith, c.requires.word, inside, c.args.self.now.wide)

pub exchange_word-requires-clause-allowed : goal.exchange_word-requires-clause-allowed
exchange_word-requires-clause-allowed g c =
    let table = c.args.self.now.table.shared in
    let seat = c.args.seat.now.seat in
    rw c.requires.word
    (λ s holds homes at fits. closes g.H.Handlers.reply_of table.key seat.id seat.me.0 seat.me.1 s holds at c.args.seat.now.carries c.args.part.item c.args.stream c.args.poster c.requires.main.0 c.requires.main.1 c.args.part.run c.args.part.part c.requires.main.2 c.requires.there c.requires.holds c.requires.run c.requires.part)
