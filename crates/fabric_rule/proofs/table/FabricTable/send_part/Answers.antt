use Rattle.std.proofs.Common.{◌∙◌, arith}
use Rattle.fabric_words.specs.declared.place.Place.TheVariants.{Tag}
use Rattle.fabric_words.proofs.Standing.{within}
use Rattle.fabric_rule.specs.Sending.{queue_to}
use Rattle.fabric_rule.proofs.SendStore.{stores}
use Rattle.fabric_rule.proofs.table.FabricTable.send_part.Goals as goal

pub store_word-requires-clause-there : goal.store_word-requires-clause-there
store_word-requires-clause-there g c =
    let table = c.args.self.now.table.shared in
    let inside = (within table.key (Tag (queue_to c.args.part) c.args.got.item) c.requires.there).1 in
    omega (arith, c.requires.word, inside, c.args.self.now.wide)

pub store_word-requires-clause-allowed : goal.store_word-requires-clause-allowed
store_word-requires-clause-allowed g c =
    let table = c.args.self.now.table.shared in
    let seat = c.args.seat.now.seat in
    let got = c.args.got in
    rw c.requires.word
    (λ s holds homes at fits. stores g.H.Handlers.reply_of table.key seat.id seat.me.0 seat.me.1 s holds (homes ∙ c.args.self.now.slots) at c.args.seat.now.carries c.args.part c.requires.main c.requires.worker got.item got.place got.run c.requires.there c.requires.holds c.requires.got c.requires.run c.requires.part c.requires.fits c.requires.carries)
