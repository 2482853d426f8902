use Rattle.std.proofs.Common.{arith}
use Rattle.fabric_words.proofs.Standing.{within}
use Rattle.fabric_rule.specs.Looks.{place_of}
use Rattle.fabric_rule.proofs.Loads.{sees}
use Rattle.fabric_rule.proofs.table.FabricTable.load.Goals as goal

pub load_word-requires-clause-there : goal.load_word-requires-clause-there
load_word-requires-clause-there g c =
    let table = c.args.self.now.table.shared in
    let inside = (within table.key (place_of table.key c.args.look) c.requires.there).1 in
    omega (arith, c.requires.word, inside, c.args.self.now.wide)

pub load_word-requires-clause-allowed : goal.load_word-requires-clause-allowed
load_word-requires-clause-allowed g c =
    let table = c.args.self.now.table.shared in
    let seat = c.args.seat.now.seat in
    rw c.requires.word
    (λ s holds homes at fits. sees g.H.Handlers.reply_of table.key seat.id seat.me.0 seat.me.1 s holds at c.args.look c.requires.there)
