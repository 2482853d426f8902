use Rattle.std.proofs.Common.{arith}
use Rattle.fabric_words.specs.declared.place.Place.TheVariants.{Tail}
use Rattle.fabric_words.proofs.Standing.{within}
use Rattle.fabric_rule.specs.Views.{word_side}
use Rattle.fabric_rule.proofs.Carrying.{still_carries}
use Rattle.fabric_rule.proofs.Helping.{exchanges}
use Rattle.fabric_rule.proofs.table.FabricTable.help.Goals as goal

pub exchange_word-requires-clause-there : goal.exchange_word-requires-clause-there
exchange_word-requires-clause-there g c =
    let table = c.args.self.now.table.shared in
    let inside = (within table.key (Tail c.args.queue (word_side c.args.side)) c.requires.there).1 in
    omega (arith, c.requires.word, inside, c.args.self.now.wide)

pub exchange_word-requires-clause-allowed : goal.exchange_word-requires-clause-allowed
exchange_word-requires-clause-allowed g c =
    let table = c.args.self.now.table.shared in
    let seat = c.args.seat.now.seat in
    let above = c.requires.above in
    rw c.requires.word
    (λ s holds homes at fits. exchanges g.H.Handlers.reply_of table.key seat.id seat.me.0 seat.me.1 s holds at c.args.queue c.args.side c.args.place c.requires.there above.0 above.1 above.2 above.3)

pub invariant_of-seat : goal.invariant_of-seat
invariant_of-seat g c =
    let told = c.exchange_word.ensures.told in
    record { carries = still_carries c.args.seat.now.seat.me c.exchange_word.new.seat.me told.0 told.1 c.args.seat.now.carries }

pub returns-clause-told : goal.returns-clause-told
returns-clause-told g c = c.exchange_word.ensures.told.2
