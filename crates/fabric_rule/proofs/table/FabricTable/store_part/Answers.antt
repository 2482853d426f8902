use Rattle.std.proofs.Common.{arith}
use Rattle.fabric_words.specs.declared.place.Place.TheVariants.{PartWord}
use Rattle.fabric_words.proofs.Standing.{within}
use Rattle.fabric_rule.proofs.Carrying.{still_carries}
use Rattle.fabric_rule.proofs.ItemStores.{stores_part}
use Rattle.fabric_rule.proofs.table.FabricTable.store_part.Goals as goal

pub store_word-requires-clause-there : goal.store_word-requires-clause-there
store_word-requires-clause-there g c =
    let table = c.args.self.now.table.shared in
    let inside = (within table.key (PartWord c.args.queue c.args.item) c.requires.may.there).1 in
    omega (arith, c.requires.word, inside, c.args.self.now.wide)

pub store_word-requires-clause-allowed : goal.store_word-requires-clause-allowed
store_word-requires-clause-allowed g c =
    let table = c.args.self.now.table.shared in
    let seat = c.args.seat.now.seat in
    rw c.requires.word
    (λ s holds homes at fits. stores_part g.H.Handlers.reply_of table.key seat.id seat.me.0 seat.me.1 s holds at c.args.queue c.args.item c.args.part c.requires.may)

pub invariant_of-seat : goal.invariant_of-seat
invariant_of-seat g c =
    let told = c.store_word.ensures.told in
    record { carries = still_carries c.args.seat.now.seat.me c.store_word.new.seat.me told.0 told.1 c.args.seat.now.carries }

pub returns-clause-told : goal.returns-clause-told
returns-clause-told g c = c.store_word.ensures.told.2
