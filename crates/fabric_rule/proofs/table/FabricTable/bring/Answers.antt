use Rattle.std.proofs.Common.{◌∙◌, arith}
use Rattle.fabric_rule.proofs.SlotLoads.{brings}
use Rattle.fabric_rule.proofs.table.FabricTable.bring.Goals as goal

pub load_word-requires-clause-there : goal.load_word-requires-clause-there
load_word-requires-clause-there g c = omega (arith, c.args.self.now.wide)

pub load_word-requires-clause-allowed : goal.load_word-requires-clause-allowed
load_word-requires-clause-allowed g c =
    let table = c.args.self.now.table.shared in
    let seat = c.args.seat.now.seat in
    λ s holds homes at fits. brings g.H.Handlers.reply_of table.key seat.id seat.me.0 seat.me.1 s holds (homes ∙ c.args.self.now.slots) at c.args.seat.now.carries 0 c.args.chunk

pub invariant_of-seat : goal.invariant_of-seat
invariant_of-seat g c = record { carries = c.load_word.ensures.told.0 }

pub returns-clause-told : goal.returns-clause-told
returns-clause-told g c = c.load_word.ensures.told.1
