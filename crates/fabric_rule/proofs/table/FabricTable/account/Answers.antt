use Rattle.std.proofs.Common.{arith}
use Rattle.fabric_words.specs.declared.place.Place.TheVariants.{NextStream}
use Rattle.fabric_words.proofs.Standing.{within}
use Rattle.fabric_rule.proofs.SeatSteps.{table_accounts}
use Rattle.fabric_rule.proofs.table.FabricTable.account.Goals as goal

pub load_word-requires-clause-there : goal.load_word-requires-clause-there
load_word-requires-clause-there g c = omega (arith, (within c.args.self.now.table.shared.key NextStream tt).1, c.args.self.now.wide)

pub load_word-requires-clause-allowed : goal.load_word-requires-clause-allowed
load_word-requires-clause-allowed g c =
    let table = c.args.self.now.table.shared in
    let seat = c.args.seat.now.seat in
    table_accounts g.row.H.Denot g.H.Handlers.reply_of table.key table.table_id.slots seat.id seat.me g.C.Accounts.becomes c.requires.may
