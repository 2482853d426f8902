use Rattle.std.proofs.Common.{ap, ap₂, arith}
use Rattle.fabric_rule.proofs.Carrying.{still_carries}
use Rattle.fabric_rule.proofs.SlotLoads.{knows_once}
use Rattle.fabric_rule.proofs.table.FabricTable.once.Goals as goal

pub load_word-requires-clause-there : goal.load_word-requires-clause-there
load_word-requires-clause-there g c = omega (arith, c.args.self.now.wide)

pub load_word-requires-clause-allowed : goal.load_word-requires-clause-allowed
load_word-requires-clause-allowed g c =
    let table = c.args.self.now.table.shared in
    let seat = c.args.seat.now.seat in
    λ s holds homes at fits. knows_once g.H.Handlers.reply_of table.key seat.id seat.me.0 seat.me.1 s holds at c.args.seat.now.carries 0

pub invariant_of-seat : goal.invariant_of-seat
invariant_of-seat g c =
    let told = c.load_word.ensures.told in
    record { carries = still_carries c.args.seat.now.seat.me c.load_word.new.seat.me told.0 (ap (λ v. v.chunks) told.1) c.args.seat.now.carries }

pub returns-clause-same : goal.returns-clause-same
returns-clause-same g c = let told = c.load_word.ensures.told in ap₂ (λ a b. (a, b)) told.1 told.0

pub returns-clause-once : goal.returns-clause-once
returns-clause-once g c = c.load_word.ensures.told.2
