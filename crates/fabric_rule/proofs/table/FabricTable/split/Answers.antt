use Rattle.std.proofs.Common.{◌<◌, arith}
use Rattle.fabric_words.specs.declared.place.Place.TheVariants.{NextStream}
use Rattle.fabric_words.proofs.Standing.{within}
use Rattle.fabric_rule.proofs.SeatSteps.{table_splits}
use Rattle.fabric_rule.proofs.table.FabricTable.split.Goals as goal

pub split_seat-requires : goal.split_seat-requires
split_seat-requires g c =
    let table = c.args.self.now.table.shared in
    let seat = c.args.seat.now.seat in
    let some : 0 < table.table_id.words = omega (arith, (within table.key NextStream tt).1, c.args.self.now.wide) in
    (c.requires.own, some, table_splits g.row.H.Denot g.H.Handlers.reply_of table.key seat.id seat.me.0 g.C.Halves.stays g.C.Halves.leaves c.requires.parted)
