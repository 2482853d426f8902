use Rattle.std.proofs.Common.{◌<◌, arith}
use Rattle.fabric_words.specs.declared.place.Place.TheVariants.{NextStream}
use Rattle.fabric_words.proofs.Standing.{within}
use Rattle.fabric_rule.proofs.SeatSteps.{table_joins}
use Rattle.fabric_rule.proofs.SeatViews.{none_carried}
use Rattle.fabric_rule.proofs.table.FabricTable.join.Goals as goal

pub join_seat-requires : goal.join_seat-requires
join_seat-requires g c =
    let table = c.args.self.now.table.shared in
    let seat = c.args.seat.now.seat in
    let other = c.args.other.seat in
    let some : 0 < table.table_id.words = omega (arith, (within table.key NextStream tt).1, c.args.self.now.wide) in (
      c.requires.own.0,
      c.requires.own.1,
      none_carried other.me.0 other.me.1 c.requires.joined.may.chunks c.args.other.carries,
      some,
      table_joins g.row.H.Denot g.H.Handlers.reply_of table.key seat.id other.id seat.me.0 other.me.0 g.C.Whole.both g.C.Whole.spent c.requires.joined c.requires.spent,
    )
