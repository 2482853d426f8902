use Rattle.std.proofs.Common.{◌≡◌}
use Rattle.fabric_rule.specs.Sending.{Gives}
use Rattle.fabric_rule.proofs.table.FabricTable.give.Given as goal

abbrev pub ghosts-exchange_word : goal.ghosts-exchange_word
ghosts-exchange_word g a = record {
  tells = λ found me. (me.1 ≡ a.seat.now.me.1) × (me.0.chunks ≡ a.seat.now.me.0.chunks)
      × Gives g.row.H.Denot g.H.Handlers.reply_of a.self.now.table.shared.key a.seat.now.id a._about.0 a._about.1.item a._about.1.place a._about.1.entry a.seat.now.me.0 found me.0;
}
