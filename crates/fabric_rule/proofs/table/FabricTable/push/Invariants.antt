use Rattle.std.proofs.Common.{◌≡◌}
use Rattle.fabric_rule.specs.Sending.{Pushes}
use Rattle.fabric_rule.proofs.table.FabricTable.push.Given as goal

abbrev pub ghosts-exchange_word : goal.ghosts-exchange_word
ghosts-exchange_word g a = record {
  tells = λ found me. (me.1 ≡ a.seat.now.me.1) × (me.0.chunks ≡ a.seat.now.me.0.chunks)
      × Pushes g.row.H.Denot g.H.Handlers.reply_of a.self.now.table.shared.key a.seat.now.id a._about.item a._about.place a._about.entry a.seat.now.me.0 found me.0;
}
