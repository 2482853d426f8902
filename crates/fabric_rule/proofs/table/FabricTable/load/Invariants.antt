use Rattle.std.proofs.Common.{◌≡◌}
use Rattle.fabric_rule.specs.Told.{Sees}
use Rattle.fabric_rule.proofs.table.FabricTable.load.Given as goal

abbrev pub ghosts-load_word : goal.ghosts-load_word
ghosts-load_word g a = record {
  tells = λ found me. (me.1 ≡ a.seat.now.me.1) × (me.0.chunks ≡ a.seat.now.me.0.chunks)
      × Sees g.row.H.Denot g.H.Handlers.reply_of a.self.now.table.shared.key a.seat.now.id a._about a.seat.now.me found me;
}
