use Rattle.std.proofs.Common.{◌≡◌}
use Rattle.fabric_rule.specs.Storing.{StoresPart}
use Rattle.fabric_rule.proofs.table.FabricTable.store_part.Given as goal

abbrev pub ghosts-store_word : goal.ghosts-store_word
ghosts-store_word g a = record {
  tells = λ stored me. (me.1 ≡ a.seat.now.me.1) × (me.0.chunks ≡ a.seat.now.me.0.chunks)
      × StoresPart g.row.H.Denot g.H.Handlers.reply_of a.self.now.table.shared.key a.seat.now.id a._about.0 a._about.1 a.new a.seat.now.me me;
}
