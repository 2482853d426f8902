use Rattle.fabric_rule.specs.Contents.{CarriesSlots}
use Rattle.fabric_rule.specs.Sending.{Sends}
use Rattle.fabric_rule.proofs.table.FabricTable.send_part.Given as goal

abbrev pub ghosts-store_word : goal.ghosts-store_word
ghosts-store_word g a = record {
  tells = λ stored me. CarriesSlots me
      × Sends g.row.H.Denot g.H.Handlers.reply_of a.self.now.table.shared.key a.seat.now.id a._about.1 a._about.0.item a._about.0.place a._about.0.run a.seat.now.me me;
}
