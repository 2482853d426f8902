use Rattle.fabric_rule.specs.Contents.{CarriesSlots}
use Rattle.fabric_rule.specs.Told.{Posts}
use Rattle.fabric_rule.proofs.table.FabricTable.post.Given as goal

abbrev pub ghosts-store_word : goal.ghosts-store_word
ghosts-store_word g a = record {
  tells = λ stored me. CarriesSlots me
      × Posts g.row.H.Denot g.H.Handlers.reply_of a.self.now.table.shared.key a.seat.now.id a._about.item a._about.place a.new a._about.run a.seat.now.me me;
}
