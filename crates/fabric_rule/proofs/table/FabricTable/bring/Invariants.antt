use Rattle.fabric_rule.specs.Contents.{CarriesSlots}
use Rattle.fabric_rule.specs.Reordering.{Brings}
use Rattle.fabric_rule.proofs.table.FabricTable.bring.Given as goal

abbrev pub ghosts-load_word : goal.ghosts-load_word
ghosts-load_word g a = record {
  tells = λ found me. CarriesSlots me
      × Brings g.row.H.Denot g.H.Handlers.reply_of a.self.now.table.shared.key a.seat.now.id a._about a.seat.now.me me;
}
