use Rattle.port_message.specs.Words.{numbers_of}
use Rattle.fabric_rule.specs.Contents.{CarriesSlots}
use Rattle.fabric_rule.specs.Settling.{Receives}
use Rattle.fabric_rule.proofs.table.FabricTable.receive.Given as goal

abbrev pub ghosts-exchange_word : goal.ghosts-exchange_word
ghosts-exchange_word g a = record {
  tells = λ found me. CarriesSlots me
      × Receives g.row.H.Denot g.H.Handlers.reply_of a.self.now.table.shared.key a.seat.now.id a._about.item a.old a._about.part (numbers_of a._about.run) a.seat.now.me me;
}
