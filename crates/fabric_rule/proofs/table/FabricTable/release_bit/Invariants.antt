use Rattle.fabric_rule.specs.Claiming.{Releases}
use Rattle.fabric_rule.specs.Contents.{CarriesSlots}
use Rattle.fabric_rule.proofs.table.FabricTable.release_bit.Given as goal

abbrev pub ghosts-or_word : goal.ghosts-or_word
ghosts-or_word g a = record {
  tells = λ found me. CarriesSlots me
      × Releases g.row.H.Denot g.H.Handlers.reply_of a.self.now.table.shared.key a.seat.now.id a._about.0 a._about.1 a.seat.now.me me;
}
