use Rattle.std.proofs.Common.{◌==◌, ◌%◌}
use Rattle.std.specs.Int.{bit_at}
use Rattle.fabric_rule.specs.Claiming.{Claims}
use Rattle.fabric_rule.specs.Contents.{CarriesSlots}
use Rattle.fabric_rule.proofs.table.FabricTable.claim_bit.Given as goal

abbrev pub ghosts-and_word : goal.ghosts-and_word
ghosts-and_word g a = record {
  tells = λ found me. CarriesSlots me
      × Claims g.row.H.Denot g.H.Handlers.reply_of a.self.now.table.shared.key a.seat.now.id a._about.0 a._about.1 a.seat.now.me (bit_at found (a._about.1 % 64) == 1) me;
}
