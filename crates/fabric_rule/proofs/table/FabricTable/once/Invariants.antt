use Rattle.std.proofs.Common.{◌≡◌}
use Rattle.carried_slots.specs.Carried.{IsDistinct}
use Rattle.fabric_rule.proofs.table.FabricTable.once.Given as goal

abbrev pub ghosts-load_word : goal.ghosts-load_word
ghosts-load_word g a = record { tells = λ found me. (me.1 ≡ a.seat.now.me.1) × (me.0 ≡ a.seat.now.me.0) × IsDistinct a.seat.now.me.1 }
