use Rattle.std.proofs.Common.{◌≡◌}
use Rattle.fabric_rule.proofs.table.FabricTable.account.Given as goal

abbrev pub ghosts-load_word : goal.ghosts-load_word
ghosts-load_word g a = record { tells = λ found me. me ≡ (g.C.Accounts.becomes, a.seat.now.me.1) }
