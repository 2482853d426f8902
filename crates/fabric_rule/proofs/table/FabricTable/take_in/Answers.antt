use Rattle.std.proofs.Common.{inl, refl}
use Rattle.fabric_rule.proofs.table.FabricTable.take_in.Goals as goal

pub join-requires-clause-joined : goal.join-requires-clause-joined
join-requires-clause-joined g c = record { may = c.requires.may; becomes = inl refl }
