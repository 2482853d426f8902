use Rattle.std.proofs.Common.{◌+◌, sym, subst}
use Rattle.fabric_rule.specs.Seats.{IsParted, first_from, fresh_main}
use Rattle.fabric_rule.specs.declared.view.FabricView.{FabricView}
use Rattle.fabric_rule.proofs.SeatViews.{first_leaves}
use Rattle.fabric_rule.proofs.table.FabricTable.first_main.Goals as goal

pub split-requires-clause-parted : goal.split-requires-clause-parted
split-requires-clause-parted g c =
    let shape = c.args.self.now.table.shared.key in
    let number = c.args.number in
    subst (λ (y : FabricView). IsParted y (first_from shape (number + 1)) (fresh_main shape number)) (sym c.requires.from) (first_leaves shape number c.requires.there)
