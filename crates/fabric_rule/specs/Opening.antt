-- What the first seat of a fabric's table knows: it has the lists of all seat numbers, which a split gives to a seat each.
use Rattle.std.specs.Prelude.{ℕ, ◌+◌, List, [], ◌∷◌, map}
use Rattle.std.specs.List.{range_with_len}
use Rattle.unit_model.specs.Core.{no_seat}
use Rattle.unit_model.specs.declared.shape.Shape.{Shape}
use Rattle.fabric_rule.specs.Views.{empty}
use Rattle.fabric_rule.specs.declared.view.Ledger.{Ledger}
use Rattle.fabric_rule.specs.declared.view.FabricView.{FabricView}

-- the lists of a seat that has done nothing
abbrev pub fresh_ledger : ℕ → Ledger
fresh_ledger seat = record {
  seat = seat;
  lists = no_seat;
  refusals = [];
  opened_works = 0;
  popped = [];
}

abbrev pub first_view : Shape → FabricView
first_view shape =
    record (empty shape) { ledgers = map fresh_ledger (range_with_len 0 (shape.engines + shape.workers)) }

-- the lists of a main seat
abbrev pub first_ledger : List Ledger → Ledger
first_ledger [] = fresh_ledger 0
first_ledger (c ∷ cs) = c

abbrev pub ledger_of : FabricView → Ledger
ledger_of v = first_ledger v.ledgers
