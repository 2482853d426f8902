use Rattle.unit_model.proofs.RoleLists.{items_at_first, seats_at_first, seats_by_role_stay}
use Rattle.unit_model.proofs.RoleSteps.{by_role_stays}
use Rattle.unit_model.proofs.laws.each_role_has_its_own.Goals as goal

pub returns-clause-items_at_first : goal.returns-clause-items_at_first
returns-clause-items_at_first c = items_at_first

pub returns-clause-items_stay : goal.returns-clause-items_stay
returns-clause-items_stay c = by_role_stays

pub returns-clause-seats_at_first : goal.returns-clause-seats_at_first
returns-clause-seats_at_first c = seats_at_first

pub returns-clause-seats_stay : goal.returns-clause-seats_stay
returns-clause-seats_stay c = seats_by_role_stay
