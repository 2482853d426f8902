use Rattle.std.proofs.Common.{◌≢◌, refl, sym, subst, arith}
use Rattle.unit_model.specs.Sharing.{Holds}
use Rattle.nncq_ring.specs.Seats.{knows}
use Rattle.nncq_ring.specs.Views.{held_by}
use Rattle.nncq_ring.proofs.Holding.{done_turn_holds, whole_holds}
use Rattle.nncq_ring.proofs.tests.the_second_value_stands_at_the_second_place.Goals as goal

pub push_turn-requires-2-clause-held : goal.push_turn-requires-2-clause-held
push_turn-requires-2-clause-held g c =
    let before = knows c.in_ok-ring.seat in
    let one : Holds held_by 1 before = subst (Holds held_by 1) (sym c.in_ok-ring.ensures.3) (whole_holds 4 1 (omega arith)) in
    let two : Holds held_by 2 before = subst (Holds held_by 2) (sym c.in_ok-ring.ensures.3) (whole_holds 4 2 (omega arith)) in
    let other : 2 ≢ 1 = omega arith in
    done_turn_holds c.in_ok-ring.ring.size 1 c.in-Done.first 2 before (knows c.push_turn.new.seat) (c.in-Done.ensures.done c.in-Done.first refl) one other two
