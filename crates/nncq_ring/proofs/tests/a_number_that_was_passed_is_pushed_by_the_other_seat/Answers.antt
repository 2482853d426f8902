use Rattle.std.proofs.Common.{◌≡◌, [], ◌∷◌, ◌∙◌, ap, refl}
use Rattle.nncq_ring.specs.declared.view.RingView.{RingView}
use Rattle.nncq_ring.specs.Seats.{knows}
use Rattle.nncq_ring.specs.Views.{holding}
use Rattle.nncq_ring.proofs.Holding.{done_alone}
use Rattle.nncq_ring.proofs.tests.a_number_that_was_passed_is_pushed_by_the_other_seat.Goals as goal

pub join-requires-clause-none : goal.join-requires-clause-none
join-requires-clause-none g c =
    let before : RingView = knows c.pass.new.other in
    let alone : before.held ≡ 3 ∷ [] = ap (λ (v : RingView). v.held) (c.pass.ensures.come ∙ ap (holding 3) c.split-other.ensures.made) in
    done_alone c.in_ok-ring.ring.size 3 c.in-Done.place before (knows c.push.new.seat) (c.in-Done.ensures.done c.in-Done.place refl) alone
