use Rattle.std.proofs.Common.{◌∙◌, sym, subst}
use Rattle.unit_model.specs.Sharing.{Holds}
use Rattle.nncq_ring.specs.Views.{held_by}
use Rattle.nncq_ring.proofs.Holding.{whole_holds}
use Rattle.nncq_ring.proofs.tests.two_threads_meet_each_number_once.Goals as goal

pub pass_all-requires-clause-held : goal.pass_all-requires-clause-held
pass_all-requires-clause-held g c i lt = subst (Holds held_by i) (sym (c.split-other.ensures.kept ∙ c.in_ok-ring.ensures.3)) (whole_holds 2000 i lt)
