use Rattle.std.proofs.Common.{◌∙◌, sym, subst}
use Rattle.unit_model.specs.Sharing.{Holds}
use Rattle.nncq_ring.specs.Views.{held_by}
use Rattle.nncq_ring.proofs.Holding.{whole_holds}
use Rattle.fabric_bench.proofs.rings.ring_shared_run.Goals as goal

pub pass_half-requires-clause-held : goal.pass_half-requires-clause-held
pass_half-requires-clause-held g c i lt = subst (Holds held_by i) (sym (c.split-other.ensures.kept ∙ c.in_ok-ring.ensures.3)) (whole_holds 64 i lt)
