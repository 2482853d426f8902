use Rattle.std.proofs.Common.{◌≡◌, ◌∙◌, ap, length}
use Rattle.std.proofs.lemmas.List.{length-map}
use Rattle.conf_shared.specs.Lists.{bare_configurations}
use Rattle.conf_shared.proofs.shared.Shared.publish.Goals as goal

pub of-published-requires : goal.of-published-requires
of-published-requires g c =
    c.number.ensures ∙ (ap length (c.in_ok-follow.ensures.all ∙ ap bare_configurations c.currents-currents.ensures) ∙ length-map _ _)
