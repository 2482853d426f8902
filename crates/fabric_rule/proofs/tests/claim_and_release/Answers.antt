use Rattle.std.proofs.Common.{◌∙◌, ap, refl}
use Rattle.carried_slots.specs.Carried.{content}
use Rattle.fabric_rule.proofs.tests.claim_and_release.Goals as goal

pub release_bit-requires-clause-empty : goal.release_bit-requires-clause-empty
release_bit-requires-clause-empty c = ap (λ l. content l 0) (c.load-between.ensures.told.slots ∙ c.if-not-claim_bit.ensures.told.slot refl)
