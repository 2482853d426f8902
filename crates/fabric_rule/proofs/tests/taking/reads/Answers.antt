use Rattle.std.proofs.Common.{ap, arith}
use Rattle.unit_model.specs.Weights.{is_number, weigh}
use Rattle.fabric_rule.proofs.tests.taking.reads.Goals as goal

pub swap-requires-clause-held : goal.swap-requires-clause-held
swap-requires-clause-held c = omega (arith, c.args.seat.now.carries (is_number 0), ap (λ v. weigh (is_number 0) v.chunks) c.requires.taken.1)
