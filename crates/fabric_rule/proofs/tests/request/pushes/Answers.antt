use Rattle.std.proofs.Common.{rules}
use Rattle.fabric_rule.proofs.tests.request.pushes.Goals as goal

pub push-requires-clause-armed : goal.push-requires-clause-armed
push-requires-clause-armed c = (1, search rules, search rules, search rules)
