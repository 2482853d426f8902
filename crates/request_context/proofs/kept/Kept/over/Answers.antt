use Rattle.request_context.proofs.Compared.{kept_is, kept_whole}
use Rattle.request_context.proofs.kept.Kept.over.Goals as goal

pub invariant_of-result : goal.invariant_of-result
invariant_of-result c = kept_whole c.args.posted c.requires.0 c.requires.1

pub returns : goal.returns
returns c = kept_is c.args.posted
