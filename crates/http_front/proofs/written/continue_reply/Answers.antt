use Rattle.std.proofs.Common.{refl}
use Rattle.http_front.specs.Written.{phrases}
use Rattle.http_front.proofs.written.continue_reply.Goals as goal

pub returns : goal.returns
unfolding phrases
returns c = refl
