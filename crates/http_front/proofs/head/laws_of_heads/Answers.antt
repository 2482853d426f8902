use Rattle.http_front.proofs.HeadLemmas.{head_of-sound, head_of-complete, head_of-none, head_of-no_head}
use Rattle.http_front.proofs.head.laws_of_heads.Goals as goal

pub returns-clause-some : goal.returns-clause-some
returns-clause-some c block h = (head_of-sound block h, head_of-complete block h)

pub returns-clause-none : goal.returns-clause-none
returns-clause-none c block = (head_of-none block, head_of-no_head block)
