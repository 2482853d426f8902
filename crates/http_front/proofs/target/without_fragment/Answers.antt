use Rattle.http_front.specs.Target.{is_hash}
use Rattle.http_front.proofs.CutLemmas.{before_at, before_none}
use Rattle.http_front.proofs.target.without_fragment.Goals as goal

pub returns-in-Some : goal.returns-in-Some
returns-in-Some c = before_at is_hash c.args.text.now c.in-Some.at c.in-Some.ensures.place

pub returns-in-None : goal.returns-in-None
returns-in-None c = before_none is_hash c.args.text.now c.in-None.ensures.place
