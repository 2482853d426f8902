use Rattle.http_front.specs.Target.{ends_authority}
use Rattle.http_front.proofs.CutLemmas.{before_at, before_none}
use Rattle.http_front.proofs.target.before_end.Goals as goal

pub returns-in-Some : goal.returns-in-Some
returns-in-Some c = before_at ends_authority c.args.text.now c.in-Some.at c.in-Some.ensures.place

pub returns-in-None : goal.returns-in-None
returns-in-None c = before_none ends_authority c.args.text.now c.in-None.ensures.place
