use Rattle.std.proofs.Common.{◌∙◌}
use Rattle.std.proofs.lemmas.List.{take_rest}
use Rattle.http_front.specs.Target.{ends_authority}
use Rattle.http_front.proofs.CutLemmas.{from_at, from_none}
use Rattle.http_front.proofs.target.from_end.Goals as goal

pub returns-in-Some : goal.returns-in-Some
returns-in-Some c = take_rest c.args.text.now c.in-Some.at ∙ from_at ends_authority c.args.text.now c.in-Some.at c.in-Some.ensures.place

pub returns-in-None : goal.returns-in-None
returns-in-None c = c.as_slice.ensures ∙ from_none ends_authority c.args.text.now c.in-None.ensures.place
