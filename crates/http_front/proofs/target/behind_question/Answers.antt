use Rattle.std.proofs.Common.{◌∙◌, ◌+◌}
use Rattle.std.proofs.lemmas.List.{take_rest}
use Rattle.http_front.specs.Target.{is_question}
use Rattle.http_front.proofs.CutLemmas.{after_at, after_none}
use Rattle.http_front.proofs.target.behind_question.Goals as goal

pub returns-in-Some : goal.returns-in-Some
returns-in-Some c = take_rest c.args.text.now (c.in-Some.at + 1) ∙ after_at is_question c.args.text.now c.in-Some.at c.in-Some.ensures.place

pub returns-in-None : goal.returns-in-None
returns-in-None c = c.as_slice.ensures ∙ after_none is_question c.args.text.now c.in-None.ensures.place
