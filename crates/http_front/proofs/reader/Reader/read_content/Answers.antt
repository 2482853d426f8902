use Rattle.std.proofs.Common.{◌∙◌, sym, ap, subst}
use Rattle.http_front.specs.Kept.{Kept, HasRead, marked}
use Rattle.http_front.specs.Reading.{next_reading}
use Rattle.http_front.proofs.KeptLemmas.{has_read_answer, has_read_next, next_ended, next_marked}
use Rattle.http_front.proofs.reader.Reader.read_content.Goals as goal

pub returns-clause-answer : goal.returns-clause-answer
returns-clause-answer c r is = c.turn.ensures.answer ∙ has_read_answer r c.decode.new.self c.args.max_body (c.decode.ensures.read r is)

pub returns-clause-ok : goal.returns-clause-ok
returns-clause-ok c r is =
    subst (λ (k : Kept). HasRead (next_reading r c.args.max_body) k) (sym c.turn.ensures.value)
    (has_read_next r c.decode.new.self c.args.max_body (c.decode.ensures.read r is))

pub returns-clause-ended : goal.returns-clause-ended
returns-clause-ended c = ap (λ (k : Kept). k.ended) c.turn.ensures.value ∙ next_ended c.decode.new.self c.args.max_body ∙ c.decode.ensures.ended

pub returns-clause-marked : goal.returns-clause-marked
returns-clause-marked c = ap marked c.turn.ensures.value ∙ next_marked c.decode.new.self c.args.max_body ∙ c.decode.ensures.marked
