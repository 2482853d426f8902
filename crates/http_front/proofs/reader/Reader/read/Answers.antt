use Rattle.std.proofs.Common.{◌≡◌, ◌∙◌}
use Rattle.http_front.specs.Kept.{HasRead, kept_answer}
use Rattle.http_front.specs.Reading.{Reading, next_answer}
use Rattle.http_front.proofs.KeptLemmas.{has_read_answer, if_ok}
use Rattle.http_front.proofs.reader.Reader.read.Goals as goal

pub returns-else-is_arriving-clause-answer : goal.returns-else-is_arriving-clause-answer
returns-else-is_arriving-clause-answer c =
    let old = c.args.self.now in
    if_ok c.read_head.result (λ answer. answer ≡ kept_answer old c.args.max_body) (λ answer. (r : Reading) → HasRead r old → answer ≡ next_answer r c.args.max_body)
    (λ answer same r is. same ∙ has_read_answer r old c.args.max_body is) c.read_head.ensures.answer
