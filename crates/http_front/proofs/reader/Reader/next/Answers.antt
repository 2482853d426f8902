use Rattle.std.proofs.Common.{◌≡◌, ◌∙◌, sym, subst, IfOk, OnErr}
use Rattle.http_front.specs.Kept.{Kept, HasRead}
use Rattle.http_front.specs.Reading.{Reading, next_answer, next_reading}
use Rattle.http_front.proofs.KeptLemmas.{has_read_answer, has_read_next}
use Rattle.http_front.proofs.reader.Reader.next.Goals as goal

pub returns-then-still_waits-clause-answer : goal.returns-then-still_waits-clause-answer
returns-then-still_waits-clause-answer c r is =
    let waits = c.still_waits.ensures.waits c.if-still_waits.true c.args.max_body in
    sym waits.0 ∙ has_read_answer r c.args.self.now c.args.max_body is

pub returns-then-still_waits-clause-ok : goal.returns-then-still_waits-clause-ok
returns-then-still_waits-clause-ok c r is =
    let waits = c.still_waits.ensures.waits c.if-still_waits.true c.args.max_body in
    subst (λ (k : Kept). HasRead (next_reading r c.args.max_body) k) (waits.1 ∙ sym c.still_waits.ensures.same) (has_read_next r c.args.self.now c.args.max_body is)

pub returns-else-still_waits-clause-answer : goal.returns-else-still_waits-clause-answer
returns-else-still_waits-clause-answer c =
    subst (λ (k : Kept). IfOk c.read.result (λ answer. (r : Reading) → HasRead r k → answer ≡ next_answer r c.args.max_body)) c.still_waits.ensures.same c.read.ensures.answer

pub returns-else-still_waits-clause-err : goal.returns-else-still_waits-clause-err
returns-else-still_waits-clause-err c =
    subst (λ (k : Kept). OnErr c.read.result ((r : Reading) → HasRead r k → HasRead r c.read.new.self)) c.still_waits.ensures.same c.read.ensures.err
