use Rattle.std.proofs.Common.{ℕ, ◌+◌, List, ◌∷◌, length, ap, ◌∙◌}
use Rattle.std.proofs.lemmas.Result.{on_ok_weaker}
use Rattle.request_context.specs.Record.{asked_with, request_record}
use Rattle.unit_model.specs.declared.machine.Step.TheVariants.{Draw}
use Rattle.unit_model.specs.declared.shape.Shape.{Shape}
use Rattle.plain_fabric.specs.Schedule.{cancelling, request_message, sending}
use Rattle.plain_fabric.proofs.Making.{goes_both}
use Rattle.plain_fabric.proofs.carrying.withdraw.Goals as goal

pub returns-clause-goes : goal.returns-clause-goes
returns-clause-goes g c =
    let shape = c.args.store.now.layout.shape in
    let drawn = c.args.drawn in
    let asked = asked_with (drawn + 1) c.args.name.now c.args.request.now in
    let m = request_message drawn (length (request_record asked)) in
    let message = c.in_ok-message.ensures.message ∙ ap (λ (b : List ℕ). request_message drawn (length b)) c.in_ok-posted.ensures in
    on_ok_weaker c.cancel.result
    (λ goes. goes_both shape c.post.new.store.layout.shape c.args.store.now.words.items c.post.new.store.words.items c.cancel.new.self.words.items c.args.store.now.trace.items c.post.new.store.trace.items c.cancel.new.self.trace.items
    (Draw 0 (drawn + 1) ∷ sending shape (request_message drawn (length c.in_ok-posted.posted))) (cancelling c.post.new.store.layout.shape c.in_ok-message.message) (Draw 0 (drawn + 1) ∷ sending shape m) (cancelling shape m) c.post.ensures.shape c.in_ok-message.ensures.goes goes
    (ap (λ (b : List ℕ). Draw 0 (drawn + 1) ∷ sending shape (request_message drawn (length b))) c.in_ok-posted.ensures)
    (ap (λ (s : Shape). cancelling s c.in_ok-message.message) c.post.ensures.shape ∙ ap (cancelling shape) message))
    c.cancel.ensures.goes
