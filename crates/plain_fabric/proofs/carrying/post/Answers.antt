use Rattle.std.proofs.Common.{ℕ, ◌+◌, ◌≡◌, List, ◌∷◌, [], length, sym, ap, subst, ◌∙◌}
use Rattle.request_context.specs.Parcels.{joined}
use Rattle.unit_model.specs.Runs.{chunks_for}
use Rattle.unit_model.specs.declared.machine.Step.TheVariants.{Draw}
use Rattle.unit_model.specs.declared.shape.Shape.{Shape}
use Rattle.plain_fabric.specs.Contents.{held_from}
use Rattle.plain_fabric.specs.Schedule.{first_chunk, request_message, sending}
use Rattle.plain_fabric.specs.declared.message.Message.{Message}
use Rattle.plain_fabric.proofs.Carried.{asks_count, asks_joined}
use Rattle.plain_fabric.proofs.Making.{goes_both}
use Rattle.plain_fabric.proofs.carrying.post.Goals as goal

pub send-requires-clause-count : goal.send-requires-clause-count
send-requires-clause-count g c =
    let message = c.of_request-message.ensures ∙ ap (λ (b : List ℕ). request_message c.args.drawn (length b)) c.as_slice.ensures in
    ap length c.in_ok-pieces.ensures ∙ asks_count g.row.H.Denot c.args.posted.now ∙ ap (λ (m : Message). chunks_for m.size) (sym message)

pub returns-clause-goes : goal.returns-clause-goes
returns-clause-goes g c =
    let shape = c.args.store.now.layout.shape in
    let message = c.of_request-message.ensures ∙ ap (λ (b : List ℕ). request_message c.args.drawn (length b)) c.as_slice.ensures in
    let m = request_message c.args.drawn (length c.args.posted.now) in
    goes_both shape c.draw.new.self.layout.shape c.args.store.now.words.items c.draw.new.self.words.items c.send.new.self.words.items c.args.store.now.trace.items c.draw.new.self.trace.items c.send.new.self.trace.items
    (Draw 0 c.of_request-message.result.stream ∷ []) (sending c.draw.new.self.layout.shape c.of_request-message.result) (Draw 0 (c.args.drawn + 1) ∷ []) (sending shape m) c.draw.ensures.shape c.in_ok-draw.ensures.goes c.in_ok-send.ensures.goes
    (ap (λ (k : Message). Draw 0 k.stream ∷ []) message) (ap (λ (s : Shape). sending s c.of_request-message.result) c.draw.ensures.shape ∙ ap (sending shape) message)

pub returns-clause-laid : goal.returns-clause-laid
returns-clause-laid g c =
    let message = c.of_request-message.ensures ∙ ap (λ (b : List ℕ). request_message c.args.drawn (length b)) c.as_slice.ensures in
    let laid = subst (λ (m : Message). held_from c.send.new.self.chunks.items (first_chunk c.draw.new.self.layout.shape m) (chunks_for m.size) ≡ c.in_ok-pieces.pieces.parcels) message c.in_ok-send.ensures.laid in
    ap joined (laid ∙ c.in_ok-pieces.ensures) ∙ asks_joined g.row.H.Denot c.args.posted.now
