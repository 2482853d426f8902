use Rattle.std.proofs.Common.{ℕ, ◌≡◌, ◌+◌, List, ◌∷◌, ◌++◌, length, refl, sym, ap, subst, ◌∙◌, arith}
use Rattle.std.specs.Prelude.{IfOk, Some}
use Rattle.std.proofs.lemmas.Result.{on_ok_weaker}
use Rattle.request_context.specs.Cutting.{Collected, PartsValue}
use Rattle.request_context.specs.Parcels.{joined}
use Rattle.request_context.specs.Record.{IsRecordOf, asked_with, request_record}
use Rattle.request_context.specs.declared.asked.Asked.{Asked}
use Rattle.unit_model.specs.Runs.{chunks_for}
use Rattle.unit_model.specs.declared.machine.Step.TheVariants.{Draw}
use Rattle.unit_model.specs.declared.shape.Shape.{Shape}
use Rattle.unit_types.specs.declared.message.Reply.{Reply}
use Rattle.plain_fabric.specs.Contents.{held_from}
use Rattle.plain_fabric.specs.Plains.{sizes_of}
use Rattle.plain_fabric.specs.Schedule.{first_chunk, part_steps, request_message, sending, taking}
use Rattle.plain_fabric.specs.declared.message.Message.{Message}
use Rattle.plain_fabric.proofs.Making.{goes_both}
use Rattle.plain_fabric.proofs.carrying.answer.Goals as goal

pub over-collector-requires : goal.over-collector-requires
over-collector-requires g c =
    let asked : Asked = asked_with (c.args.counts.0 + 1) c.args.name.now c.args.request.now in
    let has : IsRecordOf c.in_ok-posted.posted (Some asked) = (record { stream = omega (arith, c.requires.early.0); from = c.look_at_addresses.ensures.0; to = c.look_at_addresses.ensures.1; parts = c.requires.written }, c.in_ok-posted.ensures) in
    (asked, has)

pub read-requires-clause-laid : goal.read-requires-clause-laid
read-requires-clause-laid g c =
    let asked : Asked = asked_with (c.args.counts.0 + 1) c.args.name.now c.args.request.now in
    let has : IsRecordOf c.in_ok-posted.posted (Some asked) = (record { stream = omega (arith, c.requires.early.0); from = c.look_at_addresses.ensures.0; to = c.look_at_addresses.ensures.1; parts = c.requires.written }, c.in_ok-posted.ensures) in
    let laid : joined (held_from c.post.new.store.chunks.items (first_chunk c.post.new.store.layout.shape c.in_ok-message.message) (chunks_for c.in_ok-message.message.size)) ≡ c.in_ok-posted.posted =
    subst (λ (m : Message). joined (held_from c.post.new.store.chunks.items (first_chunk c.post.new.store.layout.shape m) (chunks_for m.size)) ≡ c.in_ok-posted.posted) (sym c.in_ok-message.ensures.message) c.in_ok-message.ensures.laid in
    (asked, (has.0, laid ∙ has.1))

pub collect-requires-clause-awaits : goal.collect-requires-clause-awaits
collect-requires-clause-awaits g c =
    let asked : Asked = asked_with (c.args.counts.0 + 1) c.args.name.now c.args.request.now in
    let has : IsRecordOf c.in_ok-posted.posted (Some asked) = (record { stream = omega (arith, c.requires.early.0); from = c.look_at_addresses.ensures.0; to = c.look_at_addresses.ensures.1; parts = c.requires.written }, c.in_ok-posted.ensures) in
    let laid : joined (held_from c.post.new.store.chunks.items (first_chunk c.post.new.store.layout.shape c.in_ok-message.message) (chunks_for c.in_ok-message.message.size)) ≡ c.in_ok-posted.posted =
    subst (λ (m : Message). joined (held_from c.post.new.store.chunks.items (first_chunk c.post.new.store.layout.shape m) (chunks_for m.size)) ≡ c.in_ok-posted.posted) (sym c.in_ok-message.ensures.message) c.in_ok-message.ensures.laid in
    let found : c.in_ok-asked.asked ≡ asked = c.in_ok-asked.ensures.asked asked (has.0, laid ∙ has.1) in
    let parts : c.in_ok-parts.parts.asked ≡ asked = ap (λ (p : PartsValue). p.asked) c.in_ok-parts.ensures ∙ c.in_ok-asked-2.ensures.ok ∙ found in
    let awaiting : Asked → Collected = λ (a : Asked). record { asked = a; next = 0 } in
    c.over-collector.ensures asked has ∙ ap awaiting (sym parts)

pub collect-requires-clause-stream : goal.collect-requires-clause-stream
collect-requires-clause-stream g c =
    let asked : Asked = asked_with (c.args.counts.0 + 1) c.args.name.now c.args.request.now in
    let has : IsRecordOf c.in_ok-posted.posted (Some asked) = (record { stream = omega (arith, c.requires.early.0); from = c.look_at_addresses.ensures.0; to = c.look_at_addresses.ensures.1; parts = c.requires.written }, c.in_ok-posted.ensures) in
    let laid : joined (held_from c.post.new.store.chunks.items (first_chunk c.post.new.store.layout.shape c.in_ok-message.message) (chunks_for c.in_ok-message.message.size)) ≡ c.in_ok-posted.posted =
    subst (λ (m : Message). joined (held_from c.post.new.store.chunks.items (first_chunk c.post.new.store.layout.shape m) (chunks_for m.size)) ≡ c.in_ok-posted.posted) (sym c.in_ok-message.ensures.message) c.in_ok-message.ensures.laid in
    let found : c.in_ok-asked.asked ≡ asked = c.in_ok-asked.ensures.asked asked (has.0, laid ∙ has.1) in
    let parts : c.in_ok-parts.parts.asked ≡ asked = ap (λ (p : PartsValue). p.asked) c.in_ok-parts.ensures ∙ c.in_ok-asked-2.ensures.ok ∙ found in
    ap (λ (a : Asked). a.stream) parts

pub returns-clause-reply : goal.returns-clause-reply
returns-clause-reply g c =
    let asked : Asked = asked_with (c.args.counts.0 + 1) c.args.name.now c.args.request.now in
    let has : IsRecordOf c.in_ok-posted.posted (Some asked) = (record { stream = omega (arith, c.requires.early.0); from = c.look_at_addresses.ensures.0; to = c.look_at_addresses.ensures.1; parts = c.requires.written }, c.in_ok-posted.ensures) in
    let laid : joined (held_from c.post.new.store.chunks.items (first_chunk c.post.new.store.layout.shape c.in_ok-message.message) (chunks_for c.in_ok-message.message.size)) ≡ c.in_ok-posted.posted =
    subst (λ (m : Message). joined (held_from c.post.new.store.chunks.items (first_chunk c.post.new.store.layout.shape m) (chunks_for m.size)) ≡ c.in_ok-posted.posted) (sym c.in_ok-message.ensures.message) c.in_ok-message.ensures.laid in
    let found : c.in_ok-asked.asked ≡ asked = c.in_ok-asked.ensures.asked asked (has.0, laid ∙ has.1) in
    let parts : c.in_ok-parts.parts.asked ≡ asked = ap (λ (p : PartsValue). p.asked) c.in_ok-parts.ensures ∙ c.in_ok-asked-2.ensures.ok ∙ found in
    subst (λ (a : Asked). IfOk c.collect.result (λ (told : Reply × ℕ). told.0 ≡ g.H.Handlers.reply_of a.name a.request)) parts c.collect.ensures.reply

pub returns-clause-sent : goal.returns-clause-sent
returns-clause-sent g c =
    let asked : Asked = asked_with (c.args.counts.0 + 1) c.args.name.now c.args.request.now in
    let has : IsRecordOf c.in_ok-posted.posted (Some asked) = (record { stream = omega (arith, c.requires.early.0); from = c.look_at_addresses.ensures.0; to = c.look_at_addresses.ensures.1; parts = c.requires.written }, c.in_ok-posted.ensures) in
    let laid : joined (held_from c.post.new.store.chunks.items (first_chunk c.post.new.store.layout.shape c.in_ok-message.message) (chunks_for c.in_ok-message.message.size)) ≡ c.in_ok-posted.posted =
    subst (λ (m : Message). joined (held_from c.post.new.store.chunks.items (first_chunk c.post.new.store.layout.shape m) (chunks_for m.size)) ≡ c.in_ok-posted.posted) (sym c.in_ok-message.ensures.message) c.in_ok-message.ensures.laid in
    let found : c.in_ok-asked.asked ≡ asked = c.in_ok-asked.ensures.asked asked (has.0, laid ∙ has.1) in
    let parts : c.in_ok-parts.parts.asked ≡ asked = ap (λ (p : PartsValue). p.asked) c.in_ok-parts.ensures ∙ c.in_ok-asked-2.ensures.ok ∙ found in
    subst (λ (a : Asked). IfOk c.collect.result (λ (told : Reply × ℕ). told.1 ≡ c.args.counts.1 + length (sizes_of (g.H.Handlers.reply_of a.name a.request)))) parts c.collect.ensures.sent

pub returns-clause-goes : goal.returns-clause-goes
returns-clause-goes g c =
    let asked : Asked = asked_with (c.args.counts.0 + 1) c.args.name.now c.args.request.now in
    let has : IsRecordOf c.in_ok-posted.posted (Some asked) = (record { stream = omega (arith, c.requires.early.0); from = c.look_at_addresses.ensures.0; to = c.look_at_addresses.ensures.1; parts = c.requires.written }, c.in_ok-posted.ensures) in
    let laid : joined (held_from c.post.new.store.chunks.items (first_chunk c.post.new.store.layout.shape c.in_ok-message.message) (chunks_for c.in_ok-message.message.size)) ≡ c.in_ok-posted.posted =
    subst (λ (m : Message). joined (held_from c.post.new.store.chunks.items (first_chunk c.post.new.store.layout.shape m) (chunks_for m.size)) ≡ c.in_ok-posted.posted) (sym c.in_ok-message.ensures.message) c.in_ok-message.ensures.laid in
    let found : c.in_ok-asked.asked ≡ asked = c.in_ok-asked.ensures.asked asked (has.0, laid ∙ has.1) in
    let parts : c.in_ok-parts.parts.asked ≡ asked = ap (λ (p : PartsValue). p.asked) c.in_ok-parts.ensures ∙ c.in_ok-asked-2.ensures.ok ∙ found in
    let shape : Shape = c.args.store.now.layout.shape in
    let one : Shape = c.post.new.store.layout.shape in
    let two : Shape = c.read.new.store.layout.shape in
    let drawn : ℕ = c.args.counts.0 in
    let m : Message = request_message drawn (length (request_record asked)) in
    let message : c.in_ok-message.message ≡ m = c.in_ok-message.ensures.message ∙ ap (λ (b : List ℕ). request_message drawn (length b)) c.in_ok-posted.ensures in
    let there = goes_both shape one c.args.store.now.words.items c.post.new.store.words.items c.read.new.store.words.items c.args.store.now.trace.items c.post.new.store.trace.items c.read.new.store.trace.items
    (Draw 0 (drawn + 1) ∷ sending shape (request_message drawn (length c.in_ok-posted.posted))) (taking one c.in_ok-message.message) (Draw 0 (drawn + 1) ∷ sending shape m) (taking shape m) c.post.ensures.shape c.in_ok-message.ensures.goes c.in_ok-asked.ensures.goes
    (ap (λ (b : List ℕ). Draw 0 (drawn + 1) ∷ sending shape (request_message drawn (length b))) c.in_ok-posted.ensures)
    (ap (λ (s : Shape). taking s c.in_ok-message.message) c.post.ensures.shape ∙ ap (taking shape) message) in
    let same : two ≡ shape = c.read.ensures.shape ∙ c.post.ensures.shape in
    on_ok_weaker c.collect.result
    (λ goes. goes_both shape two c.args.store.now.words.items c.read.new.store.words.items c.collect.new.store.words.items c.args.store.now.trace.items c.read.new.store.trace.items c.collect.new.store.trace.items
    ((Draw 0 (drawn + 1) ∷ sending shape m) ++ taking shape m) (part_steps two drawn c.args.counts.1 0 (sizes_of (g.H.Handlers.reply_of c.in_ok-parts.parts.asked.name c.in_ok-parts.parts.asked.request)))
    ((Draw 0 (drawn + 1) ∷ sending shape m) ++ taking shape m) (part_steps shape drawn c.args.counts.1 0 (sizes_of (g.H.Handlers.reply_of asked.name asked.request))) same there goes refl
    (ap (λ (s : Shape). part_steps s drawn c.args.counts.1 0 (sizes_of (g.H.Handlers.reply_of c.in_ok-parts.parts.asked.name c.in_ok-parts.parts.asked.request))) same
    ∙ ap (λ (a : Asked). part_steps shape drawn c.args.counts.1 0 (sizes_of (g.H.Handlers.reply_of a.name a.request))) parts))
    c.collect.ensures.goes
