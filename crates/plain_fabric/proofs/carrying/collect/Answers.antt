use Rattle.std.proofs.Common.{ℕ, ◌≡◌, ◌+◌, ◌<◌, ◌^◌, ◌++◌, length, refl, sym, ap, ap₂, subst, ◌∙◌, arith}
use Rattle.std.specs.Prelude.{◌↔◌, IsTrue}
use Rattle.request_context.specs.Collecting.{Accepts, IsPart}
use Rattle.request_context.specs.Cutting.{Collected, PartsValue, part_count, part_to, record_to}
use Rattle.request_context.specs.Parcels.{answers_of, joined}
use Rattle.request_context.specs.declared.asked.Asked.{Asked}
use Rattle.unit_model.specs.Runs.{chunks_for}
use Rattle.unit_model.specs.declared.shape.Shape.{Shape}
use Rattle.plain_fabric.specs.Schedule.{part_message, sending, taking}
use Rattle.plain_fabric.specs.Stepping.{CanGo, Goes}
use Rattle.plain_fabric.specs.declared.message.Message.{Message}
use Rattle.plain_fabric.proofs.Carried.{Awaits, all_sent, all_steps, answers_count, answers_size, awaits_more, awaits_none, few_parts as few_of, more_within, part_short, some_part}
use Rattle.plain_fabric.proofs.Placed.{part_goes}
use Rattle.plain_fabric.proofs.carrying.collect.Goals as goal

pub loop-number-init : goal.loop-number-init
loop-number-init g c =
    let reply_of = g.H.Handlers.reply_of in
    let asked : Asked = c.args.parts.now.asked in
    let awaiting : ℕ → Collected = λ (n : ℕ). record { asked = asked; next = n } in
    record {
      asked = refl;
      within = subst (λ (n : ℕ). n < part_count reply_of asked) (sym c.requires.begins) (some_part (reply_of asked.name asked.request));
      awaits = c.requires.awaits ∙ ap awaiting (sym c.requires.begins);
      sent = omega (arith, c.requires.begins);
      empty = c.requires.empty;
      shape = refl;
      goes = subst (λ (n : ℕ). Awaits c.args.store.now.layout.shape c.args.drawn (record_to reply_of asked) c.args.store.now.words.items c.args.store.now.trace.items c.args.sent c.args.store.now.words.items c.args.store.now.trace.items c.args.sent n) (sym c.requires.begins) (λ w t goes. goes);
    }

pub size_of-requires : goal.size_of-requires
size_of-requires g c =
    let reply_of = g.H.Handlers.reply_of in
    let asked : Asked = c.args.parts.now.asked in
    let count : ℕ = part_count reply_of asked in
    let next : ℕ = c.loop-number.parts.next in
    let inside : next < count = c.loop-number.invariant.within in
    let at : c.in-Some.number ≡ next = c.in-Some.ensures.1 in
    let final : IsTrue c.in-Some.last ↔ (next + 1 ≡ count) = subst (λ (a : Asked). IsTrue c.in-Some.last ↔ (next + 1 ≡ part_count reply_of a)) c.loop-number.invariant.asked c.in-Some.ensures.2 in
    let parcels : c.in-Some.pieces.parcels ≡ answers_of reply_of asked next = subst (λ (a : Asked). c.in-Some.pieces.parcels ≡ answers_of reply_of a next) c.loop-number.invariant.asked c.in-Some.ensures.3 in
    let size : length (joined c.in-Some.pieces.parcels) ≡ length (part_to reply_of asked next) = answers_size reply_of asked next c.in-Some.pieces.parcels parcels in
    omega (arith, size, part_short (record_to reply_of asked) next)

pub pass-requires-clause-can : goal.pass-requires-clause-can
pass-requires-clause-can g c =
    let reply_of = g.H.Handlers.reply_of in
    let asked : Asked = c.args.parts.now.asked in
    let count : ℕ = part_count reply_of asked in
    let next : ℕ = c.loop-number.parts.next in
    let inside : next < count = c.loop-number.invariant.within in
    let at : c.in-Some.number ≡ next = c.in-Some.ensures.1 in
    let final : IsTrue c.in-Some.last ↔ (next + 1 ≡ count) = subst (λ (a : Asked). IsTrue c.in-Some.last ↔ (next + 1 ≡ part_count reply_of a)) c.loop-number.invariant.asked c.in-Some.ensures.2 in
    let parcels : c.in-Some.pieces.parcels ≡ answers_of reply_of asked next = subst (λ (a : Asked). c.in-Some.pieces.parcels ≡ answers_of reply_of a next) c.loop-number.invariant.asked c.in-Some.ensures.3 in
    let size : length (joined c.in-Some.pieces.parcels) ≡ length (part_to reply_of asked next) = answers_size reply_of asked next c.in-Some.pieces.parcels parcels in
    let message : c.of_part-message.result ≡ part_message c.args.drawn c.loop-number.sent next c.in-Some.last (length (part_to reply_of asked next)) =
    c.of_part-message.ensures ∙ ap₂ (λ (n s : ℕ). part_message c.args.drawn c.loop-number.sent n c.in-Some.last s) at (c.size_of.ensures ∙ size) in
    let few : c.loop-number.sent < 2 ^ 61 = omega (arith, c.loop-number.invariant.sent, inside, few_of (reply_of asked.name asked.request) (g.met.H.Handlers.replies_fit asked.name asked.request), c.requires.early.0, c.requires.early.1) in
    subst (CanGo c.loop-number.store.layout.shape) (sym message) (part_goes c.loop-number.store.layout.shape c.args.drawn c.loop-number.sent next (length (part_to reply_of asked next)) c.in-Some.last c.loop-number.store.plain few (part_short (record_to reply_of asked) next))

pub pass-requires-clause-count : goal.pass-requires-clause-count
pass-requires-clause-count g c =
    let reply_of = g.H.Handlers.reply_of in
    let asked : Asked = c.args.parts.now.asked in
    let count : ℕ = part_count reply_of asked in
    let next : ℕ = c.loop-number.parts.next in
    let inside : next < count = c.loop-number.invariant.within in
    let at : c.in-Some.number ≡ next = c.in-Some.ensures.1 in
    let final : IsTrue c.in-Some.last ↔ (next + 1 ≡ count) = subst (λ (a : Asked). IsTrue c.in-Some.last ↔ (next + 1 ≡ part_count reply_of a)) c.loop-number.invariant.asked c.in-Some.ensures.2 in
    let parcels : c.in-Some.pieces.parcels ≡ answers_of reply_of asked next = subst (λ (a : Asked). c.in-Some.pieces.parcels ≡ answers_of reply_of a next) c.loop-number.invariant.asked c.in-Some.ensures.3 in
    let size : length (joined c.in-Some.pieces.parcels) ≡ length (part_to reply_of asked next) = answers_size reply_of asked next c.in-Some.pieces.parcels parcels in
    let message : c.of_part-message.result ≡ part_message c.args.drawn c.loop-number.sent next c.in-Some.last (length (part_to reply_of asked next)) =
    c.of_part-message.ensures ∙ ap₂ (λ (n s : ℕ). part_message c.args.drawn c.loop-number.sent n c.in-Some.last s) at (c.size_of.ensures ∙ size) in
    ap length parcels ∙ answers_count g.row.H.Denot reply_of asked next ∙ ap (λ (m : Message). chunks_for m.size) (sym message)

pub returns-in-Whole-clause-sent : goal.returns-in-Whole-clause-sent
returns-in-Whole-clause-sent g c =
    let reply_of = g.H.Handlers.reply_of in
    let asked : Asked = c.args.parts.now.asked in
    let count : ℕ = part_count reply_of asked in
    let next : ℕ = c.loop-number.parts.next in
    let inside : next < count = c.loop-number.invariant.within in
    let at : c.in-Some.number ≡ next = c.in-Some.ensures.1 in
    let final : IsTrue c.in-Some.last ↔ (next + 1 ≡ count) = subst (λ (a : Asked). IsTrue c.in-Some.last ↔ (next + 1 ≡ part_count reply_of a)) c.loop-number.invariant.asked c.in-Some.ensures.2 in
    let parcels : c.in-Some.pieces.parcels ≡ answers_of reply_of asked next = subst (λ (a : Asked). c.in-Some.pieces.parcels ≡ answers_of reply_of a next) c.loop-number.invariant.asked c.in-Some.ensures.3 in
    let size : length (joined c.in-Some.pieces.parcels) ≡ length (part_to reply_of asked next) = answers_size reply_of asked next c.in-Some.pieces.parcels parcels in
    let is_part : IsPart reply_of asked (c.args.drawn + 1) c.in-Some.number c.in-Some.last c.in_ok-pieces.pieces.parcels = record {
      stream = c.requires.stream;
      within = omega (arith, at, inside);
      last = subst (λ (n : ℕ). IsTrue c.in-Some.last ↔ (n + 1 ≡ count)) (sym at) final;
      parcels = c.in_ok-pieces.ensures.same ∙ parcels ∙ ap (answers_of reply_of asked) (sym at);
    } in
    let accepted : Accepts reply_of c.loop-number.collector c.accept.new.self asked next c.in-Some.last c.in_ok-reply.field-0 =
    subst (λ (n : ℕ). Accepts reply_of c.loop-number.collector c.accept.new.self asked n c.in-Some.last c.in_ok-reply.field-0) at (c.in_ok-reply.ensures.answer asked is_part) in
    let whole = rw c.in-Whole.is at accepted in
    all_sent (reply_of asked.name asked.request) next c.loop-number.sent c.args.sent c.loop-number.invariant.sent (final.0 whole.1)

pub returns-in-Whole-clause-goes : goal.returns-in-Whole-clause-goes
returns-in-Whole-clause-goes g c =
    let reply_of = g.H.Handlers.reply_of in
    let asked : Asked = c.args.parts.now.asked in
    let count : ℕ = part_count reply_of asked in
    let next : ℕ = c.loop-number.parts.next in
    let inside : next < count = c.loop-number.invariant.within in
    let at : c.in-Some.number ≡ next = c.in-Some.ensures.1 in
    let final : IsTrue c.in-Some.last ↔ (next + 1 ≡ count) = subst (λ (a : Asked). IsTrue c.in-Some.last ↔ (next + 1 ≡ part_count reply_of a)) c.loop-number.invariant.asked c.in-Some.ensures.2 in
    let parcels : c.in-Some.pieces.parcels ≡ answers_of reply_of asked next = subst (λ (a : Asked). c.in-Some.pieces.parcels ≡ answers_of reply_of a next) c.loop-number.invariant.asked c.in-Some.ensures.3 in
    let size : length (joined c.in-Some.pieces.parcels) ≡ length (part_to reply_of asked next) = answers_size reply_of asked next c.in-Some.pieces.parcels parcels in
    let message : c.of_part-message.result ≡ part_message c.args.drawn c.loop-number.sent next c.in-Some.last (length (part_to reply_of asked next)) =
    c.of_part-message.ensures ∙ ap₂ (λ (n s : ℕ). part_message c.args.drawn c.loop-number.sent n c.in-Some.last s) at (c.size_of.ensures ∙ size) in
    let is_part : IsPart reply_of asked (c.args.drawn + 1) c.in-Some.number c.in-Some.last c.in_ok-pieces.pieces.parcels = record {
      stream = c.requires.stream;
      within = omega (arith, at, inside);
      last = subst (λ (n : ℕ). IsTrue c.in-Some.last ↔ (n + 1 ≡ count)) (sym at) final;
      parcels = c.in_ok-pieces.ensures.same ∙ parcels ∙ ap (answers_of reply_of asked) (sym at);
    } in
    let accepted : Accepts reply_of c.loop-number.collector c.accept.new.self asked next c.in-Some.last c.in_ok-reply.field-0 =
    subst (λ (n : ℕ). Accepts reply_of c.loop-number.collector c.accept.new.self asked n c.in-Some.last c.in_ok-reply.field-0) at (c.in_ok-reply.ensures.answer asked is_part) in
    let m : Message = part_message c.args.drawn c.loop-number.sent next c.in-Some.last (length (part_to reply_of asked next)) in
    let shape : Shape = c.args.store.now.layout.shape in
    let same : c.loop-number.store.layout.shape ≡ shape = c.loop-number.invariant.shape in
    let passed : Goes shape c.loop-number.store.words.items c.pass.new.store.words.items c.loop-number.store.trace.items c.pass.new.store.trace.items (sending shape m ++ taking shape m) =
    subst (λ (k : Message). Goes shape c.loop-number.store.words.items c.pass.new.store.words.items c.loop-number.store.trace.items c.pass.new.store.trace.items (sending shape k ++ taking shape k)) message
    (subst (λ (s : Shape). Goes s c.loop-number.store.words.items c.pass.new.store.words.items c.loop-number.store.trace.items c.pass.new.store.trace.items (sending s c.of_part-message.result ++ taking s c.of_part-message.result)) same c.in_ok-pieces.ensures.goes) in
    let more = awaits_more shape c.args.drawn (record_to reply_of asked) c.args.store.now.words.items c.args.store.now.trace.items c.args.sent c.loop-number.store.words.items c.pass.new.store.words.items c.loop-number.store.trace.items c.pass.new.store.trace.items c.loop-number.sent next (length (part_to reply_of asked next)) c.in-Some.last c.loop-number.invariant.goes inside final refl passed in
    let whole = rw c.in-Whole.is at accepted in
    subst (Goes shape c.args.store.now.words.items c.pass.new.store.words.items c.args.store.now.trace.items c.pass.new.store.trace.items) (all_steps shape c.args.drawn (record_to reply_of asked) (reply_of asked.name asked.request) c.args.sent refl)
    (awaits_none shape c.args.drawn (record_to reply_of asked) c.args.store.now.words.items c.args.store.now.trace.items c.args.sent c.pass.new.store.words.items c.pass.new.store.trace.items (c.loop-number.sent + 1) (next + 1) more (final.0 whole.1))

pub loop-number-preserved : goal.loop-number-preserved
loop-number-preserved g c =
    let reply_of = g.H.Handlers.reply_of in
    let asked : Asked = c.args.parts.now.asked in
    let count : ℕ = part_count reply_of asked in
    let next : ℕ = c.loop-number.parts.next in
    let inside : next < count = c.loop-number.invariant.within in
    let at : c.in-Some.number ≡ next = c.in-Some.ensures.1 in
    let final : IsTrue c.in-Some.last ↔ (next + 1 ≡ count) = subst (λ (a : Asked). IsTrue c.in-Some.last ↔ (next + 1 ≡ part_count reply_of a)) c.loop-number.invariant.asked c.in-Some.ensures.2 in
    let parcels : c.in-Some.pieces.parcels ≡ answers_of reply_of asked next = subst (λ (a : Asked). c.in-Some.pieces.parcels ≡ answers_of reply_of a next) c.loop-number.invariant.asked c.in-Some.ensures.3 in
    let size : length (joined c.in-Some.pieces.parcels) ≡ length (part_to reply_of asked next) = answers_size reply_of asked next c.in-Some.pieces.parcels parcels in
    let message : c.of_part-message.result ≡ part_message c.args.drawn c.loop-number.sent next c.in-Some.last (length (part_to reply_of asked next)) =
    c.of_part-message.ensures ∙ ap₂ (λ (n s : ℕ). part_message c.args.drawn c.loop-number.sent n c.in-Some.last s) at (c.size_of.ensures ∙ size) in
    let is_part : IsPart reply_of asked (c.args.drawn + 1) c.in-Some.number c.in-Some.last c.in_ok-pieces.pieces.parcels = record {
      stream = c.requires.stream;
      within = omega (arith, at, inside);
      last = subst (λ (n : ℕ). IsTrue c.in-Some.last ↔ (n + 1 ≡ count)) (sym at) final;
      parcels = c.in_ok-pieces.ensures.same ∙ parcels ∙ ap (answers_of reply_of asked) (sym at);
    } in
    let accepted : Accepts reply_of c.loop-number.collector c.accept.new.self asked next c.in-Some.last c.in_ok-reply.field-0 =
    subst (λ (n : ℕ). Accepts reply_of c.loop-number.collector c.accept.new.self asked n c.in-Some.last c.in_ok-reply.field-0) at (c.in_ok-reply.ensures.answer asked is_part) in
    let m : Message = part_message c.args.drawn c.loop-number.sent next c.in-Some.last (length (part_to reply_of asked next)) in
    let shape : Shape = c.args.store.now.layout.shape in
    let same : c.loop-number.store.layout.shape ≡ shape = c.loop-number.invariant.shape in
    let passed : Goes shape c.loop-number.store.words.items c.pass.new.store.words.items c.loop-number.store.trace.items c.pass.new.store.trace.items (sending shape m ++ taking shape m) =
    subst (λ (k : Message). Goes shape c.loop-number.store.words.items c.pass.new.store.words.items c.loop-number.store.trace.items c.pass.new.store.trace.items (sending shape k ++ taking shape k)) message
    (subst (λ (s : Shape). Goes s c.loop-number.store.words.items c.pass.new.store.words.items c.loop-number.store.trace.items c.pass.new.store.trace.items (sending s c.of_part-message.result ++ taking s c.of_part-message.result)) same c.in_ok-pieces.ensures.goes) in
    let more = awaits_more shape c.args.drawn (record_to reply_of asked) c.args.store.now.words.items c.args.store.now.trace.items c.args.sent c.loop-number.store.words.items c.pass.new.store.words.items c.loop-number.store.trace.items c.pass.new.store.trace.items c.loop-number.sent next (length (part_to reply_of asked next)) c.in-Some.last c.loop-number.invariant.goes inside final refl passed in
    let again = rw c.in-More.is at accepted in
    let on : c.next.new.self.next ≡ next + 1 = ap (λ (p : PartsValue). p.next) c.in-Some.ensures.4 in
    let collected : Collected = c.loop-number.collector in
    let kept : c.loop-number.collector ≡ record { asked = asked; next = next } = c.loop-number.invariant.awaits in
    let one_more : Collected → Collected = λ (k : Collected). record { asked = k.asked; next = k.next + 1 } in
    let awaiting : ℕ → Collected = λ (n : ℕ). record { asked = asked; next = n } in
    record {
      asked = ap (λ (p : PartsValue). p.asked) c.in-Some.ensures.4 ∙ c.loop-number.invariant.asked;
      within = subst (λ (n : ℕ). n < count) (sym on) (more_within c.in-Some.last next count inside final again.1);
      awaits = again.2 ∙ ap one_more kept ∙ ap awaiting (sym on);
      sent = omega (arith, c.loop-number.invariant.sent, on);
      empty = c.in_ok-pieces.ensures.empty;
      shape = c.pass.ensures.shape ∙ same;
      goes = subst (Awaits shape c.args.drawn (record_to reply_of asked) c.args.store.now.words.items c.args.store.now.trace.items c.args.sent c.pass.new.store.words.items c.pass.new.store.trace.items (c.loop-number.sent + 1)) (sym on) more;
    }
