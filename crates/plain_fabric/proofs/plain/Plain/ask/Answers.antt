use Rattle.std.proofs.Common.{ℕ, ◌≡◌, ◌+◌, ◌≤◌, false, length, refl, sym, ap, subst, ◌∙◌, arith}
use Rattle.request_context.specs.Record.{IsRecordable, asked_with, request_record}
use Rattle.plain_fabric.specs.Laws.{IsEarly}
use Rattle.plain_fabric.specs.Plains.{PlainValue, sizes_of}
use Rattle.plain_fabric.proofs.Carried.{can_pass}
use Rattle.plain_fabric.proofs.Keeping.{few_more, made_answered, some_request}
use Rattle.plain_fabric.proofs.plain.Plain.ask.Goals as goal

pub answer-requires-clause-early : goal.answer-requires-clause-early
answer-requires-clause-early g c =
    let drawn : c.self.inside.drawn ≡ c.args.self.now.drawn = ap (λ (v : PlainValue). v.drawn) c.self.view_is in
    let whole : c.self.inside.failed ≡ false = ap (λ (v : PlainValue). v.failed) c.self.view_is ∙ c.requires.whole in
    let idle = c.self.invariant whole in
    (omega (arith, drawn, c.requires.early), idle.few)

pub answer-requires-clause-written : goal.answer-requires-clause-written
answer-requires-clause-written g c =
    let drawn : c.self.inside.drawn ≡ c.args.self.now.drawn = ap (λ (v : PlainValue). v.drawn) c.self.view_is in
    subst (λ (n : ℕ). IsRecordable (asked_with (n + 1) c.args.name.now c.args.request.now)) (sym drawn) c.requires.written

pub answer-requires-clause-fits : goal.answer-requires-clause-fits
answer-requires-clause-fits g c =
    let drawn : c.self.inside.drawn ≡ c.args.self.now.drawn = ap (λ (v : PlainValue). v.drawn) c.self.view_is in
    let fits : length (request_record (asked_with (c.self.inside.drawn + 1) c.args.name.now c.args.request.now)) ≤ 10485760 = subst (λ (n : ℕ). length (request_record (asked_with (n + 1) c.args.name.now c.args.request.now)) ≤ 10485760) (sym drawn) c.requires.fits in
    fits

pub answer-requires-clause-empty : goal.answer-requires-clause-empty
answer-requires-clause-empty g c =
    let whole : c.self.inside.failed ≡ false = ap (λ (v : PlainValue). v.failed) c.self.view_is ∙ c.requires.whole in
    let idle = c.self.invariant whole in
    idle.empty

pub overflow_add-self : goal.overflow_add-self
overflow_add-self g c =
    let drawn : c.self.inside.drawn ≡ c.args.self.now.drawn = ap (λ (v : PlainValue). v.drawn) c.self.view_is in
    omega (arith, drawn, c.requires.early)

pub invariant_of-self-2 : goal.invariant_of-self-2
invariant_of-self-2 g c done =
    let whole : c.self.inside.failed ≡ false = ap (λ (v : PlainValue). v.failed) c.self.view_is ∙ c.requires.whole in
    let idle = c.self.invariant whole in
    let reply = g.H.Handlers.reply_of c.args.name.now c.args.request.now in
    record {
      few = few_more reply c.self.inside.drawn c.self.inside.sent c.in_ok-reply.sent (g.met.H.Handlers.replies_fit c.args.name.now c.args.request.now) idle.few c.in_ok-reply.ensures.sent;
      empty = c.in_ok-reply.ensures.empty;
    }

pub returns-clause-trace : goal.returns-clause-trace
returns-clause-trace g c = rw (← c.self.view_is) c.in_ok-reply.ensures.goes.listed

pub returns-clause-made : goal.returns-clause-made
returns-clause-made g c =
    let drawn : c.self.inside.drawn ≡ c.args.self.now.drawn = ap (λ (v : PlainValue). v.drawn) c.self.view_is in
    let whole : c.self.inside.failed ≡ false = ap (λ (v : PlainValue). v.failed) c.self.view_is ∙ c.requires.whole in
    let idle = c.self.invariant whole in
    let fits : length (request_record (asked_with (c.self.inside.drawn + 1) c.args.name.now c.args.request.now)) ≤ 10485760 = subst (λ (n : ℕ). length (request_record (asked_with (n + 1) c.args.name.now c.args.request.now)) ≤ 10485760) (sym drawn) c.requires.fits in
    let old : PlainValue = record { shape = c.self.inside.store.layout.shape; words = c.self.inside.store.words.items; trace = c.self.inside.store.trace.items; drawn = c.self.inside.drawn; sent = c.self.inside.sent; failed = c.self.inside.failed } in
    let new : PlainValue = record { shape = c.answer.new.store.layout.shape; words = c.answer.new.store.words.items; trace = c.answer.new.store.trace.items; drawn = c.self.inside.drawn + 1; sent = c.in_ok-reply.sent; failed = false } in
    let early : IsEarly old.drawn old.sent = record { few_drawn = omega (arith, drawn, c.requires.early); few_sent = idle.few } in
    let asked = asked_with (c.self.inside.drawn + 1) c.args.name.now c.args.request.now in
    let reply = g.H.Handlers.reply_of c.args.name.now c.args.request.now in
    let can = can_pass (length (request_record asked)) reply (g.met.H.Handlers.replies_fit c.args.name.now c.args.request.now) (some_request asked) fits in
    rw (← c.self.view_is) (λ made has. made_answered old new made (length (request_record asked)) (sizes_of reply) has early can c.answer.ensures.shape refl c.in_ok-reply.ensures.sent c.in_ok-reply.ensures.goes.made)
