use Rattle.std.proofs.Common.{ℕ, ◌≡◌, ◌+◌, ◌≤◌, false, length, refl, sym, ap, subst, ◌∙◌, arith}
use Rattle.request_context.specs.Record.{IsRecordable, asked_with, request_record}
use Rattle.plain_fabric.specs.Laws.{IsEarly}
use Rattle.plain_fabric.specs.Plains.{PlainValue}
use Rattle.plain_fabric.proofs.Keeping.{made_gone, some_request}
use Rattle.plain_fabric.proofs.plain.Plain.ask_gone.Goals as goal

pub withdraw-requires-clause-early : goal.withdraw-requires-clause-early
withdraw-requires-clause-early g c =
    let drawn : c.self.inside.drawn ≡ c.args.self.now.drawn = ap (λ (v : PlainValue). v.drawn) c.self.view_is in
    omega (arith, drawn, c.requires.early)

pub withdraw-requires-clause-written : goal.withdraw-requires-clause-written
withdraw-requires-clause-written g c =
    let drawn : c.self.inside.drawn ≡ c.args.self.now.drawn = ap (λ (v : PlainValue). v.drawn) c.self.view_is in
    subst (λ (n : ℕ). IsRecordable (asked_with (n + 1) c.args.name.now c.args.request.now)) (sym drawn) c.requires.written

pub withdraw-requires-clause-fits : goal.withdraw-requires-clause-fits
withdraw-requires-clause-fits g c =
    let drawn : c.self.inside.drawn ≡ c.args.self.now.drawn = ap (λ (v : PlainValue). v.drawn) c.self.view_is in
    let fits : length (request_record (asked_with (c.self.inside.drawn + 1) c.args.name.now c.args.request.now)) ≤ 10485760 = subst (λ (n : ℕ). length (request_record (asked_with (n + 1) c.args.name.now c.args.request.now)) ≤ 10485760) (sym drawn) c.requires.fits in
    fits

pub withdraw-requires-clause-empty : goal.withdraw-requires-clause-empty
withdraw-requires-clause-empty g c =
    let whole : c.self.inside.failed ≡ false = ap (λ (v : PlainValue). v.failed) c.self.view_is ∙ c.requires.whole in
    let idle = c.self.invariant whole in
    idle.empty

pub overflow_add-self : goal.overflow_add-self
overflow_add-self g c =
    let drawn : c.self.inside.drawn ≡ c.args.self.now.drawn = ap (λ (v : PlainValue). v.drawn) c.self.view_is in
    omega (arith, drawn, c.requires.early)

pub invariant_of-self-2 : goal.invariant_of-self-2
invariant_of-self-2 g c done =
    let whole : c.self.inside.failed ≡ false = ap (λ (v : PlainValue). v.failed) c.self.view_is ∙ c.requires.whole in
    let idle = c.self.invariant whole in
    let few = idle.few in
    record { few = omega (arith, few); empty = c.in_ok-withdraw.ensures.empty }

pub returns-clause-trace : goal.returns-clause-trace
returns-clause-trace g c = rw (← c.self.view_is) c.in_ok-withdraw.ensures.goes.listed

pub returns-clause-made : goal.returns-clause-made
returns-clause-made g c =
    let drawn : c.self.inside.drawn ≡ c.args.self.now.drawn = ap (λ (v : PlainValue). v.drawn) c.self.view_is in
    let whole : c.self.inside.failed ≡ false = ap (λ (v : PlainValue). v.failed) c.self.view_is ∙ c.requires.whole in
    let idle = c.self.invariant whole in
    let fits : length (request_record (asked_with (c.self.inside.drawn + 1) c.args.name.now c.args.request.now)) ≤ 10485760 = subst (λ (n : ℕ). length (request_record (asked_with (n + 1) c.args.name.now c.args.request.now)) ≤ 10485760) (sym drawn) c.requires.fits in
    let old : PlainValue = record { shape = c.self.inside.store.layout.shape; words = c.self.inside.store.words.items; trace = c.self.inside.store.trace.items; drawn = c.self.inside.drawn; sent = c.self.inside.sent; failed = c.self.inside.failed } in
    let new : PlainValue = record { shape = c.withdraw.new.store.layout.shape; words = c.withdraw.new.store.words.items; trace = c.withdraw.new.store.trace.items; drawn = c.self.inside.drawn + 1; sent = c.self.inside.sent; failed = false } in
    let early : IsEarly old.drawn old.sent = record { few_drawn = omega (arith, drawn, c.requires.early); few_sent = idle.few } in
    let asked = asked_with (c.self.inside.drawn + 1) c.args.name.now c.args.request.now in
    rw (← c.self.view_is) (λ made has. made_gone old new made (length (request_record asked)) has early (some_request asked, fits) c.withdraw.ensures.shape refl refl c.in_ok-withdraw.ensures.goes.made)
