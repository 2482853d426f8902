use Rattle.std.proofs.Common.{◌∙◌, ◌≤◌, ap, sym, subst, ℕ, List, length}
use Rattle.unit_io.specs.Status.{input_limit, place_in, status_in}
use Rattle.unit_top.specs.Laws.{IsLegalAtRest}
use Rattle.unit_top.specs.Outcome.{Refused, script_outcome}
use Rattle.unit_top.specs.Scripts.{script_text}
use Rattle.unit_top.specs.Trace.{script_steps, script_trace}
use Rattle.unit_top.proofs.EndLemmas.{ends_unread}
use Rattle.unit_top.proofs.ScriptLemmas.{long_outcome, read_place, script_ends, script_place}
use Rattle.unit_top.proofs.script.run_script.Goals as goal

pub script-requires : goal.script-requires
script-requires g c = subst (λ (x : List ℕ). length x ≤ input_limit) (sym c.as_slice.ensures) c.in-Ok.ensures.short

pub returns-in-Ok-clause-outcome : goal.returns-in-Ok-clause-outcome
returns-in-Ok-clause-outcome g c = λ input is.
    script_ends (script_text c.args.output g.H.Handlers.reply_of (g.H.Handlers.listed c.args.handlers.now)) input c.as_slice.result.now
    ((c.in-Ok.ensures.all input is).0 ∙ sym c.as_slice.ensures) (subst (λ (x : List ℕ). length x ≤ input_limit) (sym c.as_slice.ensures) c.in-Ok.ensures.short)
    (status_in c.script.result) (g.K.Sink.written c.args.out.now) (g.K.Sink.written c.script.new.out) c.script.ensures.outcome

pub returns-in-Ok-clause-place : goal.returns-in-Ok-clause-place
returns-in-Ok-clause-place g c = λ six input is.
    script_place (script_text c.args.output g.H.Handlers.reply_of (g.H.Handlers.listed c.args.handlers.now)) input c.as_slice.result.now
    ((c.in-Ok.ensures.all input is).0 ∙ sym c.as_slice.ensures) (subst (λ (x : List ℕ). length x ≤ input_limit) (sym c.as_slice.ensures) c.in-Ok.ensures.short)
    (place_in c.script.result) (c.script.ensures.place six)

pub returns-in-Err-clause-outcome : goal.returns-in-Err-clause-outcome
returns-in-Err-clause-outcome g c = λ input is.
    let text = script_text c.args.output g.H.Handlers.reply_of (g.H.Handlers.listed c.args.handlers.now) input in
    ends_unread (script_outcome text input) c.in-Err.stop (g.K.Sink.written c.args.out.now) c.in-Err.ensures.read
    (λ six. long_outcome text input (c.in-Err.ensures.too_long six input is))

pub returns-in-Err-clause-place : goal.returns-in-Err-clause-place
returns-in-Err-clause-place g c = λ six input is.
    long_outcome (script_text c.args.output g.H.Handlers.reply_of (g.H.Handlers.listed c.args.handlers.now) input) input (c.in-Err.ensures.too_long six input is)
    ∙ ap Refused (read_place c.in-Err.stop c.in-Err.ensures.read six)

pub returns-in-Ok-clause-legal : goal.returns-in-Ok-clause-legal
returns-in-Ok-clause-legal g c = λ zero input is.
    let reply_of = g.H.Handlers.reply_of in
    let names = g.H.Handlers.listed c.args.handlers.now in
    subst (λ (bytes : List ℕ). IsLegalAtRest (script_trace reply_of names bytes) (length (script_steps reply_of names bytes)))
    (sym ((c.in-Ok.ensures.all input is).0 ∙ sym c.as_slice.ensures)) (c.script.ensures.legal zero)
