use Rattle.std.proofs.Common.{◌≡◌, ◌∙◌, ℕ, List, refl, sym, ap, subst, arith, map, string_bytes, true≢false, Some}
use Rattle.unit_io.specs.Status.{place_in, status_in}
use Rattle.unit_io.specs.Told.{Adds, AddsFront}
use Rattle.unit_top.specs.Check.{IsCheckRead}
use Rattle.unit_top.specs.Command.{Once, Exchange, Trace, Check, Load, asked, command_of, is_reading}
use Rattle.unit_top.specs.Ends.{line_of_status}
use Rattle.unit_top.proofs.EndLemmas.{asks_listed, check_place, command_ends, command_line, exchange_place, once_place, trace_place}
use Rattle.unit_top.proofs.top.unit_top.Goals as goal

pub run_once-requires : goal.run_once-requires
run_once-requires g c =
    let names = g.H.Handlers.listed c.args.handlers.now in
    let words = map string_bytes c.args.words.now in
    let is : command_of names words ≡ Some (Once c.in-Some-Once.handler.now) = ap (λ (names : List (List ℕ)). command_of names words) (sym c.names.ensures) ∙ c.in-Some-Once.ensures.some ∙ ap Some (ap asked c.in-Some-Once.field-0-is) in
    asks_listed names words c.in-Some-Once.handler.now is

pub returns-in-Some-Once-clause-outcome : goal.returns-in-Some-Once-clause-outcome
returns-in-Some-Once-clause-outcome g c =
    let names = g.H.Handlers.listed c.args.handlers.now in
    let words = map string_bytes c.args.words.now in
    let wanted = command_of names words in
    let is : wanted ≡ Some (Once c.in-Some-Once.handler.now) = ap (λ (names : List (List ℕ)). command_of names words) (sym c.names.ensures) ∙ c.in-Some-Once.ensures.some ∙ ap Some (ap asked c.in-Some-Once.field-0-is) in
    command_ends g.H.Handlers.reply_of names wanted (Once c.in-Some-Once.handler.now) (g.S.Source.left c.args.src.now) (g.K.Sink.written c.args.out.now) (g.K.Sink.written c.run_once.new.out)
    (status_in c.run_once.result) c.end.result c.end.ensures.status is c.run_once.ensures.outcome

pub returns-in-Some-Once-clause-line : goal.returns-in-Some-Once-clause-line
returns-in-Some-Once-clause-line g c =
    let names = g.H.Handlers.listed c.args.handlers.now in
    let words = map string_bytes c.args.words.now in
    let wanted = command_of names words in
    let is : wanted ≡ Some (Once c.in-Some-Once.handler.now) = ap (λ (names : List (List ℕ)). command_of names words) (sym c.names.ensures) ∙ c.in-Some-Once.ensures.some ∙ ap Some (ap asked c.in-Some-Once.field-0-is) in
    let place = place_in c.run_once.result in
    command_line g.H.Handlers.reply_of names wanted (Once c.in-Some-Once.handler.now) (g.S.Source.left c.args.src.now) (g.E.Sink.written c.args.err.now) (g.E.Sink.written c.end.new.err)
    (status_in c.run_once.result) c.end.result place c.end.ensures.status is c.end.ensures.line c.end.ensures.front
    (once_place g.H.Handlers.reply_of names c.in-Some-Once.handler.now (g.S.Source.left c.args.src.now) (g.K.Sink.written c.args.out.now) (g.K.Sink.written c.run_once.new.out)
    (status_in c.run_once.result) place c.run_once.ensures.outcome c.run_once.ensures.place)

pub returns-in-Some-Exchange-clause-outcome : goal.returns-in-Some-Exchange-clause-outcome
returns-in-Some-Exchange-clause-outcome g c =
    let names = g.H.Handlers.listed c.args.handlers.now in
    let words = map string_bytes c.args.words.now in
    let wanted = command_of names words in
    let is : wanted ≡ Some (Exchange) = ap (λ (names : List (List ℕ)). command_of names words) (sym c.names.ensures) ∙ c.in-Some-Exchange.ensures.some ∙ ap Some (ap asked c.in-Some-Exchange.field-0-is) in
    command_ends g.H.Handlers.reply_of names wanted Exchange (g.S.Source.left c.args.src.now) (g.K.Sink.written c.args.out.now) (g.K.Sink.written c.run_script.new.out)
    (status_in c.run_script.result) c.end-in-Some-Exchange.result c.end-in-Some-Exchange.ensures.status is c.run_script.ensures.outcome

pub returns-in-Some-Exchange-clause-line : goal.returns-in-Some-Exchange-clause-line
returns-in-Some-Exchange-clause-line g c =
    let names = g.H.Handlers.listed c.args.handlers.now in
    let words = map string_bytes c.args.words.now in
    let wanted = command_of names words in
    let is : wanted ≡ Some (Exchange) = ap (λ (names : List (List ℕ)). command_of names words) (sym c.names.ensures) ∙ c.in-Some-Exchange.ensures.some ∙ ap Some (ap asked c.in-Some-Exchange.field-0-is) in
    let place = place_in c.run_script.result in
    command_line g.H.Handlers.reply_of names wanted Exchange (g.S.Source.left c.args.src.now) (g.E.Sink.written c.args.err.now) (g.E.Sink.written c.end-in-Some-Exchange.new.err)
    (status_in c.run_script.result) c.end-in-Some-Exchange.result place c.end-in-Some-Exchange.ensures.status is c.end-in-Some-Exchange.ensures.line c.end-in-Some-Exchange.ensures.front
    (λ six. exchange_place g.H.Handlers.reply_of names (g.S.Source.left c.args.src.now) place (c.run_script.ensures.place six))

pub returns-in-Some-Trace-clause-outcome : goal.returns-in-Some-Trace-clause-outcome
returns-in-Some-Trace-clause-outcome g c =
    let names = g.H.Handlers.listed c.args.handlers.now in
    let words = map string_bytes c.args.words.now in
    let wanted = command_of names words in
    let is : wanted ≡ Some (Trace) = ap (λ (names : List (List ℕ)). command_of names words) (sym c.names.ensures) ∙ c.in-Some-Trace.ensures.some ∙ ap Some (ap asked c.in-Some-Trace.field-0-is) in
    command_ends g.H.Handlers.reply_of names wanted Trace (g.S.Source.left c.args.src.now) (g.K.Sink.written c.args.out.now) (g.K.Sink.written c.run_script-in-Some-Trace.new.out)
    (status_in c.run_script-in-Some-Trace.result) c.end-in-Some-Trace.result c.end-in-Some-Trace.ensures.status is c.run_script-in-Some-Trace.ensures.outcome

pub returns-in-Some-Trace-clause-line : goal.returns-in-Some-Trace-clause-line
returns-in-Some-Trace-clause-line g c =
    let names = g.H.Handlers.listed c.args.handlers.now in
    let words = map string_bytes c.args.words.now in
    let wanted = command_of names words in
    let is : wanted ≡ Some (Trace) = ap (λ (names : List (List ℕ)). command_of names words) (sym c.names.ensures) ∙ c.in-Some-Trace.ensures.some ∙ ap Some (ap asked c.in-Some-Trace.field-0-is) in
    let place = place_in c.run_script-in-Some-Trace.result in
    command_line g.H.Handlers.reply_of names wanted Trace (g.S.Source.left c.args.src.now) (g.E.Sink.written c.args.err.now) (g.E.Sink.written c.end-in-Some-Trace.new.err)
    (status_in c.run_script-in-Some-Trace.result) c.end-in-Some-Trace.result place c.end-in-Some-Trace.ensures.status is c.end-in-Some-Trace.ensures.line c.end-in-Some-Trace.ensures.front
    (λ six. trace_place g.H.Handlers.reply_of names (g.S.Source.left c.args.src.now) place (c.run_script-in-Some-Trace.ensures.place six))

pub returns-in-Some-Check-clause-outcome : goal.returns-in-Some-Check-clause-outcome
returns-in-Some-Check-clause-outcome g c =
    let names = g.H.Handlers.listed c.args.handlers.now in
    let words = map string_bytes c.args.words.now in
    let wanted = command_of names words in
    let is : wanted ≡ Some (Check) = ap (λ (names : List (List ℕ)). command_of names words) (sym c.names.ensures) ∙ c.in-Some-Check.ensures.some ∙ ap Some (ap asked c.in-Some-Check.field-0-is) in
    command_ends g.H.Handlers.reply_of names wanted Check (g.S.Source.left c.args.src.now) (g.K.Sink.written c.args.out.now) (g.K.Sink.written c.run_check.new.out)
    (status_in c.run_check.result) c.end-in-Some-Check.result c.end-in-Some-Check.ensures.status is c.run_check.ensures.outcome

pub returns-in-Some-Check-clause-line : goal.returns-in-Some-Check-clause-line
returns-in-Some-Check-clause-line g c =
    let names = g.H.Handlers.listed c.args.handlers.now in
    let words = map string_bytes c.args.words.now in
    let wanted = command_of names words in
    let is : wanted ≡ Some (Check) = ap (λ (names : List (List ℕ)). command_of names words) (sym c.names.ensures) ∙ c.in-Some-Check.ensures.some ∙ ap Some (ap asked c.in-Some-Check.field-0-is) in
    let place = place_in c.run_check.result in
    command_line g.H.Handlers.reply_of names wanted Check (g.S.Source.left c.args.src.now) (g.E.Sink.written c.args.err.now) (g.E.Sink.written c.end-in-Some-Check.new.err)
    (status_in c.run_check.result) c.end-in-Some-Check.result place c.end-in-Some-Check.ensures.status is c.end-in-Some-Check.ensures.line c.end-in-Some-Check.ensures.front
    (λ six. check_place g.H.Handlers.reply_of names (g.S.Source.left c.args.src.now) place (c.run_check.ensures.place six))

pub returns-in-Some-Check-clause-ended : goal.returns-in-Some-Check-clause-ended
returns-in-Some-Check-clause-ended g c = λ zero reading trace told.
    let read = c.run_check.ensures.read trace told in
    read.left ∙ ap Some (read.whole (sym c.end-in-Some-Check.ensures.status ∙ zero))

pub returns-in-Some-Check-clause-check : goal.returns-in-Some-Check-clause-check
returns-in-Some-Check-clause-check g c = λ is trace told.
    subst (λ (n : ℕ). IsCheckRead n trace (g.S.Source.left c.run_check.new.src)) (sym c.end-in-Some-Check.ensures.status) (c.run_check.ensures.read trace told)

pub returns-in-Some-Trace-clause-trace : goal.returns-in-Some-Trace-clause-trace
returns-in-Some-Trace-clause-trace g c = λ zero is. c.run_script-in-Some-Trace.ensures.legal (sym c.end-in-Some-Trace.ensures.status ∙ zero)

pub returns-in-Some-Load-clause-outcome : goal.returns-in-Some-Load-clause-outcome
returns-in-Some-Load-clause-outcome g c =
    let names = g.H.Handlers.listed c.args.handlers.now in
    let words = map string_bytes c.args.words.now in
    let wanted = command_of names words in
    let own = Load c.in-Some-Load.requests c.in-Some-Load.seed in
    let is : wanted ≡ Some own = ap (λ (names : List (List ℕ)). command_of names words) (sym c.names.ensures) ∙ c.in-Some-Load.ensures.some ∙ ap Some (ap asked c.in-Some-Load.field-0-is) in
    command_ends g.H.Handlers.reply_of names wanted own (g.S.Source.left c.args.src.now) (g.K.Sink.written c.args.out.now) (g.K.Sink.written c.run_load.new.out)
    (status_in c.run_load.result) c.end-in-Some-Load.result c.end-in-Some-Load.ensures.status is (λ input none. c.run_load.ensures.outcome)

pub returns-in-Some-Load-clause-ended : goal.returns-in-Some-Load-clause-ended
returns-in-Some-Load-clause-ended g c = λ zero reading.
    let names = g.H.Handlers.listed c.args.handlers.now in
    let words = map string_bytes c.args.words.now in
    let is : command_of names words ≡ Some (Load c.in-Some-Load.requests c.in-Some-Load.seed) = ap (λ (names : List (List ℕ)). command_of names words) (sym c.names.ensures) ∙ c.in-Some-Load.ensures.some ∙ ap Some (ap asked c.in-Some-Load.field-0-is) in
    absurd (true≢false (sym reading ∙ ap is_reading is))

pub returns-in-Some-Load-clause-causes : goal.returns-in-Some-Load-clause-causes
returns-in-Some-Load-clause-causes g c =
    let status = c.end-in-Some-Load.ensures.status in
    let used = c.run_load.ensures.used in
    record {
      read = λ three. absurd (used.1 (sym status ∙ three));
      no_read_fault = λ other. refl;
      write = λ four. c.run_load.ensures.failed (sym status ∙ four);
      no_write_fault = λ other. c.run_load.ensures.kept (λ four. other (status ∙ four));
    }

pub returns-in-Some-Load-clause-line : goal.returns-in-Some-Load-clause-line
returns-in-Some-Load-clause-line g c =
    let names = g.H.Handlers.listed c.args.handlers.now in
    let words = map string_bytes c.args.words.now in
    let wanted = command_of names words in
    let own = Load c.in-Some-Load.requests c.in-Some-Load.seed in
    let is : wanted ≡ Some own = ap (λ (names : List (List ℕ)). command_of names words) (sym c.names.ensures) ∙ c.in-Some-Load.ensures.some ∙ ap Some (ap asked c.in-Some-Load.field-0-is) in
    let place = place_in c.run_load.result in
    command_line g.H.Handlers.reply_of names wanted own (g.S.Source.left c.args.src.now) (g.E.Sink.written c.args.err.now) (g.E.Sink.written c.end-in-Some-Load.new.err)
    (status_in c.run_load.result) c.end-in-Some-Load.result place c.end-in-Some-Load.ensures.status is c.end-in-Some-Load.ensures.line c.end-in-Some-Load.ensures.front
    (λ six. absurd (c.run_load.ensures.used.3 six))

pub returns-in-None-clause-line : goal.returns-in-None-clause-line
returns-in-None-clause-line g c =
    let before = g.E.Sink.written c.args.err.now in
    let after = g.E.Sink.written c.end-in-None.new.err in (
      0,
      λ none. subst (λ (n : ℕ). Adds before after (line_of_status n 0)) (sym c.end-in-None.ensures.status) (c.end-in-None.ensures.line none),
      subst (λ (n : ℕ). AddsFront before after (line_of_status n 0)) (sym c.end-in-None.ensures.status) c.end-in-None.ensures.front,
      λ six. absurd (omega (arith, six, c.end-in-None.ensures.status)),
    )
