use Rattle.std.proofs.Common.{◌≡◌, ◌∙◌, ◌≤◌, ◌+◌, [], ◌∷◌, arith, ap, sym, subst, List, ℕ, IfSome, Some, None, Option, option_map, length, refl}
use Rattle.unit_types.specs.declared.message.Request.{Request}
use Rattle.conf_validate.specs.Current.{numbered}
use Rattle.conn_machine.specs.Calls.{wrote}
use Rattle.conn_machine.specs.Records.{rewrite_of}
use Rattle.conn_machine.specs.Shows.{Held, IsAfter, asking_in}
use Rattle.request_context.specs.Record.{IsRecordable, asked_with}
use Rattle.plain_fabric.specs.Plains.{next_record}
use Rattle.unit_top.specs.Posting.{Asked, HasPosted}
use Rattle.unit_top.specs.declared.fabric.Output.TheVariants.{Steps}
use Rattle.unit_top.proofs.ConnectionLemmas.{AskLaws, OneLaws, again, asked_needs, fits_segment, none_left, over, replied}
use Rattle.unit_top.proofs.PostingLemmas.{one_asked}
use Rattle.unit_top.proofs.connection.serve_next.Goals as goal

pub ask-requires-clause-written : goal.ask-requires-clause-written
ask-requires-clause-written g c =
    let a = wrote (length c.args.machine.now.out) c.requires.shown.1 in
    let shows = c.in_ok-pass_out.ensures.shows c.requires.shown.0 c.requires.shown.1 c.requires.shown.2 in
    subst (λ (name : List ℕ). IsRecordable (asked_with (c.args.plain.now.drawn + 1) name c.in-Some.asked.now.1)) (sym c.as_slice.ensures)
    (c.in-Some.ensures.short c.requires.shown.0 a (c.args.plain.now.drawn + 1) shows).can

pub ask-requires-clause-fits : goal.ask-requires-clause-fits
ask-requires-clause-fits g c =
    let a = wrote (length c.args.machine.now.out) c.requires.shown.1 in
    let shows = c.in_ok-pass_out.ensures.shows c.requires.shown.0 c.requires.shown.1 c.requires.shown.2 in
    let stream = c.args.plain.now.drawn + 1 in
    subst (λ (name : List ℕ). length (next_record c.args.plain.now name c.in-Some.asked.now.1) ≤ 10485760) (sym c.as_slice.ensures)
    (fits_segment (rewrite_of c.requires.shown.0 a.state) (asked_with stream c.in-Some.asked.now.0 c.in-Some.asked.now.1)
    (c.in-Some.ensures.short c.requires.shown.0 a stream shows))

pub on_reply-requires-clause-ask : goal.on_reply-requires-clause-ask
on_reply-requires-clause-ask g c =
    asked_needs c.pass_out.new.machine c.in-Some.asked.now (sym c.asking.ensures.value ∙ ap (option_map (λ asked. asked.now)) c.in-Some.is)

pub on_reply-requires-clause-after : goal.on_reply-requires-clause-after
on_reply-requires-clause-after g c =
    subst (λ (m : Held). IsAfter m.met (numbered c.args.conf.now)) (sym c.in_ok-pass_out.ensures.value) c.requires.after

pub on_reply-requires-clause-reply : goal.on_reply-requires-clause-reply
on_reply-requires-clause-reply g c =
    let is : asking_in c.pass_out.new.machine ≡ Some c.in-Some.asked.now = sym c.asking.ensures.value ∙ ap (option_map (λ asked. asked.now)) c.in-Some.is in
    let reply : c.in_ok-reply.reply ≡ g.H.Handlers.reply_of c.in-Some.asked.now.0 c.in-Some.asked.now.1 =
    c.in_ok-reply.ensures.reply ∙ ap (λ name. g.H.Handlers.reply_of name c.in-Some.asked.now.1) c.as_slice.ensures in
    subst (λ (o : Option (List ℕ × Request)). IfSome o (λ asked. c.in_ok-reply.reply ≡ g.H.Handlers.reply_of asked.0 asked.1)) (sym is) reply

pub returns-in_default-clause-serves : goal.returns-in_default-clause-serves
returns-in_default-clause-serves g c = λ connection bytes asks serving.
    let laws : OneLaws = record {
      replied = c.laws_of_one_configuration.ensures.replied;
      writes = c.laws_of_one_configuration.ensures.wrote;
      closes = c.laws_of_one_configuration.ensures.closes;
      ends = c.laws_of_one_configuration.ensures.ends;
      asks = c.laws_of_ends.ensures.asks;
    } in
    let ask_laws : AskLaws = record {
      asked = c.laws_of_asks.ensures.asked;
      stay = c.laws_of_asks.ensures.wrote;
      none = c.laws_of_asks.ensures.closes;
    } in
    let current = numbered c.args.conf.now in
    let none : asking_in c.pass_out.new.machine ≡ None = sym c.asking.ensures.value ∙ ap (option_map (λ asked. asked.now)) c.in_default.is in (
      over laws ask_laws g.H.Handlers.reply_of connection current bytes c.args.out.now c.pass_out.new.out asks c.args.machine.now c.pass_out.new.machine
          c.in_ok-pass_out.ensures.out c.in_ok-pass_out.ensures.shows c.asking.ensures.asking serving none,
      none_left laws ask_laws g.H.Handlers.reply_of connection current bytes c.args.out.now c.pass_out.new.out asks c.args.machine.now c.pass_out.new.machine
          c.in_ok-pass_out.ensures.out c.in_ok-pass_out.ensures.shows c.asking.ensures.asking serving none,
      refl,
    )

pub returns-in_default-clause-after : goal.returns-in_default-clause-after
returns-in_default-clause-after g c =
    subst (λ (m : Held). IsAfter m.met (numbered c.args.conf.now)) (sym c.in_ok-pass_out.ensures.value) c.requires.after

pub returns-clause-serves : goal.returns-clause-serves
returns-clause-serves g c = λ connection bytes asks serving.
    let laws : OneLaws = record {
      replied = c.laws_of_one_configuration.ensures.replied;
      writes = c.laws_of_one_configuration.ensures.wrote;
      closes = c.laws_of_one_configuration.ensures.closes;
      ends = c.laws_of_one_configuration.ensures.ends;
      asks = c.laws_of_ends.ensures.asks;
    } in
    let ask_laws : AskLaws = record {
      asked = c.laws_of_asks.ensures.asked;
      stay = c.laws_of_asks.ensures.wrote;
      none = c.laws_of_asks.ensures.closes;
    } in
    let reply_of = g.H.Handlers.reply_of in
    let asked = c.in-Some.asked.now in
    let fabric = c.args.plain.now in
    let plain = c.ask.new.self in
    let posted = subst (λ (name : List ℕ). HasPosted Steps reply_of (Asked (name, asked.1) ∷ []) fabric plain) c.as_slice.ensures
    (one_asked reply_of (c.as_slice.result.now, asked.1) fabric plain (g.met.H.Handlers.replies_fit c.as_slice.result.now asked.1)
    (subst (λ (name : List ℕ). length (next_record fabric name asked.1) ≤ 10485760) (sym c.as_slice.ensures)
    (fits_segment (rewrite_of c.requires.shown.0 (wrote (length c.args.machine.now.out) c.requires.shown.1).state) (asked_with (fabric.drawn + 1) asked.0 asked.1)
    (c.in-Some.ensures.short c.requires.shown.0 (wrote (length c.args.machine.now.out) c.requires.shown.1) (fabric.drawn + 1)
    (c.in_ok-pass_out.ensures.shows c.requires.shown.0 c.requires.shown.1 c.requires.shown.2))))
    c.ask.ensures.shape c.in_ok-reply.ensures.done c.in_ok-reply.ensures.drawn c.in_ok-reply.ensures.sent c.in_ok-reply.ensures.trace) in
    replied laws ask_laws reply_of connection (numbered c.args.conf.now) bytes c.args.out.now c.pass_out.new.out asks c.args.machine.now c.pass_out.new.machine
    c.in_ok-pass_out.ensures.out c.in_ok-pass_out.ensures.shows c.asking.ensures.asking serving
    asked c.pass_out.new.machine.pending c.drawn.result c.on_reply.new.self fabric plain (omega (arith, c.drawn.ensures, c.in_ok-reply.ensures.drawn))
    (sym c.asking.ensures.value ∙ ap (option_map (λ asked. asked.now)) c.in-Some.is) c.in_ok-on_reply.ensures.ok posted

pub returns-clause-after : goal.returns-clause-after
returns-clause-after g c =
    let current = numbered c.args.conf.now in
    c.on_reply.ensures.after current (subst (λ (m : Held). IsAfter m.met current) (sym c.in_ok-pass_out.ensures.value) c.requires.after) (again current)
