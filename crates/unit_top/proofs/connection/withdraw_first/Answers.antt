use Rattle.std.proofs.Common.{◌≡◌, ◌∙◌, ◌≤◌, ◌+◌, ap, sym, subst, List, [], ◌∷◌, ℕ, map, take, option_map, length, refl, arith}
use Rattle.conf_validate.specs.Current.{numbered}
use Rattle.conn_machine.specs.Asks.{asks_of}
use Rattle.conn_machine.specs.Calls.{wrote}
use Rattle.conn_machine.specs.Records.{rewrite_of}
use Rattle.plain_fabric.specs.Plains.{next_record}
use Rattle.request_context.specs.Record.{IsRecordable, asked_with}
use Rattle.unit_top.specs.Connections.{connection_at}
use Rattle.unit_top.specs.Posting.{Asking, HasPosted, Withdrawn}
use Rattle.unit_top.specs.declared.fabric.Output.TheVariants.{Steps}
use Rattle.unit_top.proofs.ConnectionLemmas.{AskLaws, OneLaws, first_left, fits_segment, none_left}
use Rattle.unit_top.proofs.PostingLemmas.{none_posted, one_withdrawn}
use Rattle.unit_top.proofs.connection.withdraw_first.Goals as goal

pub ask_gone-requires-clause-written : goal.ask_gone-requires-clause-written
ask_gone-requires-clause-written g c =
    let at = connection_at g.H.Handlers.reply_of c.args.arrived.listener c.args.arrived.port in
    let serving = c.in_ok-machine.ensures.serving in
    let stream = c.args.plain.now.drawn + 1 in
    let shows = c.pass_by.ensures.shows at serving.account serving.shows in
    subst (λ (name : List ℕ). IsRecordable (asked_with stream name c.in-Some.asked.now.1)) (sym c.as_slice.ensures)
    (c.in-Some.ensures.short at (wrote (length c.in_ok-machine.machine.out) serving.account) stream shows).can

pub ask_gone-requires-clause-fits : goal.ask_gone-requires-clause-fits
ask_gone-requires-clause-fits g c =
    let at = connection_at g.H.Handlers.reply_of c.args.arrived.listener c.args.arrived.port in
    let serving = c.in_ok-machine.ensures.serving in
    let a = wrote (length c.in_ok-machine.machine.out) serving.account in
    let stream = c.args.plain.now.drawn + 1 in
    let shows = c.pass_by.ensures.shows at serving.account serving.shows in
    subst (λ (name : List ℕ). length (next_record c.args.plain.now name c.in-Some.asked.now.1) ≤ 10485760) (sym c.as_slice.ensures)
    (fits_segment (rewrite_of at a.state) (asked_with stream c.in-Some.asked.now.0 c.in-Some.asked.now.1) (c.in-Some.ensures.short at a stream shows))

pub returns-in_default-clause-posted : goal.returns-in_default-clause-posted
returns-in_default-clause-posted g c =
    let laws : OneLaws = record {
      replied = c.laws_of_one_configuration.ensures.replied;
      writes = c.laws_of_one_configuration.ensures.wrote;
      closes = c.laws_of_one_configuration.ensures.closes;
      ends = c.laws_of_one_configuration.ensures.ends;
      asks = c.laws_of_ends.ensures.asks;
    } in
    let ask_laws : AskLaws = record {
      asked = c.laws_of_asks.ensures.asked;
      stay = c.laws_of_asks.ensures.wrote;
      none = c.laws_of_asks.ensures.closes;
    } in
    let reply_of = g.H.Handlers.reply_of in
    let at = connection_at reply_of c.args.arrived.listener c.args.arrived.port in
    let current = numbered c.args.conf.now in
    let asks = asks_of at current.1 c.args.arrived.bytes in
    let none : asks ≡ [] =
    none_left laws ask_laws reply_of at current c.args.arrived.bytes [] c.in_ok-machine.machine.out asks c.in_ok-machine.machine c.pass_by.new.machine
    refl c.pass_by.ensures.shows c.asking.ensures.asking c.in_ok-machine.ensures.serving
    (sym c.asking.ensures.value ∙ ap (option_map (λ asked. asked.now)) c.in_default.is) in
    subst (λ (left : List Asking). HasPosted c.args.output reply_of (map Withdrawn (take 1 left)) c.args.plain.now c.args.plain.now) (sym none)
    (none_posted reply_of c.args.output c.args.plain.now c.requires.whole c.requires.kept)

pub returns-clause-posted : goal.returns-clause-posted
returns-clause-posted g c =
    let laws : OneLaws = record {
      replied = c.laws_of_one_configuration.ensures.replied;
      writes = c.laws_of_one_configuration.ensures.wrote;
      closes = c.laws_of_one_configuration.ensures.closes;
      ends = c.laws_of_one_configuration.ensures.ends;
      asks = c.laws_of_ends.ensures.asks;
    } in
    let ask_laws : AskLaws = record {
      asked = c.laws_of_asks.ensures.asked;
      stay = c.laws_of_asks.ensures.wrote;
      none = c.laws_of_asks.ensures.closes;
    } in
    let reply_of = g.H.Handlers.reply_of in
    let at = connection_at reply_of c.args.arrived.listener c.args.arrived.port in
    let current = numbered c.args.conf.now in
    let asks = asks_of at current.1 c.args.arrived.bytes in
    let asked = c.in-Some.asked.now in
    let fabric = c.args.plain.now in
    let plain = c.ask_gone.new.self in
    let first : take 1 asks ≡ asked ∷ [] =
    first_left laws ask_laws reply_of at current c.args.arrived.bytes [] c.in_ok-machine.machine.out asks c.in_ok-machine.machine c.pass_by.new.machine
    refl c.pass_by.ensures.shows c.asking.ensures.asking c.in_ok-machine.ensures.serving asked
    (sym c.asking.ensures.value ∙ ap (option_map (λ asked. asked.now)) c.in-Some.is) in
    let posted = subst (λ (name : List ℕ). HasPosted Steps reply_of (Withdrawn (name, asked.1) ∷ []) fabric plain) c.as_slice.ensures
    (one_withdrawn reply_of (c.as_slice.result.now, asked.1) fabric plain (subst (λ (name : List ℕ). length (next_record c.args.plain.now name c.in-Some.asked.now.1) ≤ 10485760) (sym c.as_slice.ensures)
    (fits_segment (rewrite_of at (wrote (length c.in_ok-machine.machine.out) c.in_ok-machine.ensures.serving.account).state) (asked_with (c.args.plain.now.drawn + 1) c.in-Some.asked.now.0 c.in-Some.asked.now.1)
    (c.in-Some.ensures.short at (wrote (length c.in_ok-machine.machine.out) c.in_ok-machine.ensures.serving.account) (c.args.plain.now.drawn + 1)
    (c.pass_by.ensures.shows at c.in_ok-machine.ensures.serving.account c.in_ok-machine.ensures.serving.shows))))
    c.ask_gone.ensures.shape c.in_ok-ask_gone.ensures.done c.in_ok-ask_gone.ensures.drawn c.in_ok-ask_gone.ensures.sent c.in_ok-ask_gone.ensures.trace) in
    subst (λ (left : List Asking). HasPosted c.args.output reply_of (map Withdrawn left) fabric c.keep_steps.new.plain) (sym first)
    (c.keep_steps.ensures reply_of (Withdrawn asked ∷ []) fabric posted)

pub returns-clause-few : goal.returns-clause-few
returns-clause-few g c =
    let reply_of = g.H.Handlers.reply_of in
    let at = connection_at reply_of c.args.arrived.listener c.args.arrived.port in
    let asked : Asking = (c.as_slice.result.now, c.in-Some.asked.now.1) in
    let posted = one_withdrawn reply_of asked c.args.plain.now c.ask_gone.new.self
    (subst (λ (name : List ℕ). length (next_record c.args.plain.now name c.in-Some.asked.now.1) ≤ 10485760) (sym c.as_slice.ensures)
    (fits_segment (rewrite_of at (wrote (length c.in_ok-machine.machine.out) c.in_ok-machine.ensures.serving.account).state) (asked_with (c.args.plain.now.drawn + 1) c.in-Some.asked.now.0 c.in-Some.asked.now.1)
    (c.in-Some.ensures.short at (wrote (length c.in_ok-machine.machine.out) c.in_ok-machine.ensures.serving.account) (c.args.plain.now.drawn + 1)
    (c.pass_by.ensures.shows at c.in_ok-machine.ensures.serving.account c.in_ok-machine.ensures.serving.shows))))
    c.ask_gone.ensures.shape c.in_ok-ask_gone.ensures.done c.in_ok-ask_gone.ensures.drawn c.in_ok-ask_gone.ensures.sent c.in_ok-ask_gone.ensures.trace in
    let kept = c.keep_steps.ensures reply_of (Withdrawn asked ∷ []) c.args.plain.now posted in
    omega (arith, kept.behind.drawn)
