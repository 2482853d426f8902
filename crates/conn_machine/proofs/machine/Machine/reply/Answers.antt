use Rattle.std.proofs.Common.{◌∙◌, ◌<◌, ◌≤◌, ◌-◌, ap, sym, subst, Bor, Option, option_map, OnOk, OnErr, Result, Ok, Err}
use Rattle.std.proofs.lemmas.Result.{on_err_weaker}
use Rattle.unit_types.specs.declared.message.Request.{Request}
use Rattle.conn_machine.specs.Answers.{closes}
use Rattle.conn_machine.specs.Shows.{Held}
use Rattle.conn_machine.proofs.AnsweredLemmas.{replied_result}
use Rattle.conn_machine.proofs.BackLemmas.{grows_both}
use Rattle.conn_machine.proofs.CallLemmas.{more_low}
use Rattle.conn_machine.proofs.machine.Machine.reply.Goals as goal

on_err_always : {T E P : Type 0} (r : Result T E) → P → OnErr r P
on_err_always (Ok x) holds = tt
on_err_always (Err e) holds = holds

pub finish-requires-clause-going : goal.finish-requires-clause-going
finish-requires-clause-going g c = c.write_reply.ensures.going ∙ c.log_reply.ensures.going ∙ c.requires.going

pub finish-requires-clause-more : goal.finish-requires-clause-more
finish-requires-clause-more g c still =
    let asked : Option Request = option_map (λ (r : Bor Request). r.now) c.args.request in
    subst (λ n. 1 ≤ n - 1) (sym (c.write_reply.ensures.left ∙ c.log_reply.ensures.left ∙ sym (ap (λ (m : Held). m.left) c.self.view_is)))
    (more_low asked c.self.inside.left (sym c.closes-close.ensures ∙ still))

pub returns-in_err-write_reply-clause-going : goal.returns-in_err-write_reply-clause-going
returns-in_err-write_reply-clause-going g c = on_err_always _ (c.write_reply.ensures.going ∙ c.log_reply.ensures.going ∙ c.requires.going)

pub returns-in_err-write_reply-clause-grows : goal.returns-in_err-write_reply-clause-grows
returns-in_err-write_reply-clause-grows g c =
    grows_both c.args.self.now c.log_reply.new.self c.write_reply.new.self c.log_reply.ensures.grows c.write_reply.ensures.grows

pub returns-clause-ok : goal.returns-clause-ok
returns-clause-ok g c =
    let asked : Option Request = option_map (λ (r : Bor Request). r.now) c.args.request in
    replied_result c.finish.result asked c.args.reply.now c.args.stream c.args.kind c.is_to_head-head.result c.closes-close.result
    c.args.self.now c.log_reply.new.self c.write_reply.new.self c.finish.new.self
    c.in_ok-log_reply.ensures.ok c.in_ok-write_reply.ensures.ok c.finish.ensures.ok c.is_to_head-head.ensures
    (c.closes-close.ensures ∙ ap (closes asked) (ap (λ (m : Held). m.left) c.self.view_is))

pub returns-clause-left : goal.returns-clause-left
returns-clause-left g c =
    subst (λ n. OnOk c.finish.result (c.finish.new.self.left < n)) (c.write_reply.ensures.left ∙ c.log_reply.ensures.left) c.finish.ensures.left

pub returns-clause-going : goal.returns-clause-going
returns-clause-going g c =
    on_err_weaker c.finish.result
    (λ same. ap (λ (m : Held). m.closed) same ∙ c.write_reply.ensures.going ∙ c.log_reply.ensures.going ∙ c.requires.going) c.finish.ensures.err

pub returns-clause-grows : goal.returns-clause-grows
returns-clause-grows g c =
    grows_both c.args.self.now c.write_reply.new.self c.finish.new.self
    (grows_both c.args.self.now c.log_reply.new.self c.write_reply.new.self c.log_reply.ensures.grows c.write_reply.ensures.grows) c.finish.ensures.grows
