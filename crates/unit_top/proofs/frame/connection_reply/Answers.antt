use Rattle.std.proofs.Common.{◌≡◌, ℕ, List, IfOk, OnOk, map, subst}
use Rattle.conf_book.specs.Books.{documents_of, newest_document}
use Rattle.conf_validate.specs.Configuration.{Configuration, configuration_of}
use Rattle.conf_validate.specs.Current.{numbered}
use Rattle.conn_machine.specs.Asks.{asks_of}
use Rattle.unit_top.specs.Connections.{connection_at, output_of}
use Rattle.unit_top.specs.Posting.{Asked, HasPosted}
use Rattle.unit_top.specs.declared.connection.Arrived.{Arrived}
use Rattle.unit_top.proofs.ScriptLemmas.{newest_is}
use Rattle.unit_top.proofs.frame.connection_reply.Goals as goal

pub returns-clause-reply : goal.returns-clause-reply
returns-clause-reply g c =
    let reply_of = g.H.Handlers.reply_of in
    let conf_is : (numbered c.newest.result.now).1 ≡ configuration_of (newest_document (documents_of c.args.book.now)) =
    newest_is c.args.book.now (numbered c.newest.result.now) c.is_book.ensures c.newest.ensures in
    subst (λ (x : List ℕ). IfOk c.connection_output.result (λ out. out ≡ x))
    (λ i. output_of (connection_at reply_of (c.in_ok-arrived.ensures i).listener (c.in_ok-arrived.ensures i).port) (conf_is i) (c.in_ok-arrived.ensures i).bytes)
    c.connection_output.ensures.out

pub returns-clause-posted : goal.returns-clause-posted
returns-clause-posted g c =
    let reply_of = g.H.Handlers.reply_of in
    let conf_is : (numbered c.newest.result.now).1 ≡ configuration_of (newest_document (documents_of c.args.book.now)) =
    newest_is c.args.book.now (numbered c.newest.result.now) c.is_book.ensures c.newest.ensures in
    subst (λ (a : Arrived). OnOk c.connection_output.result (HasPosted c.args.output reply_of
    (map Asked (asks_of (connection_at reply_of a.listener a.port) (configuration_of (newest_document (documents_of c.args.book.now))) a.bytes)) c.args.plain.now c.connection_output.new.plain)) c.in_ok-arrived.ensures
    (subst (λ (conf : Configuration). OnOk c.connection_output.result (HasPosted c.args.output reply_of
    (map Asked (asks_of (connection_at reply_of c.in_ok-arrived.arrived.listener c.in_ok-arrived.arrived.port) conf c.in_ok-arrived.arrived.bytes)) c.args.plain.now c.connection_output.new.plain)) conf_is
    c.connection_output.ensures.posted)
