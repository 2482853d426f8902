use Rattle.std.proofs.Common.{◌≡◌, ◌≤◌, [], ℕ, subst}
use Rattle.conf_validate.specs.Current.{numbered}
use Rattle.conn_machine.specs.Answers.{Connection}
use Rattle.conn_machine.specs.Asks.{asks_of}
use Rattle.conn_machine.specs.Calls.{on_bytes, on_end, opened}
use Rattle.conn_machine.specs.Shows.{connection_of}
use Rattle.unit_top.specs.Connections.{IsServing, connection_at}
use Rattle.unit_top.proofs.ConnectionLemmas.{again, left_is}
use Rattle.unit_top.proofs.connection.begun.Goals as goal

pub on_end-requires-clause-after : goal.on_end-requires-clause-after
on_end-requires-clause-after g c = c.in_ok-machine.ensures.after (numbered c.args.conf.now) (again (numbered c.args.conf.now))

pub returns-clause-serving : goal.returns-clause-serving
returns-clause-serving g c =
    let current = numbered c.args.conf.now in
    let bytes = c.args.arrived.bytes in
    let connection = connection_of c.args.arrived.listener c.client_address-from.result c.listener_address-to.result g.H.Handlers.reply_of in
    let same : connection ≡ connection_at g.H.Handlers.reply_of c.args.arrived.listener c.args.arrived.port =
    (λ i. connection_of c.args.arrived.listener (c.client_address-from.ensures i) (c.listener_address-to.ensures i) g.H.Handlers.reply_of) in
    let came = on_bytes connection current bytes opened in
    subst (λ (at : Connection). IsServing g.H.Handlers.reply_of at current bytes [] (asks_of at current.1 bytes) c.on_end.new.self) same
    (record {
      account = on_end connection current came;
      shows = c.in_ok-on_end.ensures.ok connection came c.in_ok-machine.ensures.shows;
      served = c.laws_of_one_configuration.ensures.begins connection current bytes;
      left = c.laws_of_asks.ensures.begins connection current bytes;
    })

pub returns-clause-left : goal.returns-clause-left
returns-clause-left g c =
    let current = numbered c.args.conf.now in
    let bytes = c.args.arrived.bytes in
    let connection = connection_of c.args.arrived.listener c.client_address-from.result c.listener_address-to.result g.H.Handlers.reply_of in
    let came = on_bytes connection current bytes opened in
    let same = left_is g.H.Handlers.reply_of connection (on_end connection current came) c.on_end.new.self (c.in_ok-on_end.ensures.ok connection came c.in_ok-machine.ensures.shows) in
    subst (λ (n : ℕ). n ≤ 1000) same (c.laws_of_one_configuration.ensures.begins connection current bytes).sound.most

pub returns-clause-after : goal.returns-clause-after
returns-clause-after g c =
    let current = numbered c.args.conf.now in
    c.on_end.ensures.after current (c.in_ok-machine.ensures.after current (again current)) (again current)
