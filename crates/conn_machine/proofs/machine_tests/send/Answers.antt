use Rattle.std.proofs.Common.{sym, subst}
use Rattle.conf_validate.specs.Current.{numbered}
use Rattle.conn_machine.specs.Shows.{Held, IsAfter}
use Rattle.conn_machine.proofs.GrowsLemmas.{after_self}
use Rattle.conn_machine.proofs.machine_tests.send.Goals as goal
use Rattle.conn_machine.proofs.machine_tests.send.Goals.{then-is_err+in_ok-on_bytes, else-is_err}

pub on_bytes-requires-then-is_err-clause-after : goal.on_bytes-requires-then-is_err-clause-after
on_bytes-requires-then-is_err-clause-after c = let now = numbered c.args.conf.now in c.on_bytes.ensures.after now c.requires.after (after_self now)

pub returns-in_err-on_bytes-clause-after : goal.returns-in_err-on_bytes-clause-after
returns-in_err-on_bytes-clause-after c =
    let now = numbered c.args.conf.now in
    c.on_bytes-then-is_err.ensures.after now (c.on_bytes.ensures.after now c.requires.after (after_self now)) (after_self now)

pub serve_all-requires : goal.serve_all-requires
serve_all-requires c =
    let now = numbered c.args.conf.now in
    let first = c.on_bytes.ensures.after now c.requires.after (after_self now) in
    elim c.if-is_err.branch [
      | then-is_err+in_ok-on_bytes w ↦
          subst (λ (m : Held). IsAfter m.met now) (sym w.machine-is) (w.on_bytes-then-is_err.ensures.after now first (after_self now))
      | else-is_err w ↦ subst (λ (m : Held). IsAfter m.met now) (sym w.machine-is) first
    ]
