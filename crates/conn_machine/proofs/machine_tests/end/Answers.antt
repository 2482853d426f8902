use Rattle.conf_validate.specs.Current.{numbered}
use Rattle.conn_machine.proofs.GrowsLemmas.{after_self}
use Rattle.conn_machine.proofs.machine_tests.end.Goals as goal

pub on_end-requires-then-is_err-clause-after : goal.on_end-requires-then-is_err-clause-after
on_end-requires-then-is_err-clause-after c = let now = numbered c.args.conf.now in c.on_end.ensures.after now c.requires.after (after_self now)

pub returns-in_err-on_end-in-Input : goal.returns-in_err-on_end-in-Input
returns-in_err-on_end-in-Input c =
    let now = numbered c.args.conf.now in
    c.on_end-then-is_err.ensures.after now (c.on_end.ensures.after now c.requires.after (after_self now)) (after_self now)

pub returns-in_ok-on_end-in-Input : goal.returns-in_ok-on_end-in-Input
returns-in_ok-on_end-in-Input c =
    let now = numbered c.args.conf.now in
    c.on_end-then-is_err.ensures.after now (c.on_end.ensures.after now c.requires.after (after_self now)) (after_self now)

pub returns-else-is_err : goal.returns-else-is_err
returns-else-is_err c = let now = numbered c.args.conf.now in c.on_end.ensures.after now c.requires.after (after_self now)
