use Rattle.std.proofs.Common.{◌≡◌, ◌∙◌, sym, ap, subst, not, false}
use Rattle.std.specs.Option.{is_some}
use Rattle.conn_machine.specs.Shows.{Held, Shows}
use Rattle.conn_machine.proofs.FailedLemmas.{failed_first, failed_shown, idle_unmet, there_again}
use Rattle.conn_machine.proofs.machine.Machine.settle_or_go_back.Goals as goal
use Rattle.conn_machine.proofs.machine.Machine.settle_or_go_back.Given.{Over}
use Rattle.conn_machine.proofs.machine.Machine.settle_or_go_back.Goals.{Then-is_first}

unmet_is : (g : Over) (c : Then-is_first g) → is_some c.args.self.now.met ≡ false
unmet_is g c = sym (ap (λ (m : Held). is_some m.met) c.self.view_is) ∙ c.is_none-is_first.ensures ∙ ap not c.if-is_first.true

pub go_back-requires-clause-way : goal.go_back-requires-clause-way
go_back-requires-clause-way g c way =
    there_again c.args.self.now c.settle.new.self c.settle.ensures.grows c.requires.former (c.requires.way way)

pub unmeet-requires : goal.unmeet-requires
unmeet-requires g c =
    ap (λ (m : Held). m.is_under_way) c.go_back.ensures.held ∙ idle_unmet c.args.self.now c.args.place.is_under_way c.requires.way (unmet_is g (goal.at.unmeet-requires g c).Then-is_first)

pub returns-then-is_first-clause-err : goal.returns-then-is_first-clause-err
returns-then-is_first-clause-err g c before back none connection a shows =
    subst (λ (m : Held). Shows g.H.Handlers.reply_of connection a m) (sym c.unmeet.ensures)
    (failed_first g.H.Handlers.reply_of connection a before c.args.self.now c.settle.new.self c.go_back.new.self c.args.place back
    c.settle.ensures.grows none c.go_back.ensures.held c.go_back.ensures.reader c.requires.former (unmet_is g (goal.at.returns-then-is_first-clause-err g c).Then-is_first) shows)

pub returns-else-is_first-clause-err : goal.returns-else-is_first-clause-err
returns-else-is_first-clause-err g c before back none connection a shows =
    failed_shown g.H.Handlers.reply_of connection a before c.args.self.now c.settle.new.self c.go_back.new.self c.args.place back
    c.settle.ensures.grows none c.go_back.ensures.held c.go_back.ensures.reader shows
