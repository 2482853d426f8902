use Rattle.std.proofs.Common.{◌≡◌, ◌∙◌, arith, refl, sym, ap, subst, Option, None, Some, false, true}
use Rattle.std.specs.Option.{is_some}
use Rattle.std.proofs.lemmas.Result.{on_err_weaker, on_ok_weaker}
use Rattle.conf_validate.specs.Current.{numbered}
use Rattle.http_front.specs.Kept.{Kept, HasRead}
use Rattle.conn_machine.specs.declared.pending.Pending.{Pending}
use Rattle.conn_machine.specs.declared.settling.Place.{Place}
use Rattle.conn_machine.specs.Calls.{on_end}
use Rattle.conn_machine.specs.Settling.{GoesBack, place_of}
use Rattle.conn_machine.specs.Shows.{Held, IsAfter, Shows, Stands}
use Rattle.conn_machine.specs.States.{Numbered}
use Rattle.conn_machine.specs.Steps.{at_end}
use Rattle.conn_machine.proofs.FailedLemmas.{begins_back}
use Rattle.conn_machine.proofs.FedLemmas.{begun_stands, end_over, end_stands}
use Rattle.conn_machine.proofs.UnitLaws.{UnitLaws}
use Rattle.conn_machine.proofs.machine.Machine.on_end.Given.{Over}
use Rattle.conn_machine.proofs.machine.Machine.on_end.Goals as goal
use Rattle.conn_machine.proofs.machine.Machine.on_end.Goals.{After-laws_of_units, then-self-via-then-self, then-self-via-else-self+then-is_some}

reader_laws : (g : Over) → After-laws_of_units g → UnitLaws
reader_laws g c = record {
  stays = c.laws_of_units.ensures.stays;
  begun = c.laws_of_units.ensures.begun;
  due = c.laws_of_units.ensures.due;
  unfinished = c.laws_of_units.ensures.unfinished;
  fits = c.laws_of_units.ensures.fits;
}

none_waits : (p : Option Pending) → is_some p ≡ false → p ≡ None
none_waits None none = refl
none_waits (Some p) none = absurd (cc none)

pub returns-then-self-clause-ok : goal.returns-then-self-clause-ok
returns-then-self-clause-ok g c connection a is =
    let old = c.args.self.now in
    let now = ap (λ (m : Held). m.closed) c.self.view_is in
    let waits : old.closed ≡ false → is_some old.pending ≡ true = λ going. elim c.then-self.branch [
      | then-self-via-then-self w ↦ absurd (cc (sym w.if-self.true ∙ now ∙ going))
      | then-self-via-else-self+then-is_some w ↦ sym (ap (λ (m : Held). is_some m.pending) c.self.view_is) ∙ sym w.if-is_some.ensures
    ] in
    subst (λ (h : Held). Shows g.H.Handlers.reply_of connection (on_end connection (numbered c.args.conf.now) a) (record h { reader = c.end.new.self; ended = true }))
    (sym c.self.view_is)
    (end_over (reader_laws g (goal.at.returns-then-self-clause-ok g c).After-laws_of_units) g.H.Handlers.reply_of connection a old is.stands c.requires.ended
    (numbered c.args.conf.now) c.end.new.self
    (λ r read. c.end.ensures r (subst (λ (k : Kept). HasRead r k) (sym (ap (λ (m : Held). m.reader) c.self.view_is)) read))
    c.is_bounded.ensures.most c.is_bounded.ensures.one waits)

pub returns-then-self-clause-after : goal.returns-then-self-clause-after
returns-then-self-clause-after g c next first now =
    subst (λ (o : Option Numbered). IsAfter o next) (sym (ap (λ (m : Held). m.met) c.self.view_is)) first

pub settle_or_go_back-requires-clause-after : goal.settle_or_go_back-requires-clause-after
settle_or_go_back-requires-clause-after g c =
    subst (λ (o : Option Numbered). IsAfter o (numbered c.args.conf.now)) (sym (ap (λ (m : Held). m.met) (c.self-2.view_is ∙ c.begin.ensures))) c.requires.after

pub settle_or_go_back-requires-clause-former : goal.settle_or_go_back-requires-clause-former
settle_or_go_back-requires-clause-former g c = ap (λ (m : Held). m.former) (c.self-2.view_is ∙ c.begin.ensures)

pub settle_or_go_back-requires-clause-way : goal.settle_or_go_back-requires-clause-way
settle_or_go_back-requires-clause-way g c way =
    ap (λ (m : Held). is_some m.met) (c.self-2.view_is ∙ c.begin.ensures)
    ∙ c.is_bounded.ensures.way (sym (ap (λ (m : Held). m.is_under_way) c.begin.ensures) ∙ sym (ap (λ (p : Place). p.is_under_way) c.place-place.ensures) ∙ way)

pub settle_or_go_back-requires-clause-left : goal.settle_or_go_back-requires-clause-left
settle_or_go_back-requires-clause-left g c =
    let going = sym (ap (λ (m : Held). m.closed) c.self.view_is) ∙ c.if-self.false in
    let left = ap (λ (p : Place). p.left) c.place-place.ensures ∙ ap (λ (m : Held). m.left) c.begin.ensures in
    (omega (arith, left, c.is_bounded.ensures.most), λ still. omega (arith, left, c.is_bounded.ensures.one going))

pub returns-clause-ok : goal.returns-clause-ok
returns-clause-ok g c =
    on_ok_weaker c.settle_or_go_back.result (λ gives connection a is.
    let old = c.args.self.now in
    let begun = c.self-2.view_is ∙ c.begin.ensures in
    gives connection (record { told = a.told; state = at_end a.state })
    (subst (λ (h : Held). Stands g.H.Handlers.reply_of connection (record { told = a.told; state = at_end a.state }) (record h { reader = c.end_marked.new.self; ended = true }))
    (sym begun)
    (end_stands (reader_laws g (goal.at.returns-clause-ok g c).After-laws_of_units) g.H.Handlers.reply_of connection a (record old { former = None })
    (begun_stands g.H.Handlers.reply_of connection a old is.stands) c.requires.ended c.end_marked.new.self
    (λ r read. c.end_marked.ensures.read r (subst (λ (k : Kept). HasRead r k) (sym (ap (λ (m : Held). m.reader) begun)) read)))))
    c.settle_or_go_back.ensures.ok

pub returns-clause-err : goal.returns-clause-err
returns-clause-err g c =
    let old = c.args.self.now in
    let begun = c.self-2.view_is ∙ c.begin.ensures in
    on_err_weaker c.settle_or_go_back.result (λ gives. gives old
    (subst (λ (h : Held). GoesBack old c.place-place.result (record h { reader = c.end_marked.new.self; ended = true })) (sym begun)
    (begins_back old c.end_marked.new.self true old.pending c.place-place.result (c.place-place.ensures ∙ ap place_of c.begin.ensures)
    (λ r read. c.end_marked.ensures.marked r (subst (λ (k : Kept). HasRead r k) (sym (ap (λ (m : Held). m.reader) begun)) read))
    c.is_bounded.ensures.way))
    (none_waits old.pending (sym (ap (λ (m : Held). is_some m.pending) c.self.view_is) ∙ sym c.if-is_some.ensures)))
    c.settle_or_go_back.ensures.err

pub returns-clause-after : goal.returns-clause-after
returns-clause-after g c next first now =
    c.settle_or_go_back.ensures.after next
    (subst (λ (o : Option Numbered). IsAfter o next) (sym (ap (λ (m : Held). m.met) (c.self-2.view_is ∙ c.begin.ensures))) first) now

pub returns-clause-ended : goal.returns-clause-ended
returns-clause-ended g c =
    on_err_weaker c.settle_or_go_back.result (λ same. same ∙ ap (λ (p : Place). p.ended) (c.place-place.ensures ∙ ap place_of c.begin.ensures) ∙ c.requires.ended)
    c.settle_or_go_back.ensures.ended_err
