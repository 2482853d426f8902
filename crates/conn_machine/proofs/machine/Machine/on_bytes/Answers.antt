use Rattle.std.proofs.Common.{◌≡◌, ◌∙◌, arith, refl, sym, ap, subst, Option, None, Some, false, Result, Ok, Err, OnErr}
use Rattle.std.specs.Option.{is_some}
use Rattle.std.proofs.lemmas.Result.{on_err_weaker, on_ok_weaker}
use Rattle.conf_validate.specs.Current.{numbered}
use Rattle.http_front.specs.Kept.{Kept, HasRead}
use Rattle.conn_machine.specs.declared.pending.Pending.{Pending}
use Rattle.conn_machine.specs.declared.settling.Place.{Place}
use Rattle.conn_machine.specs.Calls.{on_bytes}
use Rattle.conn_machine.specs.Settling.{GoesBack, place_of}
use Rattle.conn_machine.specs.Shows.{Held, IsAfter, Shows, Stands}
use Rattle.conn_machine.specs.States.{Numbered}
use Rattle.conn_machine.specs.Steps.{fed, with_bytes}
use Rattle.conn_machine.proofs.FailedLemmas.{begins_back}
use Rattle.conn_machine.proofs.FedLemmas.{begun_shown, begun_stands, bytes_closed, bytes_waiting, fed_stands}
use Rattle.conn_machine.proofs.UnitLaws.{UnitLaws}
use Rattle.conn_machine.proofs.machine.Machine.on_bytes.Given.{Over}
use Rattle.conn_machine.proofs.machine.Machine.on_bytes.Goals as goal
use Rattle.conn_machine.proofs.machine.Machine.on_bytes.Goals.{After-laws_of_units}

reader_laws : (g : Over) → After-laws_of_units g → UnitLaws
reader_laws g c = record {
  stays = c.laws_of_units.ensures.stays;
  begun = c.laws_of_units.ensures.begun;
  due = c.laws_of_units.ensures.due;
  unfinished = c.laws_of_units.ensures.unfinished;
  fits = c.laws_of_units.ensures.fits;
}

none_waits : (p : Option Pending) → is_some p ≡ false → p ≡ None
none_waits None none = refl
none_waits (Some p) none = absurd (cc none)

where_failed : {T E P : Type 0} (r : Result T E) → P → OnErr r P
where_failed (Ok x) p = tt
where_failed (Err e) p = p

pub returns-then-self-clause-ok : goal.returns-then-self-clause-ok
returns-then-self-clause-ok g c connection a is =
    bytes_closed (reader_laws g (goal.at.returns-then-self-clause-ok g c).After-laws_of_units) g.H.Handlers.reply_of connection a c.args.self.now is.stands c.requires.ended
    c.args.piece.now (numbered c.args.conf.now) (sym (ap (λ (m : Held). m.closed) c.self.view_is) ∙ c.if-self.true)

pub returns-in_err-feed-clause-err : goal.returns-in_err-feed-clause-err
returns-in_err-feed-clause-err g c =
    where_failed c.from_residual.result (λ connection a is.
    let begun = c.self-2.view_is ∙ c.begin.ensures in
    subst (λ (h : Held). Shows g.H.Handlers.reply_of connection a (record h { reader = c.feed.new.self })) (sym begun)
    (begun_shown g.H.Handlers.reply_of connection a c.args.self.now c.feed.new.self
    (λ r read. c.in_err-feed.ensures.err r (subst (λ (k : Kept). HasRead r k) (sym (ap (λ (m : Held). m.reader) begun)) read)) is))

pub returns-in_err-feed-clause-after : goal.returns-in_err-feed-clause-after
returns-in_err-feed-clause-after g c next first now =
    subst (λ (o : Option Numbered). IsAfter o next) (sym (ap (λ (m : Held). m.met) (c.self-2.view_is ∙ c.begin.ensures))) first

pub returns-then-is_some-clause-ok : goal.returns-then-is_some-clause-ok
returns-then-is_some-clause-ok g c connection a is =
    let old = c.args.self.now in
    let begun = c.self-2.view_is ∙ c.begin.ensures in
    let going = sym (ap (λ (m : Held). m.closed) c.self.view_is) ∙ c.if-self.false in
    subst (λ (h : Held). Shows g.H.Handlers.reply_of connection (on_bytes connection (numbered c.args.conf.now) c.args.piece.now a) (record h { reader = c.feed.new.self }))
    (sym begun)
    (bytes_waiting (reader_laws g (goal.at.returns-then-is_some-clause-ok g c).After-laws_of_units) g.H.Handlers.reply_of connection a (record old { former = None })
    (begun_stands g.H.Handlers.reply_of connection a old is.stands) c.requires.ended c.args.piece.now (numbered c.args.conf.now) c.feed.new.self
    (λ r read. c.in_ok-feed.ensures.ok r (subst (λ (k : Kept). HasRead r k) (sym (ap (λ (m : Held). m.reader) begun)) read))
    c.is_bounded.ensures.most (c.is_bounded.ensures.one going) going
    (sym (ap (λ (m : Held). is_some m.pending) begun) ∙ sym c.if-is_some.ensures))

pub returns-then-is_some-clause-after : goal.returns-then-is_some-clause-after
returns-then-is_some-clause-after g c next first now =
    subst (λ (o : Option Numbered). IsAfter o next) (sym (ap (λ (m : Held). m.met) (c.self-2.view_is ∙ c.begin.ensures))) first

pub settle_or_go_back-requires-clause-after : goal.settle_or_go_back-requires-clause-after
settle_or_go_back-requires-clause-after g c =
    subst (λ (o : Option Numbered). IsAfter o (numbered c.args.conf.now)) (sym (ap (λ (m : Held). m.met) (c.self-2.view_is ∙ c.begin.ensures))) c.requires.after

pub settle_or_go_back-requires-clause-former : goal.settle_or_go_back-requires-clause-former
settle_or_go_back-requires-clause-former g c = ap (λ (m : Held). m.former) (c.self-2.view_is ∙ c.begin.ensures)

pub settle_or_go_back-requires-clause-way : goal.settle_or_go_back-requires-clause-way
settle_or_go_back-requires-clause-way g c way =
    let begun = c.self-2.view_is ∙ c.begin.ensures in
    ap (λ (m : Held). is_some m.met) begun
    ∙ c.is_bounded.ensures.way (sym (ap (λ (m : Held). m.is_under_way) begun) ∙ sym (ap (λ (p : Place). p.is_under_way) c.place-place.ensures) ∙ way)

pub settle_or_go_back-requires-clause-left : goal.settle_or_go_back-requires-clause-left
settle_or_go_back-requires-clause-left g c =
    let begun = c.self-2.view_is ∙ c.begin.ensures in
    let going = sym (ap (λ (m : Held). m.closed) c.self.view_is) ∙ c.if-self.false in
    let left = ap (λ (p : Place). p.left) c.place-place.ensures ∙ ap (λ (m : Held). m.left) begun in
    (omega (arith, left, c.is_bounded.ensures.most), λ still. omega (arith, left, c.is_bounded.ensures.one going))

pub returns-clause-ok : goal.returns-clause-ok
returns-clause-ok g c =
    on_ok_weaker c.settle_or_go_back.result (λ gives connection a is.
    let old = c.args.self.now in
    let begun = c.self-2.view_is ∙ c.begin.ensures in
    gives connection (record { told = with_bytes c.args.piece.now a.told; state = fed a.state c.args.piece.now })
    (subst (λ (h : Held). Stands g.H.Handlers.reply_of connection (record { told = with_bytes c.args.piece.now a.told; state = fed a.state c.args.piece.now }) (record h { reader = c.feed.new.self }))
    (sym begun)
    (fed_stands (reader_laws g (goal.at.returns-clause-ok g c).After-laws_of_units) g.H.Handlers.reply_of connection a (record old { former = None })
    (begun_stands g.H.Handlers.reply_of connection a old is.stands) c.requires.ended c.args.piece.now c.feed.new.self
    (λ r read. c.in_ok-feed.ensures.ok r (subst (λ (k : Kept). HasRead r k) (sym (ap (λ (m : Held). m.reader) begun)) read)))))
    c.settle_or_go_back.ensures.ok

pub returns-clause-err : goal.returns-clause-err
returns-clause-err g c =
    let old = c.args.self.now in
    let begun = c.self-2.view_is ∙ c.begin.ensures in
    on_err_weaker c.settle_or_go_back.result (λ gives. gives old
    (subst (λ (h : Held). GoesBack old c.place-place.result (record h { reader = c.feed.new.self })) (sym begun)
    (begins_back old c.feed.new.self old.ended old.pending c.place-place.result (c.place-place.ensures ∙ ap place_of begun)
    (λ r read. c.in_ok-feed.ensures.marked r (subst (λ (k : Kept). HasRead r k) (sym (ap (λ (m : Held). m.reader) begun)) read))
    c.is_bounded.ensures.way))
    (none_waits old.pending (sym (ap (λ (m : Held). is_some m.pending) begun) ∙ sym c.if-is_some.ensures)))
    c.settle_or_go_back.ensures.err

pub returns-clause-after : goal.returns-clause-after
returns-clause-after g c next first now =
    c.settle_or_go_back.ensures.after next
    (subst (λ (o : Option Numbered). IsAfter o next) (sym (ap (λ (m : Held). m.met) (c.self-2.view_is ∙ c.begin.ensures))) first) now
