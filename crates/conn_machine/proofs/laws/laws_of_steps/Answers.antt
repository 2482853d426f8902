use Rattle.conn_machine.proofs.StepLemmas.{follows_begin, follows_fed, follows_end, follows_head, follows_reply, follows_close, follows_between, follows_given_up, follows_shown}
use Rattle.conn_machine.proofs.UnitLaws.{UnitLaws}
use Rattle.conn_machine.proofs.laws.laws_of_steps.Goals as goal
use Rattle.conn_machine.proofs.laws.laws_of_steps.Goals.{After-laws_of_units}

reader_laws : (c : After-laws_of_units) → UnitLaws
reader_laws c = record {
  stays = c.laws_of_units.ensures.stays;
  begun = c.laws_of_units.ensures.begun;
  due = c.laws_of_units.ensures.due;
  unfinished = c.laws_of_units.ensures.unfinished;
  fits = c.laws_of_units.ensures.fits;
}

pub returns-clause-begin : goal.returns-clause-begin
returns-clause-begin c connection = follows_begin connection

pub returns-clause-fed : goal.returns-clause-fed
returns-clause-fed c connection t s piece is goes_on stays_up = follows_fed (reader_laws c) connection t s is piece goes_on stays_up

pub returns-clause-ended : goal.returns-clause-ended
returns-clause-ended c connection t s is = follows_end (reader_laws c) connection t s is

pub returns-clause-head : goal.returns-clause-head
returns-clause-head c connection t s bound is goes_on free begun low =
    follows_head (reader_laws c) connection t s bound is goes_on free begun low

pub returns-clause-reply : goal.returns-clause-reply
returns-clause-reply c connection t s bound r request reply used is goes_on way same found =
    follows_reply (reader_laws c) connection t s bound r is goes_on way same request reply used found

pub returns-clause-end : goal.returns-clause-end
returns-clause-end c connection t s bound r is goes_on way same found =
    follows_close (reader_laws c) connection t s bound r is goes_on way same found

pub returns-clause-between : goal.returns-clause-between
returns-clause-between c connection t s r is goes_on free begun may low =
    follows_between connection t s r is goes_on free begun may low

pub returns-clause-given_up : goal.returns-clause-given_up
returns-clause-given_up c connection t s is = follows_given_up (reader_laws c) connection t s is

pub returns-clause-shown : goal.returns-clause-shown
returns-clause-shown c connection t s front rest is parts = follows_shown (reader_laws c) connection t s is front rest parts
