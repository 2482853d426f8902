use Rattle.conn_machine.proofs.AsksLemmas.{asks_begin, asks_over, asks_replied, few_asks, short_asks}
use Rattle.conn_machine.proofs.OneLemmas.{one_closes}
use Rattle.conn_machine.proofs.UnitLaws.{UnitLaws}
use Rattle.conn_machine.proofs.laws.laws_of_asks.Goals as goal
use Rattle.conn_machine.proofs.laws.laws_of_asks.Goals.{After-laws_of_records}
use Rattle.http_front.specs.Session.{request_limit}

reader_laws : (c : After-laws_of_records) → UnitLaws
reader_laws c = record {
  stays = c.laws_of_units.ensures.stays;
  begun = c.laws_of_units.ensures.begun;
  due = c.laws_of_units.ensures.due;
  unfinished = c.laws_of_units.ensures.unfinished;
  fits = c.laws_of_units.ensures.fits;
}

pub returns-clause-begins : goal.returns-clause-begins
returns-clause-begins c connection current bytes = asks_begin (reader_laws c) connection current bytes

pub returns-clause-asked : goal.returns-clause-asked
returns-clause-asked c connection current bound bytes written a asked stream m used served asking way found =
    asks_replied (reader_laws c) connection current bytes written a served bound asked stream m used asking way found

pub returns-clause-closes : goal.returns-clause-closes
returns-clause-closes c connection current bytes written a served shown unasked =
    asks_over (reader_laws c) connection current bytes written a served
    (one_closes (reader_laws c) connection current bytes written a served c.laws_of_units.ensures.tells shown unasked)

pub returns-clause-few : goal.returns-clause-few
returns-clause-few c connection conf bytes = few_asks connection conf request_limit bytes

pub returns-clause-short : goal.returns-clause-short
returns-clause-short c connection conf bytes stream kept = short_asks connection conf c.laws_of_records.ensures.rewritten kept stream request_limit bytes
