use Rattle.conn_machine.proofs.OneLemmas.{one_reads, one_begins, one_closes, one_ends, one_replied, one_wrote}
use Rattle.conn_machine.proofs.UnitLaws.{UnitLaws}
use Rattle.conn_machine.proofs.laws.laws_of_one_configuration.Goals as goal
use Rattle.conn_machine.proofs.laws.laws_of_one_configuration.Goals.{After-laws_of_units}

reader_laws : (c : After-laws_of_units) → UnitLaws
reader_laws c = record {
  stays = c.laws_of_units.ensures.stays;
  begun = c.laws_of_units.ensures.begun;
  due = c.laws_of_units.ensures.due;
  unfinished = c.laws_of_units.ensures.unfinished;
  fits = c.laws_of_units.ensures.fits;
}

pub returns-clause-begins : goal.returns-clause-begins
returns-clause-begins c connection current bytes = one_begins (reader_laws c) connection current bytes

pub returns-clause-replied : goal.returns-clause-replied
returns-clause-replied c connection current bound bytes written a stream m used served drawn need way found =
    one_replied (reader_laws c) connection current bytes written a served bound stream m used drawn need way found

pub returns-clause-wrote : goal.returns-clause-wrote
returns-clause-wrote c connection current bytes written a n served = one_wrote (reader_laws c) connection current bytes written a served n

pub returns-clause-reads : goal.returns-clause-reads
returns-clause-reads c connection current bytes written a served reads =
    one_reads (reader_laws c) connection current bytes written a served c.laws_of_units.ensures.tells reads

pub returns-clause-closes : goal.returns-clause-closes
returns-clause-closes c connection current bytes written a served shown unasked =
    one_closes (reader_laws c) connection current bytes written a served c.laws_of_units.ensures.tells shown unasked

pub returns-clause-ends : goal.returns-clause-ends
returns-clause-ends c connection current bytes written a served need = one_ends (reader_laws c) connection current bytes written a served need
