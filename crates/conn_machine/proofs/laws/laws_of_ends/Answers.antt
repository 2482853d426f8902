use Rattle.conn_machine.proofs.EndLemmas.{session_now, lines_now, way_now, front_now, over_now}
use Rattle.conn_machine.proofs.NeedLemmas.{reads_now, asking_now}
use Rattle.conn_machine.proofs.UnitLaws.{UnitLaws}
use Rattle.conn_machine.proofs.laws.laws_of_ends.Goals as goal
use Rattle.conn_machine.proofs.laws.laws_of_ends.Goals.{After-laws_of_units}

reader_laws : (c : After-laws_of_units) → UnitLaws
reader_laws c = record {
  stays = c.laws_of_units.ensures.stays;
  begun = c.laws_of_units.ensures.begun;
  due = c.laws_of_units.ensures.due;
  unfinished = c.laws_of_units.ensures.unfinished;
  fits = c.laws_of_units.ensures.fits;
}

pub returns-clause-session : goal.returns-clause-session
returns-clause-session c connection t s confs is settled agrees = session_now (reader_laws c) connection t s confs is settled agrees

pub returns-clause-lines : goal.returns-clause-lines
returns-clause-lines c connection t s confs is settled agrees = lines_now connection t s confs is agrees settled

pub returns-clause-way : goal.returns-clause-way
returns-clause-way c connection t s confs is settled agrees = way_now connection t s confs is agrees settled

pub returns-clause-front : goal.returns-clause-front
returns-clause-front c connection t s confs receipts more ended session is agrees fits goes session_is =
    front_now connection t s confs receipts more ended session is agrees fits goes session_is

pub returns-clause-over : goal.returns-clause-over
returns-clause-over c connection t s confs is settled agrees stays_up empty = over_now connection t s confs is settled agrees stays_up empty

pub returns-clause-reads : goal.returns-clause-reads
returns-clause-reads c connection s settled is = reads_now connection s settled is

pub returns-clause-asks : goal.returns-clause-asks
returns-clause-asks c connection s = asking_now connection s
