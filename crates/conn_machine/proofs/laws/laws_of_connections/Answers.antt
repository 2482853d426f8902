use Rattle.conn_machine.specs.Calls.{opened}
use Rattle.conn_machine.proofs.ConnectionLemmas.{calls_sound, written_behind, written_now}
use Rattle.conn_machine.proofs.CallLemmas.{opened_sound}
use Rattle.conn_machine.proofs.UnitLaws.{UnitLaws}
use Rattle.conn_machine.proofs.laws.laws_of_connections.Goals as goal
use Rattle.conn_machine.proofs.laws.laws_of_connections.Goals.{After-laws_of_units}

reader_laws : (c : After-laws_of_units) → UnitLaws
reader_laws c = record {
  stays = c.laws_of_units.ensures.stays;
  begun = c.laws_of_units.ensures.begun;
  due = c.laws_of_units.ensures.due;
  unfinished = c.laws_of_units.ensures.unfinished;
  fits = c.laws_of_units.ensures.fits;
}

pub returns-clause-written : goal.returns-clause-written
returns-clause-written c connection confs calls may agrees = written_behind (reader_laws c) connection confs calls may agrees

pub returns-clause-sound : goal.returns-clause-sound
returns-clause-sound c connection calls may = (calls_sound (reader_laws c) connection opened calls (opened_sound connection) may).0

pub returns-clause-account : goal.returns-clause-account
returns-clause-account c connection confs a sound agrees = written_now (reader_laws c) connection confs a sound agrees
