use Rattle.conn_machine.proofs.CallLemmas.{opened_sound, bytes_sound, end_sound, answer_sound, gone_sound, wrote_sound}
use Rattle.conn_machine.proofs.UnitLaws.{UnitLaws}
use Rattle.conn_machine.proofs.laws.laws_of_calls.Goals as goal
use Rattle.conn_machine.proofs.laws.laws_of_calls.Goals.{After-laws_of_units}

reader_laws : (c : After-laws_of_units) → UnitLaws
reader_laws c = record {
  stays = c.laws_of_units.ensures.stays;
  begun = c.laws_of_units.ensures.begun;
  due = c.laws_of_units.ensures.due;
  unfinished = c.laws_of_units.ensures.unfinished;
  fits = c.laws_of_units.ensures.fits;
}

pub returns-clause-opened : goal.returns-clause-opened
returns-clause-opened c connection = opened_sound connection

pub returns-clause-bytes : goal.returns-clause-bytes
returns-clause-bytes c connection current a piece sound reaches unended stays_up =
    bytes_sound (reader_laws c) connection current a sound reaches piece unended stays_up

pub returns-clause-end : goal.returns-clause-end
returns-clause-end c connection current a sound reaches = end_sound (reader_laws c) connection current a sound reaches

pub returns-clause-answer : goal.returns-clause-answer
returns-clause-answer c connection current bound a r request reply used sound reaches way same turn =
    answer_sound (reader_laws c) connection current a sound reaches bound r request reply used way same turn

pub returns-clause-gone : goal.returns-clause-gone
returns-clause-gone c connection current a stream k sound reaches may = gone_sound (reader_laws c) connection current a sound reaches stream k may

pub returns-clause-wrote : goal.returns-clause-wrote
returns-clause-wrote c connection a n sound = wrote_sound (reader_laws c) connection a n sound
