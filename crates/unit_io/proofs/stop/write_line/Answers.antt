use Rattle.unit_io.proofs.stop.write_line.Goals as goal

pub returns-in-Usage-clause-all : goal.returns-in-Usage-clause-all
returns-in-Usage-clause-all g c = rw c.in-Usage.is c.write_all.ensures.all

pub returns-in-Write-clause-all : goal.returns-in-Write-clause-all
returns-in-Write-clause-all g c = rw c.in-Write.is c.write_all-in-Write.ensures.all

pub returns-in-Memory-clause-all : goal.returns-in-Memory-clause-all
returns-in-Memory-clause-all g c = rw c.in-Memory.is c.write_all-in-Memory.ensures.all

pub returns-in-Input-clause-all : goal.returns-in-Input-clause-all
returns-in-Input-clause-all g c = rw c.in-Input.is c.write_input_line.ensures.all

pub returns-in-Illegal-clause-all : goal.returns-in-Illegal-clause-all
returns-in-Illegal-clause-all g c = rw c.in-Illegal.is c.write_all-in-Illegal.ensures.all
