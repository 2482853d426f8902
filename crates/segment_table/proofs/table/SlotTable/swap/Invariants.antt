use Rattle.segment_table.proofs.table.SlotTable.swap.Given as goal

abbrev pub ghosts-bring : goal.ghosts-bring
ghosts-bring g a = record { chunk = a._chunk }
