use Rattle.segment_table.proofs.laws.free_chunks_are_empty.Goals as goal

pub returns : goal.returns
returns g c n s holds chunk lt free = holds.free chunk lt free
