use Rattle.chunk_map.proofs.laws.closed_segments_are_free.Goals as goal

pub returns : goal.returns
returns c n s holds = holds.opened.closed
