use Rattle.std.proofs.Common.{arith}
use Rattle.chunk_map.proofs.WordChanges.{cleared_here, cleared_there}
use Rattle.chunk_map.proofs.search.clear.Goals as goal

pub returns-clause-here : goal.returns-clause-here
returns-clause-here c = cleared_here c.args.words.now c.args.chunk (omega (arith, c.requires, c.told-words))

pub returns-clause-others : goal.returns-clause-others
returns-clause-others c other ne = cleared_there c.args.words.now c.args.chunk other (omega (arith, c.requires, c.told-words)) ne
