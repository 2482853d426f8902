use Rattle.app_queue.proofs.NotedFrames.{words_noted, words_noted_set}
use Rattle.app_queue.proofs.laws.words_stay_noted.Goals as goal

pub returns-clause-stay : goal.returns-clause-stay
returns-clause-stay g c = words_noted g.row.V.Denot

pub returns-clause-set : goal.returns-clause-set
returns-clause-set g c = words_noted_set g.row.V.Denot
