use Rattle.app_queue.proofs.KnownFrames.{words_known, words_known_one, words_known_set}
use Rattle.app_queue.proofs.laws.exact_words_stay_known.Goals as goal

pub returns-clause-stay : goal.returns-clause-stay
returns-clause-stay g c = words_known g.row.V.Denot g.J.Saying.says

pub returns-clause-one : goal.returns-clause-one
returns-clause-one g c = words_known_one g.row.V.Denot g.J.Saying.says

pub returns-clause-set : goal.returns-clause-set
returns-clause-set g c = words_known_set g.row.V.Denot g.J.Saying.says
