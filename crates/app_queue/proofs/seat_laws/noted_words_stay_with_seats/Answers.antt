use Rattle.app_queue.proofs.NotedFrames.{words_noted_split, words_noted_join}
use Rattle.app_queue.proofs.seat_laws.noted_words_stay_with_seats.Goals as goal

pub returns-clause-split : goal.returns-clause-split
returns-clause-split g c = words_noted_split g.row.V.Denot

pub returns-clause-join : goal.returns-clause-join
returns-clause-join g c = words_noted_join g.row.V.Denot
