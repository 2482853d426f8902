use Rattle.app_queue.proofs.HistoryFrames.{histories_stay, history_step}
use Rattle.app_queue.proofs.laws.histories_stay.Goals as goal

pub returns-clause-stay : goal.returns-clause-stay
returns-clause-stay g c = histories_stay g.row.V.Denot

pub returns-clause-step : goal.returns-clause-step
returns-clause-step g c = history_step g.row.V.Denot
