use Rattle.app_queue.proofs.ItemFrames.{items_move, items_stay, held_is_out}
use Rattle.app_queue.proofs.laws.items_stay_owned.Goals as goal

pub returns-clause-stay : goal.returns-clause-stay
returns-clause-stay g c = items_stay g.row.V.Denot

pub returns-clause-moves : goal.returns-clause-moves
returns-clause-moves g c = items_move g.row.V.Denot

pub returns-clause-out : goal.returns-clause-out
returns-clause-out g c = held_is_out g.row.V.Denot
