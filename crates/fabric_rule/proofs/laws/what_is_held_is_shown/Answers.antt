use Rattle.fabric_rule.proofs.Frames.{chunks_move, chunks_stay, item_moves, items_stay}
use Rattle.fabric_rule.proofs.laws.what_is_held_is_shown.Goals as goal

pub returns-clause-items : goal.returns-clause-items
returns-clause-items c = items_stay

pub returns-clause-item : goal.returns-clause-item
returns-clause-item c = item_moves

pub returns-clause-chunks : goal.returns-clause-chunks
returns-clause-chunks c = chunks_stay

pub returns-clause-run : goal.returns-clause-run
returns-clause-run c = chunks_move
