use Rattle.app_queue.proofs.ItemFrames.{free_stay, free_lines_stay, free_put, free_take}
use Rattle.app_queue.proofs.laws.tags_of_free_items_stay.Goals as goal

pub returns-clause-stay : goal.returns-clause-stay
returns-clause-stay c = free_stay

pub returns-clause-lines : goal.returns-clause-lines
returns-clause-lines c = free_lines_stay

pub returns-clause-put : goal.returns-clause-put
returns-clause-put c = free_put

pub returns-clause-take : goal.returns-clause-take
returns-clause-take c = free_take
