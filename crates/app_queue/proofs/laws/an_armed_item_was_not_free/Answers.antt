use Rattle.app_queue.proofs.ItemFrames.{free_arm}
use Rattle.app_queue.proofs.laws.an_armed_item_was_not_free.Goals as goal

pub returns : goal.returns
returns c = free_arm
