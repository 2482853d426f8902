use Rattle.nncq_ring.proofs.Rising.{room_left}
use Rattle.nncq_ring.proofs.laws.there_is_room.Goals as goal

pub returns : goal.returns
returns c n w held fine all mine = room_left n w held fine all mine
