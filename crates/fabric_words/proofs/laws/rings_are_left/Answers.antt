use Rattle.fabric_words.proofs.OwnPremises.{ring_is_left}
use Rattle.fabric_words.proofs.laws.rings_are_left.Goals as goal

pub returns : goal.returns
returns c = ring_is_left
