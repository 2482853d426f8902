use Rattle.unit_model.proofs.HeldSound.{all_free_at_rest}
use Rattle.unit_model.proofs.laws.chunks_are_free_at_rest.Goals as goal

pub returns : goal.returns
returns c = all_free_at_rest
