use Rattle.unit_model.proofs.StreamClasses.{streams_add_up}
use Rattle.unit_model.proofs.laws.the_account_is_whole.Goals as goal

pub returns : goal.returns
returns c core counts parts = streams_add_up core counts parts
