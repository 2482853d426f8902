use Rattle.unit_model.proofs.ListPremises.{was_taken, was_posted, own_send, holder_sent}
use Rattle.unit_model.proofs.laws.own_lists_show_the_rest.Goals as goal

pub returns-clause-taken : goal.returns-clause-taken
returns-clause-taken c = was_taken

pub returns-clause-posted : goal.returns-clause-posted
returns-clause-posted c = was_posted

pub returns-clause-sends : goal.returns-clause-sends
returns-clause-sends c = own_send

pub returns-clause-sent : goal.returns-clause-sent
returns-clause-sent c = holder_sent
