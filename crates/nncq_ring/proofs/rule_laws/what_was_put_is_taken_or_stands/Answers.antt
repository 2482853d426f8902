use Rattle.nncq_ring.proofs.rule_laws.what_was_put_is_taken_or_stands.Goals as goal

pub returns : goal.returns
returns c key s holds g = holds.moved g
